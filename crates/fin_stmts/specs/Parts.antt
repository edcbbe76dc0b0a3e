-- That the parts of a nest that may come may come: the law of `Asks`, whose proof its `impl` cites.
use Rattle.std.specs.Prelude.{◌<◌, Bool, List}
use Rattle.std.proofs.Common.{◌∙◌, refl}
use Rattle.std.proofs.Math.Nat.{le_refl, le_trans}
use Rattle.std.specs.List.{All}
use Rattle.fin_style_point.specs.declared.nest.Nest.{Nest}
use Rattle.fin_descend.specs.Parts.{weight_in, parts_of}
use Rattle.fin_descend.proofs.Later.{parts_come_later}
use Rattle.fin_descend.proofs.Loops.{parts_are_of_loop}
use Rattle.fin_loops.proofs.Facts.{parts_are_known}
use Rattle.fin_stmts.specs.declared.entered.Site.{Site}
use Rattle.fin_stmts.specs.Sites.{Comes, loop_of}

pub parts_come : (s : Site) (ds : List Bool) (n : Nest) → 0 < weight_in n → Comes s ds n → All (Comes s ds) (parts_of n)
parts_come s ds n heavy comes k d lt =
    let of = parts_are_of_loop n n heavy (record {
      of = record { body = refl; var = refl; reads = refl; masks = refl; next = le_refl n.next };
      jumpless = comes.jumpless;
    }) k d lt in
    record {
      knows = parts_are_known (loop_of s) s.around ds n heavy comes.jumpless comes.knows k d lt;
      jumpless = of.jumpless;
      var = of.of.var ∙ comes.var;
      later = le_trans comes.later (parts_come_later n k d lt);
    }
