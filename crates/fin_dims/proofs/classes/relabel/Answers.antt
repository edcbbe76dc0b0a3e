use Rattle.std.proofs.Common.{◌∙◌, ap, ℕ, arith, set}
use Rattle.std.proofs.lemmas.List.Edits.{map_over_more}
use Rattle.fin_dims.specs.Classes.{relabelled}
use Rattle.fin_dims.proofs.classes.relabel.Goals as goal

pub loop-k-preserved : goal.loop-k-preserved
loop-k-preserved c =
    ap (λ (x : ℕ). set c.loop-k.labels.items c.loop-k.k x) c.new_label.ensures
    ∙ map_over_more (relabelled c.args.from c.args.to) c.args.labels.now.items c.loop-k.labels.items c.loop-k.k c.index.result.now (omega arith) c.loop-k.invariant c.index.ensures
