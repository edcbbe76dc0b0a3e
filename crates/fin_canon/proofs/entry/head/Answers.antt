use Rattle.std.proofs.Common.{◌∙◌, ◌<◌, List, ℕ, ap, sym, subst, length}
use Rattle.std.specs.Prelude.{slice_index}
use Rattle.fin_tensor.proofs.Walk.{got}
use Rattle.fin_canon.proofs.Reading.{coords_is}
use Rattle.fin_canon.proofs.entry.head.Goals as goal

pub get-requires : goal.get-requires
get-requires c =
    subst (λ (l : List ℕ). c.args.depth < length l) (coords_is c.args.entries.now c.args.k c.index-entries-k.result c.requires.within c.index-entries-k.is) c.requires.deep

pub returns : goal.returns
returns c =
    let e = coords_is c.args.entries.now c.args.k c.index-entries-k.result c.requires.within c.index-entries-k.is in
    got c.index-entries-k.result.0 c.args.depth 0 c.get.result.now c.get.ensures ∙ ap (λ (l : List ℕ). slice_index l c.args.depth) (sym e)
