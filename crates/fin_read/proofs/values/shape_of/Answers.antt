use Rattle.std.proofs.Common.{◌≡◌, ℕ, List, [], arith, sym, subst}
use Rattle.std.specs.Prelude.{slice_index_or}
use Rattle.std.proofs.lemmas.Grind.{common_steps}
use Rattle.fin_tensor.specs.Levels.{AreSmall}
use Rattle.fin_read.specs.Values.{AreShapes}
use Rattle.fin_read.proofs.values.shape_of.Goals as goal

is_small : (shapes : List (List ℕ)) (tensor : ℕ) (shape : List ℕ) → AreShapes shapes → shape ≡ slice_index_or shapes tensor [] → AreSmall shape
is_small shapes tensor shape h e = subst AreSmall (sym e) (h tensor)

pub returns-in-Some-clause-small : goal.returns-in-Some-clause-small
returns-in-Some-clause-small c = is_small c.heads.inside.shapes.now c.args.tensor c.as_slice.result.now c.heads.invariant (grind (arith, common_steps))
