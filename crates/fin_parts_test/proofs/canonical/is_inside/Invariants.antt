use Rattle.std.proofs.Common.{◌<◌, ℕ}
use Rattle.std.specs.Prelude.{slice_index}
use Rattle.fin_parts_test.proofs.canonical.is_inside.Given as goal

abbrev pub invariant-loop-i : goal.invariant-loop-i
invariant-loop-i l = (j : ℕ) → j < l.i → slice_index l.at j < slice_index l.shape j
