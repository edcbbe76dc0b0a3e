use Rattle.std.proofs.Common.{◌≡◌, ◌++◌, drop}
use Rattle.fin_known.specs.Telling.{truth_at, tests_told}
use Rattle.fin_known.proofs.telling.with_tests.Given as goal

abbrev pub invariant-loop-mask : goal.invariant-loop-mask
invariant-loop-mask l = l.all.items ++ tests_told (truth_at l.masks) (drop l.mask-index l.masks) ≡ l.around ++ tests_told (truth_at l.masks) l.masks
