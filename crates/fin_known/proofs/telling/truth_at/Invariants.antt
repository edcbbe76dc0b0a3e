use Rattle.std.proofs.Common.{◌≡◌, drop}
use Rattle.fin_known.specs.Telling.{truth_at}
use Rattle.fin_known.proofs.telling.truth_at.Given as goal

abbrev pub invariant-loop-mask : goal.invariant-loop-mask
invariant-loop-mask l = truth_at (drop l.mask-index l.masks) l.number ≡ truth_at l.masks l.number
