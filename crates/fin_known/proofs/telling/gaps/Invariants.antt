use Rattle.std.proofs.Common.{◌≡◌, take}
use Rattle.fin_known.proofs.telling.gaps.Given as goal

abbrev pub invariant-loop-gap : goal.invariant-loop-gap
invariant-loop-gap l = l.all.items ≡ take l.gap-index l.around
