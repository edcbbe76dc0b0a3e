use Rattle.std.proofs.Common.{◌≡◌, take}
use Rattle.fin_style_point.proofs.sides.copies.Given as goal

abbrev pub invariant-loop-case : goal.invariant-loop-case
invariant-loop-case l = l.copies ≡ take l.case-index l.cases
