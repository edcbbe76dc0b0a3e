use Rattle.std.proofs.Common.{◌≡◌, take}
use Rattle.fin_style_point.proofs.changing.copies.Given as goal

abbrev pub invariant-loop-code : goal.invariant-loop-code
invariant-loop-code l = l.copies ≡ take l.code-index l.codes
