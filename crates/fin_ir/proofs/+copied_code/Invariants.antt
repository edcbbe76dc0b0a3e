use Rattle.std.proofs.Common.{◌≡◌, take}
use Rattle.fin_ir.proofs.+copied_code.Given as goal

abbrev pub invariant-copy::copy_all-loop-code : goal.invariant-copy::copy_all-loop-code
invariant-copy::copy_all-loop-code l = l.copies ≡ take l.code-index l.all
