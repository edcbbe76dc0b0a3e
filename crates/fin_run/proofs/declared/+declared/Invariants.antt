use Rattle.std.proofs.Common.{◌≡◌, drop, map}
use Rattle.fin_ir.specs.Declares.{declares, some_of}
use Rattle.fin_run.proofs.declared.+declared.Given as goal

abbrev pub invariant-some_declares-loop-code : goal.invariant-some_declares-loop-code
invariant-some_declares-loop-code l = some_of (map declares l.all) l.tensor ≡ some_of (map declares (drop l.code-index l.all)) l.tensor
