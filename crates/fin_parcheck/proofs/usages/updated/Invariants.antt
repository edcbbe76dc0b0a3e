use Rattle.std.proofs.Common.{◌≡◌, drop, []}
use Rattle.fin_parcheck.specs.Ways.{updated_from}
use Rattle.fin_parcheck.proofs.usages.updated.Given as goal

abbrev pub invariant-loop-tensor : goal.invariant-loop-tensor
invariant-loop-tensor l = updated_from l.tensor (drop l.tensor l.usages) l.of ≡ updated_from 0 l.usages []
