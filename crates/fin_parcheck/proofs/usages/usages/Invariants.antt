use Rattle.std.proofs.Common.{◌≡◌, drop, [], length}
use Rattle.fin_parcheck.specs.Ways.{usages_from}
use Rattle.fin_parcheck.proofs.usages.usages.Given as goal

abbrev pub invariant-loop-tensor : goal.invariant-loop-tensor
invariant-loop-tensor l = record {
  rest : usages_from l.parallel l.tensor (drop l.tensor l.headers) l.usages ≡ usages_from l.parallel 0 l.headers [];
  count : length l.usages ≡ l.tensor;
}
