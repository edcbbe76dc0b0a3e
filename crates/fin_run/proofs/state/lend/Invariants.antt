use Rattle.std.proofs.Common.{◌≡◌, ◌≤◌, ◌++◌, drop}
use Rattle.fin_run.specs.States.{lent_from}
use Rattle.fin_run.proofs.state.lend.Given as goal

abbrev pub invariant-loop-kind : goal.invariant-loop-kind
invariant-loop-kind l = record {
  few : l.inputs ≤ l.kind-index;
  rest : l.tensors.items ++ lent_from l.inputs (drop l.kind-index l.kinds) ≡ lent_from 0 l.kinds;
}
