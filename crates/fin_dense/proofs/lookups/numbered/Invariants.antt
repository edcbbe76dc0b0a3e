use Rattle.std.proofs.Common.{◌≡◌, ◌≤◌, ◌++◌, drop}
use Rattle.fin_dense.specs.Inputs.{numbered}
use Rattle.fin_dense.proofs.lookups.numbered.Given as goal

abbrev pub invariant-loop-header : goal.invariant-loop-header
invariant-loop-header l = record {
  few : l.next ≤ l.header-index;
  so_far : l.numbers.items ++ numbered l.next (drop l.header-index l.headers) ≡ numbered 0 l.headers;
}
