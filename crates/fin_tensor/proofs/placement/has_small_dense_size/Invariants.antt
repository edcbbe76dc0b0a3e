use Rattle.std.proofs.Common.{◌≡◌, ◌*◌, ◌^◌, ◌≤◌, drop}
use Rattle.fin_tensor.specs.Extents.{dense_size}
use Rattle.fin_tensor.proofs.placement.has_small_dense_size.Given as goal

abbrev pub invariant-loop-k : goal.invariant-loop-k
invariant-loop-k l = record {
  some : 1 ≤ l.size;
  small : l.size ≤ 2 ^ 24;
  rest : l.size * dense_size (drop l.k l.levels) (drop l.k l.shape) ≡ dense_size l.levels l.shape;
}
