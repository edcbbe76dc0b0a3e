use Rattle.std.proofs.Common.{◌≡◌, drop}
use Rattle.fin_tensor.specs.TensorFunction.{is_in_box}
use Rattle.fin_grid.proofs.places.is_in_box.Given as goal

abbrev pub invariant-loop-k : goal.invariant-loop-k
invariant-loop-k l = is_in_box (drop l.k l.shape) (drop l.k l.at) ≡ is_in_box l.shape l.at
