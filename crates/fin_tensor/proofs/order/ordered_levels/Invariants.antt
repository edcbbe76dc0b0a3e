use Rattle.std.proofs.Common.{◌≡◌, drop}
use Rattle.fin_tensor.specs.Order.{ordered_from}
use Rattle.fin_tensor.proofs.order.ordered_levels.Given as goal

abbrev pub invariant-loop-k : goal.invariant-loop-k
invariant-loop-k l = ordered_from l.k (drop l.k l.levels) l.deepest ≡ ordered_from 0 l.levels 0
