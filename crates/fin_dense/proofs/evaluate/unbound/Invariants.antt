use Rattle.std.proofs.Common.{◌≡◌, map, take, pos}
use Rattle.fin_dense.proofs.evaluate.unbound.Given as goal

abbrev pub invariant-loop-range : goal.invariant-loop-range
invariant-loop-range l = l.vars.items ≡ map (λ r. pos 0) (take l._range-index l.ranges)
