-- The walk along an expression that may be a bound.
use Rattle.std.proofs.Common.{◌*◌, ◌+◌, length}
use Rattle.fin_ast.specs.Spine.{expr_of, nodes_of}
use Rattle.fin_ast.proofs.Spines.{IsUp}
use Rattle.fin_enter.proofs.Masking.{IsBound}
use Rattle.fin_enter.proofs.masks.+bounds.Given as goal

abbrev pub invariant-is_bound-loop-op : goal.invariant-is_bound-loop-op
invariant-is_bound-loop-op l = IsUp l.e l.sides.items (IsBound l.bound l.fn.var)

abbrev pub decreases-is_bound-loop-op : goal.decreases-is_bound-loop-op
decreases-is_bound-loop-op l = length l.sides.items

abbrev pub decreases-is_bound : goal.decreases-is_bound
decreases-is_bound l = 2 * nodes_of l.e.now + 1

abbrev pub decreases-head_is_bound : goal.decreases-head_is_bound
decreases-head_is_bound l = 2 * nodes_of (expr_of l.head)
