use Rattle.std.proofs.Common.{◌≡◌, ◌*◌, ◌+◌, length}
use Rattle.fin_ast.specs.Spine.{expr_of, nodes_of}
use Rattle.fin_ast.specs.Value.{value_of}
use Rattle.fin_ast.proofs.Spines.{IsUp}
use Rattle.fin_dense.specs.Runs.{seen_in}
use Rattle.fin_dense.proofs.reads.+valued.Given as goal

abbrev pub decreases-value : goal.decreases-value
decreases-value l = 4 * nodes_of l.expr.now + 3

abbrev pub decreases-value_below : goal.decreases-value_below
decreases-value_below l = 4 * nodes_of l.expr.now + 2

abbrev pub decreases-value_along : goal.decreases-value_along
decreases-value_along l = 4 * nodes_of l.expr.now + 1

abbrev pub decreases-value_at_head : goal.decreases-value_at_head
decreases-value_at_head l = 4 * nodes_of (expr_of l.head)

abbrev pub invariant-value_along-loop-op : goal.invariant-value_along-loop-op
invariant-value_along-loop-op l = IsUp l.expr l.sides.items (λ x. l.value ≡ value_of x l.run.vars.items (seen_in l.setting l.run))

abbrev pub decreases-value_along-loop-op : goal.decreases-value_along-loop-op
decreases-value_along-loop-op l = length l.sides.items
