use Rattle.std.proofs.Common.{◌≡◌, ◌*◌, ◌+◌, length}
use Rattle.fin_ast.specs.Spine.{expr_of, nodes_of}
use Rattle.fin_ast.specs.Places.{places_of_expr}
use Rattle.fin_ast.proofs.Spines.{IsUp}
use Rattle.fin_ast.proofs.gather.+along.Given as goal

abbrev pub decreases-gather_expr : goal.decreases-gather_expr
decreases-gather_expr l = 2 * nodes_of l.expr.now + 1

abbrev pub decreases-gather_head : goal.decreases-gather_head
decreases-gather_head l = 2 * nodes_of (expr_of l.head)

abbrev pub invariant-gather_expr-loop-op : goal.invariant-gather_expr-loop-op
invariant-gather_expr-loop-op l = IsUp l.expr l.sides.items (λ x. l.into.items ≡ places_of_expr x l.fn.into.items)

abbrev pub decreases-gather_expr-loop-op : goal.decreases-gather_expr-loop-op
decreases-gather_expr-loop-op l = length l.sides.items
