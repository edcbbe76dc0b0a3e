use Rattle.std.proofs.Common.{◌≡◌, ◌*◌, ◌+◌, length}
use Rattle.fin_ast.specs.Choices.{choices_of_expr}
use Rattle.fin_ast.specs.Spine.{expr_of, nodes_of}
use Rattle.fin_ast.proofs.Spines.{IsUp}
use Rattle.fin_dims.proofs.choices.+along.Given as goal

abbrev pub decreases-choices_of_value : goal.decreases-choices_of_value
decreases-choices_of_value l = 2 * nodes_of l.expr.now + 1

abbrev pub decreases-choices_of_head : goal.decreases-choices_of_head
decreases-choices_of_head l = 2 * nodes_of (expr_of l.head)

abbrev pub invariant-choices_of_value-loop-op : goal.invariant-choices_of_value-loop-op
invariant-choices_of_value-loop-op l = IsUp l.expr l.sides.items (λ x. l.choices ≡ choices_of_expr l.headers x l.before)

abbrev pub decreases-choices_of_value-loop-op : goal.decreases-choices_of_value-loop-op
decreases-choices_of_value-loop-op l = length l.sides.items
