use Rattle.std.proofs.Common.{◌≤◌, ◌*◌, ◌+◌, length}
use Rattle.fin_ast.specs.Spine.{expr_of, nodes_of}
use Rattle.fin_ast.proofs.Spines.{IsUp}
use Rattle.fin_read.specs.Values.{most_deep, value_code}
use Rattle.fin_read.proofs.Pushing.{IsPushed}
use Rattle.fin_read.proofs.values.+valued.Given as goal

abbrev pub decreases-push_value : goal.decreases-push_value
decreases-push_value l = 2 * nodes_of l.e.now + 1

abbrev pub decreases-push_head : goal.decreases-push_head
decreases-push_head l = 2 * nodes_of (expr_of l.head)

abbrev pub invariant-push_value-loop-op : goal.invariant-push_value-loop-op
invariant-push_value-loop-op l = record {
  pushed : IsUp l.e l.sides.items (λ x. IsPushed l.fn.into l.into l.value.expr l.value.depth l.value.next (value_code l.heads x l.next));
  shallow : l.value.depth ≤ most_deep;
}

abbrev pub decreases-push_value-loop-op : goal.decreases-push_value-loop-op
decreases-push_value-loop-op l = length l.sides.items
