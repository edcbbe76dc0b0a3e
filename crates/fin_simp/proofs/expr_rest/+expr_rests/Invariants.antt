-- The walk along an expression whose rest is gathered.
use Rattle.std.proofs.Common.{◌*◌, ◌+◌, length}
use Rattle.fin_ast.specs.Spine.{expr_of, nodes_of}
use Rattle.fin_ast.proofs.Spines.{IsUp}
use Rattle.fin_simp.specs.Facts.{marks_of}
use Rattle.fin_simp.proofs.Gathering.{IsGathered}
use Rattle.fin_simp.proofs.expr_rest.+expr_rests.Given as goal

abbrev pub invariant-rest_of_expr-loop-op : goal.invariant-rest_of_expr-loop-op
invariant-rest_of_expr-loop-op l = IsUp l.e l.sides.items (IsGathered l.found l.at l.fn.next (marks_of l.facts.gaps.now l.facts.known.now l.facts.bound.now))

abbrev pub decreases-rest_of_expr-loop-op : goal.decreases-rest_of_expr-loop-op
decreases-rest_of_expr-loop-op l = length l.sides.items

abbrev pub decreases-rest_of_expr : goal.decreases-rest_of_expr
decreases-rest_of_expr l = 2 * nodes_of l.e.now + 1

abbrev pub decreases-rest_of_head : goal.decreases-rest_of_head
decreases-rest_of_head l = 2 * nodes_of (expr_of l.head)
