use Rattle.std.proofs.Common.{◌*◌, ◌+◌, length}
use Rattle.fin_ast.specs.Spine.{expr_of, nodes_of}
use Rattle.fin_ast.proofs.Spines.{IsUp}
use Rattle.fin_simp.specs.Facts.{marks_of}
use Rattle.fin_simp.proofs.Sides.{IsLeft}
use Rattle.fin_simp.proofs.remainder.+simplified.Given as goal

abbrev pub invariant-simplify_expr-loop-op : goal.invariant-simplify_expr-loop-op
invariant-simplify_expr-loop-op l = IsUp l.e l.sides.items (IsLeft l.left l.at l.fn.next (marks_of l.facts.gaps.now l.facts.known.now l.facts.bound.now))

abbrev pub decreases-simplify_expr-loop-op : goal.decreases-simplify_expr-loop-op
decreases-simplify_expr-loop-op l = length l.sides.items

abbrev pub decreases-simplify_expr : goal.decreases-simplify_expr
decreases-simplify_expr l = 2 * nodes_of l.e.now + 1

abbrev pub decreases-simplify_head : goal.decreases-simplify_head
decreases-simplify_head l = 2 * nodes_of (expr_of l.head)
