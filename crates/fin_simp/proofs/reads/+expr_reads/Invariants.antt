use Rattle.std.proofs.Common.{◌*◌, ◌+◌, length}
use Rattle.fin_ast.specs.Spine.{expr_of, nodes_of}
use Rattle.fin_ast.proofs.Spines.{IsUp}
use Rattle.fin_simp.specs.Facts.{marks_of}
use Rattle.fin_simp.proofs.Sides.{IsRead}
use Rattle.fin_simp.proofs.reads.+expr_reads.Given as goal

abbrev pub invariant-reads_of_expr-loop-op : goal.invariant-reads_of_expr-loop-op
invariant-reads_of_expr-loop-op l = IsUp l.e l.sides.items (IsRead l.found l.at l.fn.next (marks_of l.facts.gaps.now l.facts.known.now l.facts.bound.now))

abbrev pub decreases-reads_of_expr-loop-op : goal.decreases-reads_of_expr-loop-op
decreases-reads_of_expr-loop-op l = length l.sides.items

abbrev pub decreases-reads_of_expr : goal.decreases-reads_of_expr
decreases-reads_of_expr l = 2 * nodes_of l.e.now + 1

abbrev pub decreases-reads_of_head : goal.decreases-reads_of_head
decreases-reads_of_head l = 2 * nodes_of (expr_of l.head)
