-- The walk along an expression as it is written.
use Rattle.std.proofs.Common.{◌*◌, ◌+◌, length}
use Rattle.fin_ast.specs.Spine.{expr_of, nodes_of}
use Rattle.fin_ast.proofs.Spines.{IsUp}
use Rattle.fin_simp.proofs.Writing.{AreReads}
use Rattle.fin_simp.proofs.written.+written_reads.Given as goal

abbrev pub invariant-reads_of_expr-loop-right : goal.invariant-reads_of_expr-loop-right
invariant-reads_of_expr-loop-right l = IsUp l.e l.sides.items (AreReads l.reads l.at l.fn.next)

abbrev pub decreases-reads_of_expr-loop-right : goal.decreases-reads_of_expr-loop-right
decreases-reads_of_expr-loop-right l = length l.sides.items

abbrev pub decreases-reads_of_expr : goal.decreases-reads_of_expr
decreases-reads_of_expr l = 2 * nodes_of l.e.now + 1

abbrev pub decreases-reads_of_head : goal.decreases-reads_of_head
decreases-reads_of_head l = 2 * nodes_of (expr_of l.head)
