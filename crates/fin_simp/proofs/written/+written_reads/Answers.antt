-- The walk along an expression as it is written, side by side.
use Rattle.std.proofs.Common.{arith}
use Rattle.fin_ast.proofs.Spines.{side_is_smaller, goes_up}
use Rattle.fin_simp.proofs.Writing.{AreReads, reads_by_two}
use Rattle.fin_simp.proofs.written.+written_reads.Goals as goal

pub reads_of_expr-reads_of_expr-requires : goal.reads_of_expr-reads_of_expr-requires
reads_of_expr-reads_of_expr-requires t c =
    let less = side_is_smaller c.args.e.now c.loop-right.sides.items c.pop.new.self.items c.in-Some.field-0-0 c.in-Some.right _ c.loop-right.invariant c.in-Some.ensures.items in
    (omega (arith, c.decreases, less), tt)

pub reads_of_expr-loop-right-preserved : goal.reads_of_expr-loop-right-preserved
reads_of_expr-loop-right-preserved t c =
    goes_up c.args.e.now c.loop-right.sides.items c.pop.new.self.items c.in-Some.field-0-0 c.in-Some.right _ (AreReads c.append.new.self c.in_ok-right.right.next c.args.next) c.loop-right.invariant
    c.in-Some.ensures.items
    (λ x q. reads_by_two c.in-Some.field-0-0 x c.in-Some.right.now c.loop-right.reads c.in_ok-right.right.reads c.append.new.self c.loop-right.at c.in_ok-right.right.next c.args.next
    q c.in_ok-right.ensures.reads c.in_ok-append.ensures c.in_ok-right.ensures.next)
