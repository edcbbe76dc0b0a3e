-- The walk along an expression whose rest is gathered, side by side.
use Rattle.std.proofs.Common.{arith}
use Rattle.fin_ast.proofs.Spines.{side_is_smaller, goes_up}
use Rattle.fin_simp.specs.Facts.{marks}
use Rattle.fin_simp.proofs.Gathering.{IsGathered, gathered_by_two}
use Rattle.fin_simp.proofs.expr_rest.+expr_rests.Goals as goal

pub rest_of_expr-rest_of_expr-requires : goal.rest_of_expr-rest_of_expr-requires
rest_of_expr-rest_of_expr-requires t c =
    let less = side_is_smaller c.args.e.now c.loop-op.sides.items c.pop.new.self.items c.in-Some.op c.in-Some.right _ c.loop-op.invariant c.in-Some.ensures.items in
    (omega (arith, c.decreases, less), tt)

pub rest_of_expr-loop-op-preserved : goal.rest_of_expr-loop-op-preserved
rest_of_expr-loop-op-preserved t c =
    let m = marks c.args.facts.now in
    goes_up c.args.e.now c.loop-op.sides.items c.pop.new.self.items c.in-Some.op c.in-Some.right _ (IsGathered c.in_ok-found.found c.in_ok-right.right.next c.args.next m) c.loop-op.invariant
    c.in-Some.ensures.items
    (λ x q. gathered_by_two c.in-Some.op x c.in-Some.right.now c.loop-op.found c.in_ok-right.right.found c.in_ok-found.found c.loop-op.at c.in_ok-right.right.next c.args.next m
    q c.in_ok-right.ensures.found c.in_ok-found.ensures c.in_ok-right.ensures.next)
