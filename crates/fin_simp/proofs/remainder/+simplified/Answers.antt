use Rattle.std.proofs.Common.{arith}
use Rattle.fin_ast.proofs.Spines.{side_is_smaller, goes_up}
use Rattle.fin_simp.specs.Facts.{marks}
use Rattle.fin_simp.proofs.Sides.{IsLeft, left_by_two}
use Rattle.fin_simp.proofs.remainder.+simplified.Goals as goal

pub simplify_expr-simplify_expr-requires : goal.simplify_expr-simplify_expr-requires
simplify_expr-simplify_expr-requires t c =
    let less = side_is_smaller c.args.e.now c.loop-op.sides.items c.pop.new.self.items c.in-Some.op c.in-Some.right _ c.loop-op.invariant c.in-Some.ensures.items in
    (omega (arith, c.decreases, less), tt)

pub simplify_expr-loop-op-preserved : goal.simplify_expr-loop-op-preserved
simplify_expr-loop-op-preserved t c =
    let m = marks c.args.facts.now in
    goes_up c.args.e.now c.loop-op.sides.items c.pop.new.self.items c.in-Some.op c.in-Some.right _ (IsLeft c.in_ok-left.left c.in_ok-right.right.next c.args.next m) c.loop-op.invariant c.in-Some.ensures.items
    (λ x q. left_by_two c.in-Some.op x c.in-Some.right.now c.loop-op.left c.in_ok-right.right.left c.in_ok-left.left c.loop-op.at c.in_ok-right.right.next c.args.next m
    q c.in_ok-right.ensures.left c.in_ok-left.ensures c.in_ok-right.ensures.next)
