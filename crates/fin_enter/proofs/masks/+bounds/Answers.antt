-- The walk along an expression that may be a bound, side by side.
use Rattle.std.proofs.Common.{arith}
use Rattle.fin_ast.proofs.Spines.{side_is_smaller, goes_up}
use Rattle.fin_enter.proofs.Masking.{IsBound, bound_by_two, and_true, and_false}
use Rattle.fin_enter.proofs.masks.+bounds.Goals as goal

pub is_bound-is_bound-requires : goal.is_bound-is_bound-requires
is_bound-is_bound-requires t c =
    let less = side_is_smaller c.args.e.now c.loop-op.sides.items c.pop.new.self.items c.in-Some.op c.in-Some.right _ c.loop-op.invariant c.in-Some.ensures.items in
    (omega (arith, c.decreases, less), tt)

pub is_bound-loop-op-preserved-then-bound : goal.is_bound-loop-op-preserved-then-bound
is_bound-loop-op-preserved-then-bound t c =
    goes_up c.args.e.now c.loop-op.sides.items c.pop.new.self.items c.in-Some.op c.in-Some.right _ (IsBound c.in_ok-right.right c.args.var) c.loop-op.invariant c.in-Some.ensures.items
    (λ x q. bound_by_two c.in-Some.op x c.in-Some.right.now c.loop-op.bound c.in_ok-right.right c.in_ok-right.right c.args.var q c.in_ok-right.ensures (and_true c.loop-op.bound c.in_ok-right.right c.if-bound.true))

pub is_bound-loop-op-preserved : goal.is_bound-loop-op-preserved
is_bound-loop-op-preserved t c =
    goes_up c.args.e.now c.loop-op.sides.items c.pop.new.self.items c.in-Some.op c.in-Some.right _ (IsBound c.loop-op.bound c.args.var) c.loop-op.invariant c.in-Some.ensures.items
    (λ x q. bound_by_two c.in-Some.op x c.in-Some.right.now c.loop-op.bound c.in_ok-right.right c.loop-op.bound c.args.var q c.in_ok-right.ensures (and_false c.loop-op.bound c.in_ok-right.right c.if-bound.false))
