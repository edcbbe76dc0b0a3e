-- The walk along an expression that may name a variable, side by side.
use Rattle.std.proofs.Common.{arith}
use Rattle.fin_ast.proofs.Spines.{side_is_smaller, goes_up}
use Rattle.fin_stmts.proofs.Naming.{Names, names_by_two, or_true, or_false}
use Rattle.fin_stmts.proofs.names.+naming.Goals as goal

pub names-names-requires : goal.names-names-requires
names-names-requires t c =
    let less = side_is_smaller c.args.e.now c.loop-op.sides.items c.pop.new.self.items c.in-Some.op c.in-Some.right _ c.loop-op.invariant c.in-Some.ensures.items in
    (omega (arith, c.decreases, less), tt)

pub names-loop-op-preserved-then-named : goal.names-loop-op-preserved-then-named
names-loop-op-preserved-then-named t c =
    goes_up c.args.e.now c.loop-op.sides.items c.pop.new.self.items c.in-Some.op c.in-Some.right _ (Names c.loop-op.named c.args.var) c.loop-op.invariant c.in-Some.ensures.items
    (λ x q. names_by_two c.in-Some.op x c.in-Some.right.now c.loop-op.named c.in_ok-right.right c.loop-op.named c.args.var q c.in_ok-right.ensures (or_true c.loop-op.named c.in_ok-right.right c.if-named.true))

pub names-loop-op-preserved : goal.names-loop-op-preserved
names-loop-op-preserved t c =
    goes_up c.args.e.now c.loop-op.sides.items c.pop.new.self.items c.in-Some.op c.in-Some.right _ (Names c.in_ok-right.right c.args.var) c.loop-op.invariant c.in-Some.ensures.items
    (λ x q. names_by_two c.in-Some.op x c.in-Some.right.now c.loop-op.named c.in_ok-right.right c.in_ok-right.right c.args.var q c.in_ok-right.ensures (or_false c.loop-op.named c.in_ok-right.right c.if-named.false))
