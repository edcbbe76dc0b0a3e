use Rattle.std.proofs.Common.{arith, ◌∙◌}
use Rattle.fin_ast.proofs.Spines.{side_is_smaller, goes_up}
use Rattle.fin_simp.specs.Facts.{marks_of}
use Rattle.fin_simp.proofs.Sides.{IsFound, found_two}
use Rattle.fin_simp.proofs.spine.+literals.Goals as goal

pub literal-literal-requires : goal.literal-literal-requires
literal-literal-requires t c =
    let less = side_is_smaller c.args.e.now c.loop-op.sides.items c.pop.new.self.items c.in-Some.op c.in-Some.right _ c.loop-op.invariant c.in-Some.ensures.items in
    (omega (arith, c.decreases, less), tt)

pub literal-loop-op-preserved : goal.literal-loop-op-preserved
literal-loop-op-preserved t c =
    let m = marks_of c.args.facts.now.gaps.now c.args.facts.now.known.now c.args.facts.now.bound.now in
    goes_up c.args.e.now c.loop-op.sides.items c.pop.new.self.items c.in-Some.op c.in-Some.right _ (IsFound c.finding-value.result.literal c.finding-value.result.next c.args.next m) c.loop-op.invariant c.in-Some.ensures.items
    (λ x q. found_two c.in-Some.op x c.in-Some.right.now c.loop-op.value.literal c.in_ok-right.right.literal c.finding-value.result.literal c.loop-op.value.next c.finding-value.result.next c.args.next m
    q c.in_ok-right.ensures.literal (c.finding-value.ensures.literal ∙ c.joined.ensures) (c.finding-value.ensures.next ∙ c.in_ok-right.ensures.next))
