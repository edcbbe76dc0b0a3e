use Rattle.std.proofs.Common.{◌∙◌, arith}
use Rattle.fin_ast.proofs.Spines.{side_is_smaller, goes_up}
use Rattle.fin_read.specs.Values.{value_code}
use Rattle.fin_read.proofs.Pushing.{IsPushed, IsSetDown, renamed, pushed_rest, pushed_two}
use Rattle.fin_read.proofs.values.+valued.Goals as goal

pub push_value-push_value-requires : goal.push_value-push_value-requires
push_value-push_value-requires t c =
    let less = side_is_smaller c.args.e.now c.loop-op.sides.items c.pop.new.self.items c.in-Some.op c.in-Some.right _ c.loop-op.invariant.pushed c.in-Some.ensures.items in
    (omega (arith, c.decreases, less), tt)

pub push_value-loop-op-preserved : goal.push_value-loop-op-preserved
push_value-loop-op-preserved t c =
    let h = c.args.heads.now in
    let base = c.args.into.now in
    let before = c.loop-op.value in
    let left = c.in_ok-left.left in
    let right = c.in_ok-right.right in
    let value = c.valued-value.result in
    let set_down : IsSetDown c.loop-op.into c.rested.new.into before.expr left.expr before.depth left.depth before.next left.next =
    record { value = c.in_ok-left.ensures.value; deep = c.in_ok-left.ensures.depth; free = c.in_ok-left.ensures.next; code = c.in_ok-left.ensures.code } in
    record {
      pushed = goes_up c.args.e.now c.loop-op.sides.items c.pop.new.self.items c.in-Some.op c.in-Some.right _ (λ x. IsPushed base c.push_value.new.into value.expr value.depth value.next (value_code h x c.args.next))
          c.loop-op.invariant.pushed c.in-Some.ensures.items
          (λ x p. renamed base c.push_value.new.into _ value.expr _ value.depth _ value.next (value_code h _ c.args.next)
          (c.valued-value.ensures.expr ∙ c.in_ok-expr.ensures) c.valued-value.ensures.depth c.valued-value.ensures.next
          (pushed_two h c.in-Some.op x c.in-Some.right.now c.args.next base c.rested.new.into c.push_value.new.into left.expr right.expr left.depth left.next right.next
          (pushed_rest base c.loop-op.into c.rested.new.into before.expr left.expr before.depth left.depth before.next left.next (value_code h x c.args.next) p set_down)
          c.in_ok-right.ensures.value c.in_ok-right.ensures.next c.in_ok-right.ensures.code));
      shallow = omega (arith, c.valued-value.ensures.depth, c.in_ok-left.ensures.shallow);
    }
