use Rattle.std.proofs.Common.{◌≡◌, ◌∙◌, ap, sym, arith}
use Rattle.fin_ast.specs.Choices.{Counting, expr_choices, choices_of_expr}
use Rattle.fin_ast.proofs.Nodes.{of_two}
use Rattle.fin_ast.proofs.Spines.{side_is_smaller, goes_up}
use Rattle.fin_dims.proofs.choices.+along.Goals as goal

pub choices_of_value-choices_of_value-requires : goal.choices_of_value-choices_of_value-requires
choices_of_value-choices_of_value-requires t c =
    let less = side_is_smaller c.args.expr.now c.loop-op.sides.items c.pop.new.self.items c.in-Some._op c.in-Some.right (λ x. c.loop-op.choices ≡ choices_of_expr c.args.headers.now x c.args.before) c.loop-op.invariant c.in-Some.ensures.items in
    (omega (arith, c.decreases, less), tt)

pub choices_of_value-loop-op-preserved : goal.choices_of_value-loop-op-preserved
choices_of_value-loop-op-preserved t c =
    let hs = c.args.headers.now in
    let right = c.in-Some.right.now in
    goes_up c.args.expr.now c.loop-op.sides.items c.pop.new.self.items c.in-Some._op c.in-Some.right (λ x. c.loop-op.choices ≡ choices_of_expr hs x c.args.before) (λ x. c.in_ok-behind.behind ≡ choices_of_expr hs x c.args.before)
    c.loop-op.invariant c.in-Some.ensures.items
    (λ x h. c.in_ok-behind.ensures ∙ ap (choices_of_expr hs right) h ∙ sym (ap (λ (f : Counting). f c.args.before) (of_two Counting (expr_choices hs) c.in-Some._op x right)))
