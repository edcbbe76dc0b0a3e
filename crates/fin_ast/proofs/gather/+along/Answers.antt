use Rattle.std.proofs.Common.{◌≡◌, ◌∙◌, ap, sym, arith}
use Rattle.fin_ast.specs.Places.{Gathering, expr_places, places_of_expr}
use Rattle.fin_ast.proofs.Nodes.{of_two}
use Rattle.fin_ast.proofs.Spines.{side_is_smaller, goes_up}
use Rattle.fin_ast.proofs.gather.+along.Goals as goal

pub gather_expr-gather_expr-requires : goal.gather_expr-gather_expr-requires
gather_expr-gather_expr-requires t c =
    let less = side_is_smaller c.args.expr.now c.loop-op.sides.items c.pop.new.self.items c.in-Some._op c.in-Some.right (λ x. c.loop-op.into.items ≡ places_of_expr x c.args.into.now.items) c.loop-op.invariant c.in-Some.ensures.items in
    (omega (arith, c.decreases, less), tt)

pub gather_expr-loop-op-preserved : goal.gather_expr-loop-op-preserved
gather_expr-loop-op-preserved t c =
    goes_up c.args.expr.now c.loop-op.sides.items c.pop.new.self.items c.in-Some._op c.in-Some.right (λ x. c.loop-op.into.items ≡ places_of_expr x c.args.into.now.items) (λ x. c.gather_expr.new.into.items ≡ places_of_expr x c.args.into.now.items)
    c.loop-op.invariant c.in-Some.ensures.items
    (λ x h. c.in_ok-gather_expr.ensures ∙ ap (places_of_expr c.in-Some.right.now) h ∙ sym (ap (λ (g : Gathering). g c.args.into.now.items) (of_two Gathering expr_places c.in-Some._op x c.in-Some.right.now)))
