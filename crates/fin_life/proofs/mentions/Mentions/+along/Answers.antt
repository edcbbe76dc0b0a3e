use Rattle.std.proofs.Common.{◌≡◌, ◌∙◌, ap, sym, arith}
use Rattle.fin_ast.proofs.Nodes.{of_two}
use Rattle.fin_ast.proofs.Spines.{side_is_smaller, goes_up}
use Rattle.fin_life.specs.Mentions.{Noting, mention_in, expr_note, note_of_expr}
use Rattle.fin_life.proofs.mentions.Mentions.+along.Goals as goal

pub note_expr-note_expr-requires : goal.note_expr-note_expr-requires
note_expr-note_expr-requires t c =
    let less = side_is_smaller c.args.expr.now c.loop-op.sides.items c.pop.new.self.items c.in-Some._op c.in-Some.right (λ x. mention_in c.loop-op.self ≡ note_of_expr x (mention_in c.args.self.now)) c.loop-op.invariant c.in-Some.ensures.items in
    (omega (arith, c.decreases, less), tt)

pub note_expr-loop-op-preserved : goal.note_expr-loop-op-preserved
note_expr-loop-op-preserved t c =
    let old = mention_in c.args.self.now in
    let right = c.in-Some.right.now in
    goes_up c.args.expr.now c.loop-op.sides.items c.pop.new.self.items c.in-Some._op c.in-Some.right (λ x. mention_in c.loop-op.self ≡ note_of_expr x old) (λ x. mention_in c.note_expr.new.self ≡ note_of_expr x old)
    c.loop-op.invariant c.in-Some.ensures.items
    (λ x h. c.in_ok-note_expr.ensures ∙ ap (note_of_expr right) h ∙ sym (ap (λ (f : Noting). f old) (of_two Noting expr_note c.in-Some._op x right)))
