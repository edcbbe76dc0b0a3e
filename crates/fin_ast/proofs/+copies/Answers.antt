use Rattle.std.proofs.Common.{◌≡◌, ◌∙◌, ap, arith}
use Rattle.fin_ast.specs.declared.tree.Expr.{Expr}
use Rattle.fin_ast.specs.declared.tree.Expr.TheVariants.{Two}
use Rattle.fin_ast.proofs.Spines.{side_is_smaller, goes_up}
use Rattle.fin_ast.proofs.+copies.Goals as goal

pub tree::Expr::copy-copy-requires : goal.tree::Expr::copy-copy-requires
tree::Expr::copy-copy-requires t c =
    let less = side_is_smaller c.args.self.now c.loop-op.sides.items c.pop.new.self.items c.in-Some.op c.in-Some.right (λ x. c.loop-op.whole ≡ x) c.loop-op.invariant c.in-Some.ensures.items in
    (omega (arith, c.decreases, less), tt)

pub tree::Expr::copy-loop-op-preserved : goal.tree::Expr::copy-loop-op-preserved
tree::Expr::copy-loop-op-preserved t c =
    goes_up c.args.self.now c.loop-op.sides.items c.pop.new.self.items c.in-Some.op c.in-Some.right (λ x. c.loop-op.whole ≡ x) (λ x. c.in_ok-whole-2.whole ≡ x) c.loop-op.invariant c.in-Some.ensures.items
    (λ x h. c.in_ok-whole-2.ensures ∙ ap (λ (y : Expr). Two c.in-Some.op y c.in_ok-right.right) h ∙ ap (Two c.in-Some.op x) c.in_ok-right.ensures)
