-- Induction over expressions, by kinds.
use Rattle.std.proofs.Common.{ℕ, ℤ, List, sym, subst}
use Rattle.fin_base.specs.declared.terms.Op.{Op}
use Rattle.fin_ast.specs.declared.tree.Index.{Index}
use Rattle.fin_ast.specs.declared.tree.Expr.{Expr, ind-Expr, map-Expr, roll-Expr}
use Rattle.fin_ast.specs.declared.tree.Expr.TheOpen.{Expr-F}
use Rattle.fin_ast.specs.declared.tree.Expr.TheVariants as e

-- what is to be shown for each kind, where it holds of the parts
pub record Kinds (P : Expr → Type 0) : Type 0 where
  pub num : (n : ℤ) → P (e.Num n)
  pub var : (var line : ℕ) → P (e.Var var line)
  pub read : (tensor : ℕ) (at : List Index) (line : ℕ) → P (e.Read tensor at line)
  pub neg : (x : Expr) → P x → P (e.Neg x)
  pub two : (op : Op) (x y : Expr) → P x → P y → P (e.Two op x y)

module _ (P : Expr → Type 0) (c : Kinds P) where
  abbrev Held : Type 0
  Held = (x : Expr) × P x

  step : (y : Expr-F Held) → P (roll-Expr (map-Expr Held Expr (λ k. k.0) y))
  step (Expr-F.Num n) = subst P (sym (e.rolls-Num n)) (c.num n)
  step (Expr-F.Var var line) = subst P (sym (e.rolls-Var var line)) (c.var var line)
  step (Expr-F.Read tensor at line) = subst P (sym (e.rolls-Read tensor at line)) (c.read tensor at line)
  step (Expr-F.Neg x) = subst P (sym (e.rolls-Neg x.0)) (c.neg x.0 x.1)
  step (Expr-F.Two op x y) = subst P (sym (e.rolls-Two op x.0 y.0)) (c.two op x.0 y.0 x.1 y.1)

  pub by_kind : (x : Expr) → P x
  by_kind = ind-Expr P (λ z y is. subst (λ (u : Expr-F Expr). P (roll-Expr u)) is (step y))
