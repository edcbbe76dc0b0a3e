-- The value of an expression, for each kind of node.
use Rattle.std.proofs.Common.{◌≡◌, ℕ, ℤ, ap, List, map}
use Rattle.fin_base.specs.Words.{operate, negated}
use Rattle.fin_base.specs.declared.terms.Op.{Op}
use Rattle.fin_ast.specs.declared.tree.Index.{Index}
use Rattle.fin_ast.specs.declared.tree.Expr.{Expr}
use Rattle.fin_ast.specs.declared.tree.Expr.TheVariants as e
use Rattle.fin_ast.specs.Value.{Numbers, Tensors, Reading, number, place, read, value_step, value_of}
use Rattle.fin_ast.proofs.Nodes.{of_num, of_var, of_read, of_neg, of_two}

module _ (vars : Numbers) (ts : Tensors) where
  pub value_num : (n : ℤ) → value_of (e.Num n) vars ts ≡ n
  value_num n = ap (λ (f : Reading). f vars ts) (of_num Reading value_step n)

  pub value_var : (var line : ℕ) → value_of (e.Var var line) vars ts ≡ number vars var
  value_var var line = ap (λ (f : Reading). f vars ts) (of_var Reading value_step var line)

  pub value_read : (tensor : ℕ) (at : List Index) (line : ℕ) → value_of (e.Read tensor at line) vars ts ≡ read (ts tensor) (map (place vars) at)
  value_read tensor at line = ap (λ (f : Reading). f vars ts) (of_read Reading value_step tensor at line)

  pub value_neg : (x : Expr) → value_of (e.Neg x) vars ts ≡ negated (value_of x vars ts)
  value_neg x = ap (λ (f : Reading). f vars ts) (of_neg Reading value_step x)

  pub value_two : (op : Op) (x y : Expr) → value_of (e.Two op x y) vars ts ≡ operate op (value_of x vars ts) (value_of y vars ts)
  value_two op x y = ap (λ (f : Reading). f vars ts) (of_two Reading value_step op x y)
