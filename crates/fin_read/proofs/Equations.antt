-- The code of each kind of expression, and what is tested of each.
use Rattle.std.proofs.Common.{◌≡◌, ℕ, ◌+◌, ◌≤◌, ℤ, Bool, true, false, ◌&&◌, List, [], map, ap, subst, sym, arith}
use Rattle.std.specs.Prelude.{is_some}
use Rattle.fin_base.specs.declared.terms.Op.{Op}
use Rattle.fin_ast.specs.declared.tree.Index.{Index}
use Rattle.fin_ast.specs.declared.tree.Expr.{Expr}
use Rattle.fin_ast.specs.declared.tree.Expr.TheVariants as e
use Rattle.fin_ast.specs.Scope.{Scope, is_bound, is_access, expr_step, is_named_expr}
use Rattle.fin_ast.specs.Value.{Numbers, Tensors}
use Rattle.fin_ast.proofs.Nodes.{of_num, of_var, of_read, of_neg, of_two}
use Rattle.fin_ir.specs.declared.expression.IExpr.{IExpr}
use Rattle.fin_ir.specs.declared.expression.IExpr.TheVariants.{Num, Local}
use Rattle.fin_stage.specs.Staged.{reads_step, can_read, indices_step, are_small, has_small_indices}
use Rattle.fin_read.specs.Steps.{Step}
use Rattle.fin_read.specs.Reads.{read_steps}
use Rattle.fin_read.specs.Values.{Heads, Lowered, format_of, shape_of, index_code, is_shallow, rest_next, rested, opposite, two_after, lower_expr_step, value_code}
use Rattle.fin_read.proofs.ByKind.{Kinds, by_kind}

-- one that isn't deep
abbrev pub lowered : List Step → IExpr → ℕ → Lowered
lowered steps value next = record { steps = steps; value = value; depth = 0; next = next }

-- ---- the code

module _ (h : Heads) (next : ℕ) where
  abbrev Code : Type 0
  Code = ℕ → Lowered

  pub code_num : (n : ℤ) → value_code h (e.Num n) next ≡ lowered [] (Num n) next
  code_num n = ap (λ (f : Code). f next) (of_num Code (lower_expr_step h) n)

  pub code_var : (var line : ℕ) → value_code h (e.Var var line) next ≡ lowered [] (Local var) next
  code_var var line = ap (λ (f : Code). f next) (of_var Code (lower_expr_step h) var line)

  pub code_read : (tensor : ℕ) (at : List Index) (line : ℕ) → value_code h (e.Read tensor at line) next ≡ lowered (read_steps tensor (format_of h tensor).levels (shape_of h tensor) (format_of h tensor).fill (map index_code at) next) (Local next) (next + 1)
  code_read tensor at line = ap (λ (f : Code). f next) (of_read Code (lower_expr_step h) tensor at line)

  pub code_neg : (x : Expr) → value_code h (e.Neg x) next ≡ opposite (rested (value_code h x next))
  code_neg x = ap (λ (f : Code). f next) (of_neg Code (lower_expr_step h) x)

  pub code_two : (op : Op) (x y : Expr) → value_code h (e.Two op x y) next ≡ two_after op (rested (value_code h x next)) (value_code h y (rested (value_code h x next)).next)
  code_two op x y = ap (λ (f : Code). f next) (of_two Code (lower_expr_step h) op x y)

-- ---- the tests

module _ (s : Scope) where
  pub named_var : (var line : ℕ) → is_named_expr (e.Var var line) s ≡ is_bound s var
  named_var var line = ap (λ (f : Scope → Bool). f s) (of_var (Scope → Bool) expr_step var line)

  pub named_read : (tensor : ℕ) (at : List Index) (line : ℕ) → is_named_expr (e.Read tensor at line) s ≡ is_access s tensor at
  named_read tensor at line = ap (λ (f : Scope → Bool). f s) (of_read (Scope → Bool) expr_step tensor at line)

  pub named_neg : (x : Expr) → is_named_expr (e.Neg x) s ≡ is_named_expr x s
  named_neg x = ap (λ (f : Scope → Bool). f s) (of_neg (Scope → Bool) expr_step x)

  pub named_two : (op : Op) (x y : Expr) → is_named_expr (e.Two op x y) s ≡ (is_named_expr x s && is_named_expr y s)
  named_two op x y = ap (λ (f : Scope → Bool). f s) (of_two (Scope → Bool) expr_step op x y)

module _ (ts : Tensors) where
  pub reads_read : (tensor : ℕ) (at : List Index) (line : ℕ) → can_read (e.Read tensor at line) ts ≡ is_some (ts tensor)
  reads_read tensor at line = ap (λ (f : Tensors → Bool). f ts) (of_read (Tensors → Bool) reads_step tensor at line)

  pub reads_neg : (x : Expr) → can_read (e.Neg x) ts ≡ can_read x ts
  reads_neg x = ap (λ (f : Tensors → Bool). f ts) (of_neg (Tensors → Bool) reads_step x)

  pub reads_two : (op : Op) (x y : Expr) → can_read (e.Two op x y) ts ≡ (can_read x ts && can_read y ts)
  reads_two op x y = ap (λ (f : Tensors → Bool). f ts) (of_two (Tensors → Bool) reads_step op x y)

module _ (vars : Numbers) where
  pub small_read : (tensor : ℕ) (at : List Index) (line : ℕ) → has_small_indices (e.Read tensor at line) vars ≡ are_small vars at
  small_read tensor at line = ap (λ (f : Numbers → Bool). f vars) (of_read (Numbers → Bool) indices_step tensor at line)

  pub small_neg : (x : Expr) → has_small_indices (e.Neg x) vars ≡ has_small_indices x vars
  small_neg x = ap (λ (f : Numbers → Bool). f vars) (of_neg (Numbers → Bool) indices_step x)

  pub small_two : (op : Op) (x y : Expr) → has_small_indices (e.Two op x y) vars ≡ (has_small_indices x vars && has_small_indices y vars)
  small_two op x y = ap (λ (f : Numbers → Bool). f vars) (of_two (Numbers → Bool) indices_step op x y)

-- ---- an expression takes locals from its first free one on

module _ (h : Heads) where
  abbrev Grows : Expr → Type 0
  Grows x = (next : ℕ) → next ≤ (value_code h x next).next

  by_code : (next : ℕ) (v w : Lowered) → v ≡ w → next ≤ w.next → next ≤ v.next
  by_code next v w same le = subst (λ (u : Lowered). next ≤ u.next) (sym same) le

  rest_grows : (shallow : Bool) (next : ℕ) → next ≤ rest_next shallow next
  rest_grows true next = omega arith
  rest_grows false next = omega arith

  pub rested_grows : (v : Lowered) → v.next ≤ (rested v).next
  rested_grows v = rest_grows (is_shallow v.depth) v.next

  kinds : Kinds Grows
  kinds = record {
    num = λ n next. by_code next (value_code h (e.Num n) next) _ (code_num h next n) (omega arith);
    var = λ var line next. by_code next (value_code h (e.Var var line) next) _ (code_var h next var line) (omega arith);
    read = λ tensor at line next. by_code next (value_code h (e.Read tensor at line) next) _ (code_read h next tensor at line) (omega arith);
    neg = λ x grows next. by_code next (value_code h (e.Neg x) next) _ (code_neg h next x) (omega (arith, grows next, rested_grows (value_code h x next)));
    two = λ op x y first second next. by_code next (value_code h (e.Two op x y) next) _ (code_two h next op x y) (omega (arith, first next, rested_grows (value_code h x next), second (rested (value_code h x next)).next));
  }

  pub code_grows : (x : Expr) → Grows x
  code_grows = by_kind Grows kinds
