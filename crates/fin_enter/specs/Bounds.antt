-- The bounds of masks: expressions without reads, whose values are asked of the variables alone.
use Rattle.std.specs.Prelude.{◌≡◌, ℕ, ◌+◌, ◌<◌, ◌≤◌, true, None, List, length, ℤ}
use Rattle.fin_ast.specs.declared.tree.Expr.{Expr}
use Rattle.fin_ast.specs.Scope.{Scope, is_bound, is_named_expr}
use Rattle.fin_ast.specs.Value.{Numbers, Tensors, number, value_of}
use Rattle.fin_stage.specs.Staged.{can_read, has_small_indices}
use Rattle.fin_looplet.specs.View.{Store}
use Rattle.fin_read.specs.Values.{Heads, value_code}
use Rattle.fin_read.specs.Means.{IsValued}
use Rattle.fin_simp.specs.Work.{is_bound_of}

-- what evaluating it asks for, and that no tensor makes a difference
pub record IsFree (e : Expr) (vars : Numbers) (ts : Tensors) : Type 0 where
  pub reads : can_read e ts ≡ true
  pub small : has_small_indices e vars ≡ true
  pub same : value_of e vars ts ≡ value_of e vars (λ tensor. None)

abbrev pub BoundsAreFree : Type 0
BoundsAreFree = (var : ℕ) (e : Expr) (vars : Numbers) (ts : Tensors) → is_bound_of var e ≡ true → IsFree e vars ts

-- Of the variables in scope those before a loop's own have their numbers in locals. A bound names no others.
abbrev pub HaveNumbers : Scope → ℕ → Numbers → List ℤ → Type 0
HaveNumbers sc var vars ls = (x : ℕ) → is_bound sc x ≡ true → x < var → number ls x ≡ number vars x

-- its code has the value that the mask has for its bound
abbrev pub BoundsMean : Type 0
BoundsMean = (h : Heads) (ts : Store) (sc : Scope) (vars : Numbers) (var : ℕ) (e : Expr) (next : ℕ) (ls : List ℤ)
    → is_named_expr e sc ≡ true → is_bound_of var e ≡ true → var ≤ next → HaveNumbers sc var vars ls
    → (value_code h e next).next + 1 ≤ length ls
    → IsValued ts (value_code h e next) next ls (value_of e vars (λ tensor. None))
