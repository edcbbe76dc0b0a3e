-- What the numbers of a program stand for: each names a header, or a loop or let that stands around it.
use Rattle.std.specs.Prelude.{ℕ, ℤ, Bool, true, false, not, ◌&&◌, ◌||◌, ◌==◌, nat_eq, List, [], ◌∷◌, length, map, slice_get, Option, Some, None}
use Rattle.std.specs.List.{list_all, list_any}
use Rattle.std.specs.Ordering.{int_eq}
use Rattle.fin_ast.specs.declared.header.Header.{Header}
use Rattle.fin_ast.specs.declared.tree.Index.{Index}
use Rattle.fin_ast.specs.declared.tree.Expr.{Expr, fold-Expr}
use Rattle.fin_ast.specs.declared.tree.Expr.TheOpen.{Expr-F}
use Rattle.fin_ast.specs.declared.tree.Stmt.{Stmt, fold-Stmt}
use Rattle.fin_ast.specs.declared.tree.Stmt.TheOpen.{Stmt-F}

-- the headers, and the variables of the loops and lets around a place, innermost first
pub record Scope : Type 0 where
  pub headers : List Header
  pub loops : List ℕ
  pub lets : List ℕ

abbrev pub within_loop : Scope → ℕ → Scope
within_loop s var = record { headers = s.headers; loops = var ∷ s.loops; lets = s.lets }

abbrev pub within_let : Scope → ℕ → Scope
within_let s var = record { headers = s.headers; loops = s.loops; lets = var ∷ s.lets }

abbrev pub is_among : List ℕ → ℕ → Bool
is_among vars var = list_any (nat_eq var) vars

-- a variable that is bound here
abbrev pub is_bound : Scope → ℕ → Bool
is_bound s var = is_among s.loops var || is_among s.lets var

-- a loop's variable, where there is one
abbrev pub is_loop : Scope → Option ℕ → Bool
is_loop s None = true
is_loop s (Some var) = is_among s.loops var

abbrev pub differ : Option ℕ → Option ℕ → Bool
differ (Some a) (Some b) = not (a == b)
differ _ _ = true

-- an index names loops, and none twice
abbrev pub is_index : Scope → Index → Bool
is_index s i = is_loop s i.first && is_loop s i.second && differ i.first i.second

abbrev pub holds_of : (Header → Bool) → Option Header → Bool
holds_of test None = false
holds_of test (Some h) = test h

-- a tensor that has a header
abbrev pub is_tensor : Scope → ℕ → Bool
is_tensor s tensor = holds_of (λ h. true) (slice_get s.headers tensor)

-- a tensor is declared with its fill
abbrev pub is_declaration : Scope → ℕ → ℤ → Bool
is_declaration s tensor value = holds_of (λ h. int_eq value h.format.fill) (slice_get s.headers tensor)

-- a tensor with as many indices as it has levels
abbrev pub is_access : Scope → ℕ → List Index → Bool
is_access s tensor at = holds_of (λ h. length at == length h.format.levels) (slice_get s.headers tensor) && list_all (is_index s) at

abbrev pub expr_step : Expr-F (Scope → Bool) → Scope → Bool
expr_step (Expr-F.Num n) s = true
expr_step (Expr-F.Var var line) s = is_bound s var
expr_step (Expr-F.Read tensor at line) s = is_access s tensor at
expr_step (Expr-F.Neg inner) s = inner s
expr_step (Expr-F.Two op left right) s = left s && right s

-- the names of an expression
abbrev pub is_named_expr : Expr → Scope → Bool
is_named_expr = fold-Expr (Scope → Bool) expr_step

abbrev pub all_named : List (Scope → Bool) → Scope → Bool
all_named body s = list_all (λ part. part s) body

abbrev pub stmt_step : Stmt-F (Scope → Bool) → Scope → Bool
stmt_step (Stmt-F.Block body line last) s = all_named body s
stmt_step (Stmt-F.Loop var range par body line last) s = all_named body (within_loop s var)
stmt_step (Stmt-F.Cond test body line last) s = is_named_expr test s && all_named body s
stmt_step (Stmt-F.Bind var value body line last) s = is_named_expr value s && all_named body (within_let s var)
stmt_step (Stmt-F.Declare tensor value line) s = is_declaration s tensor value
stmt_step (Stmt-F.Freeze tensor line) s = is_tensor s tensor
stmt_step (Stmt-F.Thaw tensor line) s = is_tensor s tensor
stmt_step (Stmt-F.Update tensor at by value line) s = is_access s tensor at && is_named_expr value s

-- the names of a statement
abbrev pub is_named : Stmt → Scope → Bool
is_named = fold-Stmt (Scope → Bool) stmt_step

abbrev pub are_named : List Stmt → Scope → Bool
are_named body s = all_named (map is_named body) s

-- outside all statements
abbrev pub outermost : List Header → Scope
outermost headers = record { headers = headers; loops = []; lets = [] }
