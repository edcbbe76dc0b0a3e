-- The one update that is left of statements, as it is written, and that it is all that they do.
use Rattle.std.specs.Prelude.{◌≡◌, ℕ, Bool, true, false, ◌&&◌, ◌||◌, nat_eq, List, ◌∷◌, Some, ℤ}
use Rattle.std.specs.List.{list_any}
use Rattle.fin_base.specs.declared.reduce.Reduce.{Reduce}
use Rattle.fin_ast.specs.declared.tree.Index.{Index}
use Rattle.fin_ast.specs.declared.tree.Expr.{Expr, fold-Expr}
use Rattle.fin_ast.specs.declared.tree.Expr.TheOpen.{Expr-F}
use Rattle.fin_ast.specs.declared.tree.Stmt.{Stmt}
use Rattle.fin_ast.specs.declared.tree.Stmt.TheVariants as s
use Rattle.fin_ast.specs.Actions.{Update}
use Rattle.fin_ast.specs.Scope.{Scope, is_access, is_named_expr}
use Rattle.fin_ast.specs.Value.{Numbers}
use Rattle.fin_stage.specs.Staged.{Run, Action, leaf}
use Rattle.fin_simp.specs.Left.{Marks, binding}
use Rattle.fin_simp.specs.Numbered.{Here, behind, behind_test, past_stmt}
use Rattle.fin_simp.specs.Remaining.{is_nothing, are_nothing}
use Rattle.fin_simp.specs.Work.{World, names_var, costing}
use Rattle.fin_perform.specs.Meanings.{Deed, stmt_deed, turns_deed, body_deed}
use Rattle.fin_perform.specs.Working.{literal_at, test_at}

-- ---- updates

pub record Written : Type 0 where
  pub tensor : ℕ
  pub at : List Index
  pub by : Reduce
  pub value : Expr

-- it does this to a run
abbrev pub put_by : World → Written → Action
put_by w u = leaf w.setting (Update u.tensor u.at u.by u.value)

abbrev pub is_named_update : Written → Scope → Bool
is_named_update u sc = is_access sc u.tensor u.at && is_named_expr u.value sc

-- an expression names a variable, also in the indices of its reads
abbrev pub names_step : ℕ → Expr-F Bool → Bool
names_step var (Expr-F.Num n) = false
names_step var (Expr-F.Var x line) = nat_eq x var
names_step var (Expr-F.Read tensor at line) = list_any (names_var var) at
names_step var (Expr-F.Neg inner) = inner
names_step var (Expr-F.Two op left right) = left || right

abbrev pub names_in : ℕ → Expr → Bool
names_in var = fold-Expr Bool (names_step var)

abbrev pub update_names : ℕ → Written → Bool
update_names var u = list_any (names_var var) u.at || names_in var u.value

-- ---- all that is left

-- But for its work the deed is the update. That changes what the deed does, and its names are good where those of the deed
-- are: it names nothing that is bound inside.
pub record IsOnly (d : Deed) (u : Written) : Type 0 where
  pub does : (w : World) (vars : Numbers) (r : Run) → costing 0 r (d.does w vars r) ≡ costing 0 r (put_by w u vars r)
  pub named : (sc : Scope) → d.named sc ≡ true → is_named_update u sc ≡ true
  pub written : d.written u.tensor ≡ true

-- what is all that is left of a part is all that is left of the whole
pub record OnlyLeft (m : Marks) : Type 0 where
  -- nothing is left of the first, or of those behind it
  pub later : (x : Stmt) (xs : List Stmt) (h : Here) (u : Written) → is_nothing x h m ≡ true
      → IsOnly (turns_deed xs (past_stmt x h) (Some m)) u → IsOnly (turns_deed (x ∷ xs) h (Some m)) u
  pub alone : (x : Stmt) (xs : List Stmt) (h : Here) (u : Written) → are_nothing xs (past_stmt x h) m ≡ true
      → IsOnly (stmt_deed x h (Some m)) u → IsOnly (turns_deed (x ∷ xs) h (Some m)) u
  pub body : (xs : List Stmt) (h : Here) (u : Written) → IsOnly (turns_deed xs h (Some m)) u
      → IsOnly (body_deed xs h (Some m)) u
  pub block : (xs : List Stmt) (line last : ℕ) (h : Here) (u : Written) → is_nothing (s.Block xs line last) h m ≡ false
      → IsOnly (body_deed xs h (Some m)) u → IsOnly (stmt_deed (s.Block xs line last) h (Some m)) u
  pub known : (test : Expr) (xs : List Stmt) (line last : ℕ) (h : Here) (n : ℤ) (u : Written)
      → is_nothing (s.Cond test xs line last) h m ≡ false → test_at test h (Some m) ≡ Some n
      → IsOnly (body_deed xs (behind_test test h) (Some m)) u
      → IsOnly (stmt_deed (s.Cond test xs line last) h (Some m)) u
  -- what a let of a literal binds isn't named
  pub literal : (var : ℕ) (value : Expr) (xs : List Stmt) (line last : ℕ) (h : Here) (n : ℤ) (u : Written)
      → is_nothing (s.Bind var value xs line last) h m ≡ false → literal_at value h (Some m) ≡ Some n
      → update_names var u ≡ false → IsOnly (body_deed xs (behind value h) (Some (binding m var (Some n)))) u
      → IsOnly (stmt_deed (s.Bind var value xs line last) h (Some m)) u
  pub update : (t : ℕ) (at : List Index) (by : Reduce) (value : Expr) (line : ℕ) (h : Here)
      → is_nothing (s.Update t at by value line) h m ≡ false
      → IsOnly (stmt_deed (s.Update t at by value line) h (Some m))
      (record { tensor = t; at = at; by = by; value = value })

abbrev pub OnlyCompose : Type 0
OnlyCompose = (m : Marks) → OnlyLeft m
