-- What the code of statements performs, where a run by pieces does them outside all loops or under what is known.
use Rattle.std.specs.Prelude.{◌≡◌, ℕ, ◌≤◌, true, false, List, [], ◌∷◌, ℤ}
use Rattle.fin_base.specs.declared.reduce.Reduce.{Reduce}
use Rattle.fin_tensor.specs.declared.storage.Storage.{Storage}
use Rattle.fin_ast.specs.declared.checked.Checked.{Checked}
use Rattle.fin_ast.specs.declared.tree.Index.{Index}
use Rattle.fin_ast.specs.declared.tree.Expr.{Expr}
use Rattle.fin_ast.specs.declared.tree.Stmt.{Stmt}
use Rattle.fin_ast.specs.declared.tree.Stmt.TheVariants as s
use Rattle.fin_ast.specs.Accepted.{FitProgram}
use Rattle.fin_ast.specs.Scope.{Scope, is_named}
use Rattle.fin_ast.specs.Shaped.{FitHeaders}
use Rattle.fin_ast.specs.Value.{Numbers}
use Rattle.fin_ir.specs.declared.code.Code.{Code}
use Rattle.fin_stage.specs.Staged.{Run}
use Rattle.fin_read.specs.Values.{value_code}
use Rattle.fin_nest.specs.Senses.{runs, Advances}
use Rattle.fin_nest.specs.Performs.{Place, Performs}
use Rattle.fin_simp.specs.Numbered.{Here}
use Rattle.fin_simp.specs.Work.{Context, world_of}
use Rattle.fin_perform.specs.Codes.{declare_code, freeze_code, thaw_code, update_code, end_of}
use Rattle.fin_perform.specs.Layouts.{heads_in, layout_with, start_with}
use Rattle.fin_perform.specs.Standing.{StandsIn}
use Rattle.fin_perform.specs.Working.{run_of, nothing_in}

-- The codes lead from machines that do what a run does, or one that trails it, to such machines of what is done to the
-- run; and that takes no work back.
pub record Does (c : Checked) (room : ℕ) (inputs : List Storage) (p : Place) (cs : List Code) (f : Run → Run) : Type 0 where
  pub performs : Performs (layout_with c room) (runs (start_with c room inputs)) p cs f
  pub advances : (r : Run) → Advances r (f r)

-- the codes do what the statement does in the context, whose first read and test have these numbers
abbrev pub DoesStmt : Checked → ℕ → List Storage → Place → List Code → Stmt → Here → Context → Numbers → Type 0
DoesStmt c room inputs p cs x h ctx vars = Does c room inputs p cs (run_of (world_of c inputs) x h ctx vars)

-- a statement of which nothing is left has no code
abbrev pub NothingPerforms : Type 0
NothingPerforms = (c : Checked) (room : ℕ) (inputs : List Storage) (p : Place) (x : Stmt) (h : Here) (ctx : Context) (vars : Numbers)
    → nothing_in x h ctx ≡ true → DoesStmt c room inputs p [] x h ctx vars

-- ---- statements without bodies

-- at a place in a scope, where these numbers are bound
pub record LeafPerforms (c : Checked) (room : ℕ) (inputs : List Storage) (sc : Scope) (vars : Numbers) (p : Place) : Type 0 where
  pub declare : (t : ℕ) (value : ℤ) (line : ℕ) (h : Here) (ctx : Context) → p.steady t ≡ false → is_named (s.Declare t value line) sc ≡ true
      → DoesStmt c room inputs p (declare_code (heads_in c) t ∷ []) (s.Declare t value line) h ctx vars
  pub freeze : (t line : ℕ) (h : Here) (ctx : Context) → p.steady t ≡ false
      → DoesStmt c room inputs p (freeze_code (heads_in c) t ∷ []) (s.Freeze t line) h ctx vars
  pub thaw : (t line : ℕ) (h : Here) (ctx : Context) → p.steady t ≡ false
      → DoesStmt c room inputs p (thaw_code (heads_in c) t ∷ []) (s.Thaw t line) h ctx vars
  -- of which something is left
  pub update : (t : ℕ) (at : List Index) (by : Reduce) (value : Expr) (line : ℕ) (h : Here) (ctx : Context) → p.steady t ≡ false
      → is_named (s.Update t at by value line) sc ≡ true → end_of (value_code (heads_in c) value p.next) ≤ room
      → nothing_in (s.Update t at by value line) h ctx ≡ false
      → DoesStmt c room inputs p (update_code (heads_in c) t at by (value_code (heads_in c) value p.next) ∷ [])
      (s.Update t at by value line) h ctx vars

abbrev pub LeavesPerform : Type 0
LeavesPerform = (c : Checked) (room : ℕ) (inputs : List Storage) (sc : Scope) (vars : Numbers) (p : Place)
    → FitHeaders c.program.headers c.dims → FitProgram c inputs → StandsIn c sc vars p
    → LeafPerforms c room inputs sc vars p
