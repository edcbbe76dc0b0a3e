-- What the code of statements with bodies performs, and of the statements of a body one after another.
use Rattle.std.specs.Prelude.{◌≡◌, ℕ, ◌<◌, ◌≤◌, true, false, List, [], ◌∷◌, ◌++◌, map, Some, None, slice_set, ℤ}
use Rattle.fin_tensor.specs.declared.storage.Storage.{Storage}
use Rattle.fin_ast.specs.declared.checked.Checked.{Checked}
use Rattle.fin_ast.specs.declared.tree.Expr.{Expr}
use Rattle.fin_ast.specs.declared.tree.Stmt.{Stmt}
use Rattle.fin_ast.specs.declared.tree.Stmt.TheVariants as s
use Rattle.fin_ast.specs.Accepted.{FitProgram}
use Rattle.fin_ast.specs.Scope.{Scope, is_named_expr}
use Rattle.fin_ast.specs.Shaped.{FitHeaders}
use Rattle.fin_ast.specs.Value.{Numbers}
use Rattle.fin_ir.specs.declared.code.Code.{Code}
use Rattle.fin_ir.specs.declared.expression.IExpr.TheVariants.{Local}
use Rattle.fin_ir.specs.Machine.{Machine}
use Rattle.fin_ir.specs.Value.{value_in}
use Rattle.fin_read.specs.Values.{value_code}
use Rattle.fin_nest.specs.Performs.{Place, Hold, Stay}
use Rattle.fin_simp.specs.Numbered.{Here, behind, behind_test, past_stmt, past_all}
use Rattle.fin_simp.specs.Work.{Context, world_of, inside}
use Rattle.fin_perform.specs.Codes.{cond_code, literal_code, let_code, end_of}
use Rattle.fin_perform.specs.Layouts.{heads_in}
use Rattle.fin_perform.specs.Standing.{StandsIn}
use Rattle.fin_perform.specs.Performing.{Does, DoesStmt}
use Rattle.fin_perform.specs.Working.{turns_of, body_of, nothing_in, literal_at, test_at}

-- the codes do what these statements do one after another; what the body of them does
abbrev pub DoesTurns : Checked → ℕ → List Storage → Place → List Code → List Stmt → Here → Context → Numbers → Type 0
DoesTurns c room inputs p cs xs h ctx vars = Does c room inputs p cs (turns_of (world_of c inputs) xs h ctx vars)

abbrev pub DoesBody : Checked → ℕ → List Storage → Place → List Code → List Stmt → Here → Context → Numbers → Type 0
DoesBody c room inputs p cs xs h ctx vars = Does c room inputs p cs (body_of (world_of c inputs) xs h ctx vars)

-- ---- bodies, blocks, and what is chosen by a test that is known

pub record BodyPerforms (c : Checked) (room : ℕ) (inputs : List Storage) (p : Place) (ctx : Context) (vars : Numbers) : Type 0 where
  pub nothing : (h : Here) → DoesTurns c room inputs p [] [] h ctx vars
  -- one more before the others, or behind them
  pub next : (x : Stmt) (xs : List Stmt) (h : Here) (cs ds : List Code) → Stay p p.facts
      → DoesStmt c room inputs p cs x h ctx vars → DoesTurns c room inputs p ds xs (past_stmt x h) ctx vars
      → DoesTurns c room inputs p (cs ++ ds) (x ∷ xs) h ctx vars
  pub last : (xs : List Stmt) (x : Stmt) (h : Here) (cs ds : List Code) → Stay p p.facts
      → DoesTurns c room inputs p cs xs h ctx vars → DoesStmt c room inputs p ds x (past_all (map past_stmt xs) h) ctx vars
      → DoesTurns c room inputs p (cs ++ ds) (xs ++ x ∷ []) h ctx vars
  pub body : (xs : List Stmt) (h : Here) (cs : List Code) → DoesTurns c room inputs p cs xs h ctx vars
      → DoesBody c room inputs p cs xs h ctx vars
  pub block : (xs : List Stmt) (line last : ℕ) (h : Here) (cs : List Code)
      → nothing_in (s.Block xs line last) h ctx ≡ false → DoesBody c room inputs p cs xs h ctx vars
      → DoesStmt c room inputs p cs (s.Block xs line last) h ctx vars
  -- a test that is known isn't asked
  pub known : (test : Expr) (xs : List Stmt) (line last : ℕ) (h : Here) (n : ℤ) (cs : List Code)
      → nothing_in (s.Cond test xs line last) h ctx ≡ false → test_at test h ctx ≡ Some n
      → DoesBody c room inputs p cs xs (behind_test test h) ctx vars
      → DoesStmt c room inputs p cs (s.Cond test xs line last) h ctx vars

abbrev pub BodiesPerform : Type 0
BodiesPerform = (c : Checked) (room : ℕ) (inputs : List Storage) (p : Place) (ctx : Context) (vars : Numbers)
    → BodyPerforms c room inputs p ctx vars

-- ---- tests that are asked

abbrev pub TestsPerform : Type 0
TestsPerform = (c : Checked) (room : ℕ) (inputs : List Storage) (sc : Scope) (vars : Numbers) (p : Place)
    → FitHeaders c.program.headers c.dims → FitProgram c inputs → StandsIn c sc vars p
    → (test : Expr) (xs : List Stmt) (line last : ℕ) (h : Here) (ctx : Context) (cs : List Code)
    → is_named_expr test sc ≡ true → end_of (value_code (heads_in c) test p.next) ≤ room
    → nothing_in (s.Cond test xs line last) h ctx ≡ false → test_at test h ctx ≡ None
    → DoesBody c room inputs p cs xs (behind_test test h) ctx vars
    → DoesStmt c room inputs p (cond_code (value_code (heads_in c) test p.next) cs ∷ []) (s.Cond test xs line last) h ctx vars

-- ---- lets

-- a place inside a let, where its variable's local has the value
pub record IsInside (p q : Place) (var : ℕ) (z : ℤ) : Type 0 where
  pub facts : (m : Machine) → Hold m p.facts → value_in m (Local var) ≡ z → Hold m q.facts
  pub next : p.next ≤ q.next
  pub binds : (x : ℕ) → p.binds x ≡ false → q.binds x ≡ false
  pub steady : (t : ℕ) → p.steady t ≡ true → q.steady t ≡ true

-- A let of a literal assigns it; any other is evaluated. The code of the body stands inside, whatever the value.
pub record LetPerforms (c : Checked) (room : ℕ) (inputs : List Storage) (sc : Scope) (vars : Numbers) (p : Place) (var : ℕ) : Type 0 where
  pub literal : (q : Place) (value : Expr) (xs : List Stmt) (line last : ℕ) (h : Here) (ctx : Context) (n : ℤ) (cs : List Code)
      → nothing_in (s.Bind var value xs line last) h ctx ≡ false → literal_at value h ctx ≡ Some n → IsInside p q var n
      → DoesBody c room inputs q cs xs (behind value h) (inside ctx var (Some n)) (slice_set vars var n)
      → DoesStmt c room inputs p (literal_code var n cs ∷ []) (s.Bind var value xs line last) h ctx vars
  pub evaluated : (q : ℤ → Place) (value : Expr) (xs : List Stmt) (line last : ℕ) (h : Here) (ctx : Context) (cs : List Code)
      → is_named_expr value sc ≡ true → end_of (value_code (heads_in c) value p.next) ≤ room
      → nothing_in (s.Bind var value xs line last) h ctx ≡ false → literal_at value h ctx ≡ None
      → ((z : ℤ) → IsInside p (q z) var z)
      → ((z : ℤ) → DoesBody c room inputs (q z) cs xs (behind value h) (inside ctx var None) (slice_set vars var z))
      → DoesStmt c room inputs p (let_code var (value_code (heads_in c) value p.next) cs ∷ []) (s.Bind var value xs line last) h ctx vars

abbrev pub LetsPerform : Type 0
LetsPerform = (c : Checked) (room : ℕ) (inputs : List Storage) (sc : Scope) (vars : Numbers) (p : Place) (var : ℕ)
    → FitHeaders c.program.headers c.dims → FitProgram c inputs → StandsIn c sc vars p → var < room → p.binds var ≡ true
    → LetPerforms c room inputs sc vars p var
