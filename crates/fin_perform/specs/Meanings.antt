-- What codes mean, wherever they may stand: they perform statements at each place that suits these.
use Rattle.std.specs.Prelude.{◌≡◌, ℕ, ◌≤◌, Bool, true, false, List, [], ◌∷◌, ◌++◌, map, Some, None, ℤ}
use Rattle.fin_base.specs.declared.reduce.Reduce.{Reduce}
use Rattle.fin_tensor.specs.declared.storage.Storage.{Storage}
use Rattle.fin_ast.specs.declared.checked.Checked.{Checked}
use Rattle.fin_ast.specs.declared.tree.Index.{Index}
use Rattle.fin_ast.specs.declared.tree.Expr.{Expr}
use Rattle.fin_ast.specs.declared.tree.Stmt.{Stmt}
use Rattle.fin_ast.specs.declared.tree.Stmt.TheVariants as s
use Rattle.fin_ast.specs.Accepted.{FitProgram}
use Rattle.fin_ast.specs.Bindings.{bindings_of, bindings_of_all}
use Rattle.fin_ast.specs.Scope.{Scope, is_named, are_named}
use Rattle.fin_ast.specs.Shaped.{FitHeaders}
use Rattle.fin_ast.specs.Value.{Numbers}
use Rattle.fin_ir.specs.declared.code.Code.{Code}
use Rattle.fin_stage.specs.Staged.{Run}
use Rattle.fin_read.specs.Values.{value_code}
use Rattle.fin_nest.specs.Performs.{Place}
use Rattle.fin_simp.specs.Numbered.{Here, behind, behind_test, past_stmt, past_all}
use Rattle.fin_simp.specs.Work.{World, Context, world_of, inside}
use Rattle.fin_perform.specs.Codes.{declare_code, freeze_code, thaw_code, update_code, cond_code, literal_code, let_code, end_of}
use Rattle.fin_perform.specs.Layouts.{heads_in}
use Rattle.fin_perform.specs.Performing.{Does}
use Rattle.fin_perform.specs.Places.{Suits, changes, change_all}
use Rattle.fin_perform.specs.Working.{run_of, turns_of, body_of, nothing_in, literal_at, test_at}

-- what codes are for: the variables that are bound, the tensors that are changed by what is left, in which scope the names
-- are good, and what is done to a run
pub record Deed : Type 0 where
  pub bound : List ℕ
  pub written : ℕ → Bool
  pub named : Scope → Bool
  pub does : World → Numbers → Run → Run

-- From the first free local on, the codes do the deed where there are as many locals as they need.
abbrev pub Means : Checked → ℕ → ℕ → List Code → Deed → Type 0
Means c next need cs d = (room : ℕ) (inputs : List Storage) (sc : Scope) (vars : Numbers) (p : Place) → need ≤ room
    → FitHeaders c.program.headers c.dims → FitProgram c inputs → Suits c next d.bound d.written sc vars p → d.named sc ≡ true
    → Does c room inputs p cs (d.does (world_of c inputs) vars)

-- a statement in a context, whose first read and test have these numbers
abbrev pub stmt_deed : Stmt → Here → Context → Deed
stmt_deed x h ctx = record { bound = bindings_of x; written = changes x h ctx; named = is_named x; does = λ w. run_of w x h ctx }

-- statements one after another
abbrev pub turns_deed : List Stmt → Here → Context → Deed
turns_deed xs h ctx = record { bound = bindings_of_all xs; written = change_all xs h ctx; named = are_named xs; does = λ w. turns_of w xs h ctx }

-- and as a body
abbrev pub body_deed : List Stmt → Here → Context → Deed
body_deed xs h ctx = record { bound = bindings_of_all xs; written = change_all xs h ctx; named = are_named xs; does = λ w. body_of w xs h ctx }

-- ---- what the codes of the parts mean, those of the whole mean

pub record MeansParts (c : Checked) (next need : ℕ) (ctx : Context) : Type 0 where
  pub none : (h : Here) → Means c next need [] (turns_deed [] h ctx)
  pub single : (x : Stmt) (h : Here) (cs : List Code) → Means c next need cs (stmt_deed x h ctx)
      → Means c next need cs (turns_deed (x ∷ []) h ctx)
  pub joined : (xs ys : List Stmt) (h : Here) (cs ds : List Code) → Means c next need cs (turns_deed xs h ctx)
      → Means c next need ds (turns_deed ys (past_all (map past_stmt xs) h) ctx)
      → Means c next need (cs ++ ds) (turns_deed (xs ++ ys) h ctx)
  pub body : (xs : List Stmt) (h : Here) (cs : List Code) → Means c next need cs (turns_deed xs h ctx)
      → Means c next need cs (body_deed xs h ctx)

pub record MeansLeaves (c : Checked) (next need : ℕ) (ctx : Context) : Type 0 where
  pub nothing : (x : Stmt) (h : Here) → nothing_in x h ctx ≡ true → Means c next need [] (stmt_deed x h ctx)
  pub declare : (t : ℕ) (value : ℤ) (line : ℕ) (h : Here)
      → Means c next need (declare_code (heads_in c) t ∷ []) (stmt_deed (s.Declare t value line) h ctx)
  pub freeze : (t line : ℕ) (h : Here) → Means c next need (freeze_code (heads_in c) t ∷ []) (stmt_deed (s.Freeze t line) h ctx)
  pub thaw : (t line : ℕ) (h : Here) → Means c next need (thaw_code (heads_in c) t ∷ []) (stmt_deed (s.Thaw t line) h ctx)
  pub update : (t : ℕ) (at : List Index) (by : Reduce) (value : Expr) (line : ℕ) (h : Here)
      → nothing_in (s.Update t at by value line) h ctx ≡ false → end_of (value_code (heads_in c) value next) ≤ need
      → Means c next need (update_code (heads_in c) t at by (value_code (heads_in c) value next) ∷ [])
      (stmt_deed (s.Update t at by value line) h ctx)

-- of statements with bodies, of which something is left
pub record MeansBodies (c : Checked) (next need : ℕ) (ctx : Context) : Type 0 where
  pub block : (xs : List Stmt) (line last : ℕ) (h : Here) (cs : List Code) → nothing_in (s.Block xs line last) h ctx ≡ false
      → Means c next need cs (body_deed xs h ctx) → Means c next need cs (stmt_deed (s.Block xs line last) h ctx)
  pub known : (test : Expr) (xs : List Stmt) (line last : ℕ) (h : Here) (n : ℤ) (cs : List Code)
      → nothing_in (s.Cond test xs line last) h ctx ≡ false → test_at test h ctx ≡ Some n
      → Means c next need cs (body_deed xs (behind_test test h) ctx)
      → Means c next need cs (stmt_deed (s.Cond test xs line last) h ctx)
  pub asked : (test : Expr) (xs : List Stmt) (line last : ℕ) (h : Here) (cs : List Code)
      → nothing_in (s.Cond test xs line last) h ctx ≡ false → test_at test h ctx ≡ None
      → end_of (value_code (heads_in c) test next) ≤ need → Means c next need cs (body_deed xs (behind_test test h) ctx)
      → Means c next need (cond_code (value_code (heads_in c) test next) cs ∷ []) (stmt_deed (s.Cond test xs line last) h ctx)
  pub literal : (var : ℕ) (value : Expr) (xs : List Stmt) (line last : ℕ) (h : Here) (n : ℤ) (cs : List Code)
      → nothing_in (s.Bind var value xs line last) h ctx ≡ false → literal_at value h ctx ≡ Some n → next ≤ need
      → Means c next need cs (body_deed xs (behind value h) (inside ctx var (Some n)))
      → Means c next need (literal_code var n cs ∷ []) (stmt_deed (s.Bind var value xs line last) h ctx)
  pub evaluated : (var : ℕ) (value : Expr) (xs : List Stmt) (line last : ℕ) (h : Here) (cs : List Code)
      → nothing_in (s.Bind var value xs line last) h ctx ≡ false → literal_at value h ctx ≡ None
      → end_of (value_code (heads_in c) value next) ≤ need
      → Means c next need cs (body_deed xs (behind value h) (inside ctx var None))
      → Means c next need (let_code var (value_code (heads_in c) value next) cs ∷ []) (stmt_deed (s.Bind var value xs line last) h ctx)

abbrev pub MeaningsCompose : Type 0
MeaningsCompose = (c : Checked) (next need : ℕ) (ctx : Context) → MeansParts c next need ctx × MeansLeaves c next need ctx × MeansBodies c next need ctx
