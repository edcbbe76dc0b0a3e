-- What codes mean that do a body of which one update is left, where its work is paid elsewhere.
use Rattle.std.specs.Prelude.{◌≡◌, ℕ, ◌≤◌, true, false, List, ◌∷◌, Some, ℤ}
use Rattle.fin_base.specs.declared.reduce.Reduce.{Reduce}
use Rattle.fin_ast.specs.declared.checked.Checked.{Checked}
use Rattle.fin_ast.specs.declared.tree.Index.{Index}
use Rattle.fin_ast.specs.declared.tree.Expr.{Expr}
use Rattle.fin_ast.specs.declared.tree.Stmt.{Stmt}
use Rattle.fin_ast.specs.declared.tree.Stmt.TheVariants as s
use Rattle.fin_ir.specs.declared.code.Code.{Code}
use Rattle.fin_ir.specs.declared.code.Code.TheVariants.{Assign}
use Rattle.fin_ir.specs.declared.expression.IExpr.TheVariants.{Num}
use Rattle.fin_read.specs.Values.{value_code}
use Rattle.fin_simp.specs.Left.{Marks, binding}
use Rattle.fin_simp.specs.Numbered.{Here, behind, behind_test, past_stmt}
use Rattle.fin_simp.specs.Remaining.{is_nothing, are_nothing}
use Rattle.fin_simp.specs.Work.{Context, costing}
use Rattle.fin_perform.specs.Codes.{unpaid_update, end_of}
use Rattle.fin_perform.specs.Layouts.{heads_in}
use Rattle.fin_perform.specs.Meanings.{Deed, Means, stmt_deed, turns_deed, body_deed}
use Rattle.fin_perform.specs.Working.{literal_at, test_at}

-- the same without its work
abbrev pub unpaid : Deed → Deed
unpaid d = record d { does = λ w vars r. costing 0 r (d.does w vars r) }

abbrev pub once_deed : List Stmt → Here → Context → Deed
once_deed xs h ctx = unpaid (body_deed xs h ctx)

-- ---- what the codes of the parts mean, those of the whole mean

-- What nothing is left of has no codes; a body, and what is chosen by a test that is known, have those of the one in them.
pub record MeansOnce (c : Checked) (next need : ℕ) (m : Marks) : Type 0 where
  -- nothing is left of the first, or of those behind it
  pub later : (x : Stmt) (xs : List Stmt) (h : Here) (cs : List Code) → is_nothing x h m ≡ true
      → Means c next need cs (unpaid (turns_deed xs (past_stmt x h) (Some m)))
      → Means c next need cs (unpaid (turns_deed (x ∷ xs) h (Some m)))
  pub alone : (x : Stmt) (xs : List Stmt) (h : Here) (cs : List Code) → are_nothing xs (past_stmt x h) m ≡ true
      → Means c next need cs (unpaid (stmt_deed x h (Some m)))
      → Means c next need cs (unpaid (turns_deed (x ∷ xs) h (Some m)))
  pub body : (xs : List Stmt) (h : Here) (cs : List Code) → Means c next need cs (unpaid (turns_deed xs h (Some m)))
      → Means c next need cs (once_deed xs h (Some m))
  pub block : (xs : List Stmt) (line last : ℕ) (h : Here) (cs : List Code)
      → is_nothing (s.Block xs line last) h m ≡ false → Means c next need cs (once_deed xs h (Some m))
      → Means c next need cs (unpaid (stmt_deed (s.Block xs line last) h (Some m)))
  pub known : (test : Expr) (xs : List Stmt) (line last : ℕ) (h : Here) (n : ℤ) (cs : List Code)
      → is_nothing (s.Cond test xs line last) h m ≡ false → test_at test h (Some m) ≡ Some n
      → Means c next need cs (once_deed xs (behind_test test h) (Some m))
      → Means c next need cs (unpaid (stmt_deed (s.Cond test xs line last) h (Some m)))
  pub literal : (var : ℕ) (value : Expr) (xs : List Stmt) (line last : ℕ) (h : Here) (n : ℤ) (cs : List Code)
      → is_nothing (s.Bind var value xs line last) h m ≡ false → literal_at value h (Some m) ≡ Some n → next ≤ need
      → Means c next need cs (once_deed xs (behind value h) (Some (binding m var (Some n))))
      → Means c next need (Assign var (Num n) ∷ cs) (unpaid (stmt_deed (s.Bind var value xs line last) h (Some m)))
  pub update : (t : ℕ) (at : List Index) (by : Reduce) (value : Expr) (line : ℕ) (h : Here)
      → is_nothing (s.Update t at by value line) h m ≡ false → end_of (value_code (heads_in c) value next) ≤ need
      → Means c next need (unpaid_update (heads_in c) t at by (value_code (heads_in c) value next))
      (unpaid (stmt_deed (s.Update t at by value line) h (Some m)))

abbrev pub OnceCompose : Type 0
OnceCompose = (c : Checked) (next need : ℕ) (m : Marks) → MeansOnce c next need m
