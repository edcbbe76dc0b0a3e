-- What is to hold of a list of statements before a run does it, so that the run by pieces may follow the run by stages.
use Rattle.std.proofs.Common.{◌≡◌, ◌<◌, ◌≤◌, ◌+◌, ℕ, ℤ, pos, Bool, true, false, List, ◌∷◌, Option, Some, None}
use Rattle.std.specs.Prelude.{IfSome, slice_set}
use Rattle.std.specs.Ordering.{int_eq}
use Rattle.fin_base.specs.declared.reduce.Reduce.{Reduce}
use Rattle.fin_ast.specs.declared.tree.Index.{Index}
use Rattle.fin_ast.specs.declared.tree.Expr.{Expr}
use Rattle.fin_ast.specs.declared.tree.Stmt.{Stmt}
use Rattle.fin_ast.specs.declared.tree.Stmt.TheVariants as s
use Rattle.fin_ast.specs.Value.{Numbers, value_of}
use Rattle.fin_ast.specs.Dense.{range_of}
use Rattle.fin_stage.specs.Stages.{stage_at, function_in}
use Rattle.fin_stage.specs.Staged.{Run, worked, regular, tensors_of, can_read, braced, stage_of, stage_all}
use Rattle.fin_simp.specs.Numbered.{Here, behind, behind_test, past_stmt, numbered}
use Rattle.fin_simp.specs.Left.{Marks, binding}
use Rattle.fin_simp.specs.Remaining.{literal_of, test_literal, are_nothing}
use Rattle.fin_simp.specs.Laws.{IsGood}
use Rattle.fin_simp.specs.Work.{World, Context, Worked, Entered, work_step, rests_in, all_fresh, can_be_entered, all_of, enter, turn, inside, marks_within, marks_at, literal_in}
use Rattle.fin_simp.specs.Moving.{worked_all}
use Rattle.fin_work.specs.Following.{Follows}
use Rattle.fin_work.proofs.Following.{SameDone}

abbrev pub worked_of : World → Stmt → Here → Worked
worked_of w = numbered Worked (work_step w)

-- of a context, the statements and their numbers, the numbers that are bound, the run by stages and the run by pieces
abbrev pub Carried : Type 1
Carried = Context → List Stmt → Here → Numbers → Run → Run → Type 0

-- of a loop besides: its variable, the loop as it is entered, and the next coordinate
abbrev pub Looping : Type 1
Looping = Context → ℕ → List Stmt → Here → Numbers → Entered → ℕ → Run → Run → Type 0

-- one coordinate of a loop by stages, and by pieces
abbrev pub turned : World → ℕ → List Stmt → Numbers → ℕ → Run → Run
turned w var body vars c r = braced (stage_all w.setting body) (slice_set vars var (pos c)) (worked 1 r)

abbrev pub pieced_turn : World → Context → List Stmt → Here → Numbers → Entered → Bool → ℕ → Run → Run
pieced_turn w ctx body h vars e =
    turn e (λ m. rests_in (Some m) (worked_all w body h)) (λ m. all_of (worked_all w body h) (Some m)) (marks_within (inside ctx e.var None)) vars

-- a body that is nothing around the loop is nothing at a coordinate
abbrev pub NothingAt : World → Marks → ℕ → Bool → List Stmt → Here → Numbers → Run → ℕ → Type 0
NothingAt w m var par body h vars r c =
    are_nothing body h (binding m var None) ≡ true → are_nothing body h (marks_at (enter w (inside (Some m) var None) var par (worked_all w body h) vars r) vars (binding m var None) c) ≡ true

-- what is known of an expression is right
abbrev pub IsRight : Option ℤ → ℤ → Type 0
IsRight o v = IfSome o (λ n. n ≡ v)

abbrev pub IsRightTest : Option ℤ → ℤ → Type 0
IsRightTest o v = IfSome o (λ n. int_eq n (pos 0) ≡ int_eq v (pos 0))

pub record Carries (w : World) (I : Carried) (L : Looping) : Type 0 where
  pub good : (ctx : Context) (xs : List Stmt) (h : Here) (vars : Numbers) (r r' : Run) → I ctx xs h vars r r' → (t : ℕ) → IfSome (function_in (stage_at r.stages t)) IsGood
  pub work : (ctx : Context) (xs : List Stmt) (h : Here) (vars : Numbers) (r r' n n' : Run) → I ctx xs h vars r r' → SameDone r n → SameDone r' n' → I ctx xs h vars n n'
  pub next : (ctx : Context) (x : Stmt) (xs : List Stmt) (h : Here) (vars : Numbers) (r r' : Run) → I ctx (x ∷ xs) h vars r r' → Follows r r' → regular (stage_of w.setting x vars r) ≡ true
      → Follows (stage_of w.setting x vars r) ((worked_of w x h).run ctx vars r') → I ctx xs (past_stmt x h) vars (stage_of w.setting x vars r) ((worked_of w x h).run ctx vars r')
  pub block : (ctx : Context) (body : List Stmt) (line last : ℕ) (xs : List Stmt) (h : Here) (vars : Numbers) (r r' : Run) → I ctx (s.Block body line last ∷ xs) h vars r r' → I ctx body h vars r r'
  -- an `if`
  pub test : (m : Marks) (test : Expr) (body : List Stmt) (line last : ℕ) (xs : List Stmt) (h : Here) (vars : Numbers) (r r' : Run) → I (Some m) (s.Cond test body line last ∷ xs) h vars r r' → Follows r r'
      → can_read test (tensors_of w.setting r) ≡ true → IsRightTest (test_literal test h m) (value_of test vars (tensors_of w.setting r))
  pub cond : (ctx : Context) (test : Expr) (body : List Stmt) (line last : ℕ) (xs : List Stmt) (h : Here) (vars : Numbers) (r r' : Run) → I ctx (s.Cond test body line last ∷ xs) h vars r r' → Follows r r'
      → can_read test (tensors_of w.setting r) ≡ true → int_eq (value_of test vars (tensors_of w.setting r)) (pos 0) ≡ false → I ctx body (behind_test test h) vars r r'
  -- a `let`
  pub value : (m : Marks) (var : ℕ) (value : Expr) (body : List Stmt) (line last : ℕ) (xs : List Stmt) (h : Here) (vars : Numbers) (r r' : Run) → I (Some m) (s.Bind var value body line last ∷ xs) h vars r r' → Follows r r'
      → can_read value (tensors_of w.setting r) ≡ true → IsRight (literal_of value h.read m) (value_of value vars (tensors_of w.setting r))
  pub bind : (ctx : Context) (var : ℕ) (value : Expr) (body : List Stmt) (line last : ℕ) (xs : List Stmt) (h : Here) (vars : Numbers) (r r' : Run) → I ctx (s.Bind var value body line last ∷ xs) h vars r r' → Follows r r'
      → can_read value (tensors_of w.setting r) ≡ true
      → I (inside ctx var (literal_in ctx (literal_of value h.read))) body (behind value h) (slice_set vars var (value_of value vars (tensors_of w.setting r))) r r'
  -- an update
  pub update : (m : Marks) (t : ℕ) (at : List Index) (by : Reduce) (value : Expr) (line : ℕ) (xs : List Stmt) (h : Here) (vars : Numbers) (r r' : Run) → I (Some m) (s.Update t at by value line ∷ xs) h vars r r' → Follows r r'
      → can_read value (tensors_of w.setting r) ≡ true → IsRight (literal_of value h.read m) (value_of value vars (tensors_of w.setting r))
  -- a loop: what its entry asks for, the entry, the body at a coordinate, and the next coordinate
  pub asked : (ctx : Context) (var : ℕ) (range : Option (ℕ × ℕ)) (par : Bool) (body : List Stmt) (line last : ℕ) (xs : List Stmt) (h : Here) (vars : Numbers) (r r' : Run)
      → I ctx (s.Loop var range par body line last ∷ xs) h vars r r' → Follows r r'
      → can_be_entered w par (all_fresh (worked_all w body h)) (rests_in (inside ctx var None) (worked_all w body h)) r' ≡ true
  pub enter : (ctx : Context) (var : ℕ) (range : Option (ℕ × ℕ)) (par : Bool) (body : List Stmt) (line last : ℕ) (xs : List Stmt) (h : Here) (vars : Numbers) (r r' n n' : Run)
      → I ctx (s.Loop var range par body line last ∷ xs) h vars r r' → Follows r r' → SameDone r n → SameDone r' n'
      → L ctx var body h vars (enter w (inside ctx var None) var par (worked_all w body h) vars r') (range_of w.setting var).0 n n'
  pub nothing : (m : Marks) (var : ℕ) (range : Option (ℕ × ℕ)) (par : Bool) (body : List Stmt) (line last : ℕ) (xs : List Stmt) (h : Here) (vars : Numbers) (r r' : Run) (c : ℕ)
      → I (Some m) (s.Loop var range par body line last ∷ xs) h vars r r' → NothingAt w m var par body h vars r' c
  pub turn : (ctx : Context) (var : ℕ) (body : List Stmt) (h : Here) (vars : Numbers) (e : Entered) (c : ℕ) (r r' : Run) → L ctx var body h vars e c r r' → Follows r r' → (range_of w.setting var).0 ≤ c → c < (range_of w.setting var).1
      → I (Some (marks_at e vars (marks_within (inside ctx var None)) c)) body h (slice_set vars var (pos c)) r r'
  pub onward : (ctx : Context) (var : ℕ) (body : List Stmt) (h : Here) (vars : Numbers) (e : Entered) (c : ℕ) (r r' : Run) (begins : Bool) → L ctx var body h vars e c r r' → Follows r r' → (range_of w.setting var).0 ≤ c → c < (range_of w.setting var).1
      → regular (turned w var body vars c r) ≡ true → Follows (turned w var body vars c r) (pieced_turn w ctx body h vars e begins c r')
      → L ctx var body h vars e (c + 1) (turned w var body vars c r) (pieced_turn w ctx body h vars e begins c r')
