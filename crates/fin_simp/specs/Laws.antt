-- What simplification promises, as statements.
use Rattle.std.specs.Prelude.{◌≡◌, ◌≤◌, ◌^◌, ◌↔◌, ℕ, true, List, [], ◌∷◌, map, IfSome}
use Rattle.fin_base.specs.Words.{IsWord}
use Rattle.fin_tensor.specs.TensorFunction.{TensorFunction, IsTensor}
use Rattle.fin_ast.specs.declared.tree.Stmt.{Stmt}
use Rattle.fin_ast.specs.Value.{Numbers}
use Rattle.fin_ast.specs.Dense.{Made, Setting, State, fill_of, range_of, run_all}
use Rattle.fin_stage.specs.Stages.{function_in}
use Rattle.fin_stage.specs.Staged.{Run, stage_all, regular}
use Rattle.fin_simp.specs.Numbered.{Here}
use Rattle.fin_simp.specs.Left.{Marks}
use Rattle.fin_simp.specs.Simplified.{simplified_all}
use Rattle.fin_simp.specs.Remaining.{are_nothing}
use Rattle.fin_ast.specs.Literals.{all_hold, is_worded_stmt}
use Rattle.fin_simp.specs.Wording.{KnowsWords, Further}
use Rattle.fin_simp.specs.Worthy.{WordNumbers}
use Rattle.fin_simp.specs.Right.{are_right}

abbrev pub IsGood : TensorFunction → Type 0
IsGood f = IsTensor f × IsWord f.fill

abbrev pub AreGood : Made → Type 0
AreGood [] = Unit {0}
AreGood (t ∷ ts) = IfSome t IsGood × AreGood ts

-- the inputs are, each fill is a word, and no range reaches over 2^40
pub record IsWordy (w : Setting) : Type 0 where
  pub given : AreGood w.given
  pub fills : (tensor : ℕ) → IsWord (fill_of w tensor)
  pub ranges : (var : ℕ) → (range_of w var).1 ≤ 2 ^ 40

-- a body that is looked at: its literals, what is known, the numbers and tensors that it is run from are words, and what
-- is known is right wherever its run by dense evaluation looks at it
pub record IsMarkedWell (w : Setting) (body : List Stmt) (h : Here) (m : Marks) (vars : Numbers) (s : State) : Type 0 where
  pub setting : IsWordy w
  pub literals : all_hold (map is_worded_stmt body) ≡ true
  pub known : KnowsWords m
  pub numbers : WordNumbers vars
  pub made : AreGood s.made
  pub right : are_right w body h m vars s.made ≡ true

-- the simplified body makes what the body makes
abbrev pub SimplifiedMeansTheSame : Type 0
SimplifiedMeansTheSame = (w : Setting) (body : List Stmt) (h : Here) (m : Marks) (vars : Numbers) (s : State) → IsMarkedWell w body h m vars s
    → (run_all w (simplified_all body h m) vars s).made ≡ (run_all w body vars s).made

-- a body that is nothing makes nothing
abbrev pub NothingMakesNothing : Type 0
NothingMakesNothing = (w : Setting) (body : List Stmt) (h : Here) (m : Marks) (vars : Numbers) (s : State) → IsMarkedWell w body h m vars s
    → are_nothing body h m ≡ true → (run_all w body vars s).made ≡ s.made

-- a body is nothing exactly where nothing is left of it
abbrev pub NothingIsLeft : Type 0
NothingIsLeft = (body : List Stmt) (h : Here) (m : Marks) → (are_nothing body h m ≡ true) ↔ (simplified_all body h m ≡ [])

-- what is nothing stays nothing where more is known
abbrev pub NothingStaysNothing : Type 0
NothingStaysNothing = (body : List Stmt) (h : Here) (m m' : Marks) → all_hold (map is_worded_stmt body) ≡ true → KnowsWords m' → Further m m'
    → are_nothing body h m ≡ true → are_nothing body h m' ≡ true

-- ---- over the run by stages

-- the functions of the tensors in a run by stages
abbrev pub made_in : Run → Made
made_in r = map function_in r.stages

abbrev pub state_of : Run → State
state_of r = record { made = made_in r; turns = 0 }

-- the simplified body makes what the body makes, where each statement of the one and of the other is asked for what it can do
abbrev pub SimplifiedStagesTheSame : Type 0
SimplifiedStagesTheSame = (w : Setting) (body : List Stmt) (h : Here) (m : Marks) (vars : Numbers) (r : Run) → IsMarkedWell w body h m vars (state_of r)
    → regular (stage_all w body vars r) ≡ true → regular (stage_all w (simplified_all body h m) vars r) ≡ true
    → made_in (stage_all w (simplified_all body h m) vars r) ≡ made_in (stage_all w body vars r)

-- a body that is nothing makes nothing
abbrev pub NothingStagesNothing : Type 0
NothingStagesNothing = (w : Setting) (body : List Stmt) (h : Here) (m : Marks) (vars : Numbers) (r : Run) → IsMarkedWell w body h m vars (state_of r)
    → regular (stage_all w body vars r) ≡ true → are_nothing body h m ≡ true → made_in (stage_all w body vars r) ≡ made_in r
