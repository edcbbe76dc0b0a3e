-- What looplets and their region weigh: each step of a loop's style leaves less.
use Rattle.std.specs.Prelude.{◌≡◌, ℕ, ◌+◌, List, [], ◌∷◌, Bool, true, false, if◌then◌else◌, pos}
use Rattle.std.specs.List.{list_all}
use Rattle.fin_ir.specs.declared.expression.IExpr.{IExpr}
use Rattle.fin_ir.specs.declared.expression.IExpr.TheVariants.{Num}
use Rattle.fin_looplet.specs.declared.looplet.Looplet.{Looplet, Row_of-Phase, end_of-Phase, more_of-Phase, Row_of-Walker, end_of-Walker, more_of-Walker, Row_of-Case, end_of-Case, more_of-Case, end_of-Looplet, more_of-Looplet}
use Rattle.fin_looplet.specs.declared.looplet.Looplet.TheVariants.{Run, Spike, Lookup, Sequence', Stepper', Jumper', Switch', Shift'}
use Rattle.fin_looplet.specs.Cut.{plus}
use Rattle.fin_looplet.specs.Same.{same}

-- A spike weighs more than the two runs that it becomes where its region is cut.
abbrev mutual
  pub weight : Looplet → ℕ
  weight (Run leaf) = 0
  weight (Spike body tail) = 7
  weight (Lookup coord leaf) = 1
  weight (Sequence' n phases) = 2 + weight_phases phases
  weight (Stepper' p walker) = weight_walker walker
  weight (Jumper' p walker) = weight_walker walker
  weight (Switch' n cases) = 1 + weight_cases cases
  weight (Shift' by p (more_of-Looplet child end_of-Looplet)) = 1 + weight child

  pub weight_phases : {n : _} → Row_of-Phase n → ℕ
  weight_phases end_of-Phase = 0
  weight_phases (more_of-Phase stop child rest) = 2 + weight child + weight_phases rest

  pub weight_walker : {n : _} → Row_of-Walker n → ℕ
  weight_walker end_of-Walker = 2
  weight_walker (more_of-Walker cursor seek stop child rest) = 2 + weight child

  pub weight_cases : {n : _} → Row_of-Case n → ℕ
  weight_cases end_of-Case = 0
  weight_cases (more_of-Case test child rest) = 1 + weight child + weight_cases rest

abbrev pub weights : List Looplet → ℕ
weights [] = 0
weights (l ∷ rest) = weight l + weights rest

-- the end is written as the beginning plus 1
abbrev pub is_point : IExpr → IExpr → Bool
is_point lo hi = same hi (plus lo (Num (pos 1)))

abbrev pub region : IExpr → IExpr → ℕ
region lo hi = if is_point lo hi then 0 else 1

-- a list of looplets, and a region's two ends
abbrev pub weight_of : List Looplet → IExpr → IExpr → ℕ
weight_of ls lo hi = region lo hi + weights ls

-- ---- what weighs nothing

abbrev pub is_run : Looplet → Bool
is_run (Run leaf) = true
is_run (Spike body tail) = false
is_run (Lookup coord leaf) = false
is_run (Sequence' n phases) = false
is_run (Stepper' p walker) = false
is_run (Jumper' p walker) = false
is_run (Switch' n cases) = false
is_run (Shift' by p child) = false

-- all of the looplets are runs, and the region's end is written as its beginning plus 1
pub record RunsAtPoint (ls : List Looplet) (lo hi : IExpr) : Type 0 where
  pub runs : list_all is_run ls ≡ true
  pub end : hi ≡ plus lo (Num (pos 1))
