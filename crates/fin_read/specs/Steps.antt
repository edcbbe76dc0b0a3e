-- Assignments of locals, one after another.
use Rattle.std.specs.Prelude.{◌≡◌, ℕ, ◌<◌, List, [], ◌∷◌, ◌++◌, map, slice_index_or, slice_set, ℤ, pos}
use Rattle.fin_ir.specs.declared.expression.IExpr.{IExpr}
use Rattle.fin_ir.specs.declared.code.Code.{Code}
use Rattle.fin_ir.specs.declared.code.Code.TheVariants.{Assign}
use Rattle.fin_ir.specs.Machine.{Tensor}
use Rattle.fin_ir.specs.Value.{value_of}

pub record Step : Type 0 where
  pub local : ℕ
  pub value : IExpr

-- what they leave of the locals
abbrev pub stepped : (ℕ → Tensor) → List Step → List ℤ → List ℤ
stepped ts [] ls = ls
stepped ts (s ∷ rest) ls = stepped ts rest (slice_set ls s.local (value_of s.value ts ls))

abbrev pub assign_of : Step → Code
assign_of s = Assign s.local s.value

-- the code goes on by these steps
abbrev pub Appends : List Code → List Code → List Step → Type 0
Appends old new steps = new ≡ old ++ map assign_of steps

-- the code goes on by one step
abbrev pub AppendsOne : List Code → List Code → Step → Type 0
AppendsOne old new step = new ≡ old ++ assign_of step ∷ []

-- two lists of locals are the same below a number
abbrev pub Agree : ℕ → List ℤ → List ℤ → Type 0
Agree n ks ls = (k : ℕ) → k < n → slice_index_or ks k (pos 0) ≡ slice_index_or ls k (pos 0)
