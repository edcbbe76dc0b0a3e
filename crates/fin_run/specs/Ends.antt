-- How a run within a budget ends, against what the meaning leaves.
use Rattle.std.specs.Prelude.{◌≡◌, ℕ, ◌<◌, ◌≤◌, true, List, ℤ, Ok, Err, Result}
use Rattle.fin_tensor.specs.declared.storage.Storage.{Storage}
use Rattle.fin_ir.specs.declared.layout.RunError.{RunError}
use Rattle.fin_ir.specs.declared.layout.RunError.TheVariants.{Spent, Memory}
use Rattle.fin_ir.specs.declared.expression.IExpr.{IExpr}
use Rattle.fin_base.specs.Words.{apply}
use Rattle.fin_tensor.specs.Building.{Building, updated}
use Rattle.fin_ir.specs.Machine.{Machine}
use Rattle.fin_ir.specs.Meaning.{Action}
use Rattle.fin_ir.specs.Value.{value_in}
use Rattle.fin_run.specs.declared.state.State.{State}
use Rattle.fin_run.specs.declared.statements.Change.{Change}
use Rattle.fin_run.specs.States.{machine}

-- `leaves` is what the meaning leaves, `now` what the run left
abbrev pub Ends : ℕ → Machine → Machine → Result (Unit {0}) RunError → Type 0
Ends budget leaves now (Ok done) = (now ≡ leaves) × (leaves.charges ≤ budget)
Ends budget leaves now (Err Spent) = (budget < leaves.charges) × (now.turns ≤ leaves.turns)
Ends budget leaves now (Err (Memory e)) = now.turns ≤ leaves.turns

-- the action is regular at this machine
abbrev pub IsRegular : Action → Machine → Type 0
IsRegular f m = (f m).regular ≡ true

-- it is, whatever turns were counted before
abbrev pub IsReady : Action → List Storage → State → Type 0
IsReady f inputs s = (turns : ℕ) × IsRegular f (machine inputs s turns)

-- a step that counts no turn and can't stop
abbrev pub Did : Action → List Storage → State → State → Type 0
Did f inputs s0 s1 = (turns : ℕ) → machine inputs s1 turns ≡ f (machine inputs s0 turns)

-- a step that counts no turn
abbrev pub Does : ℕ → Action → List Storage → State → State → Result (Unit {0}) RunError → Type 0
Does budget f inputs s0 s1 (Ok done) = Did f inputs s0 s1 × (s1.work ≤ budget)
Does budget f inputs s0 s1 (Err Spent) = (turns : ℕ) → budget < (f (machine inputs s0 turns)).charges
Does budget f inputs s0 s1 (Err (Memory e)) = Unit {0}

-- the value of an expression in a state
abbrev pub evaluated : List Storage → State → IExpr → ℤ
evaluated inputs s e = value_in (machine inputs s 0) e

-- a building tensor with a value joined to one of its values
abbrev pub joined : Change → List ℕ → Building → Building
joined c at b = updated b at (λ old. apply c.by old c.value)
