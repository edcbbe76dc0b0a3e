-- Runs of a job's loop code: the outputs in canonical storage, or that the work is over the budget.
use Rattle.std.specs.Prelude.{◌≡◌, ℕ, ◌<◌, ◌≤◌, true, List, ◌++◌, drop, Some, Result, Ok, Err, slice_get}
use Rattle.fin_base.specs.declared.refusal.Fail.{Fail}
use Rattle.fin_base.specs.declared.refusal.Fail.TheVariants.{Refused, Memory}
use Rattle.fin_base.specs.declared.refusal.Rule.TheVariants.{W1}
use Rattle.fin_tensor.specs.Canon.{IsCanon, undecorated}
use Rattle.fin_tensor.specs.declared.outputs.Outputs.{Outputs}
use Rattle.fin_tensor.specs.declared.storage.Storage.{Storage}
use Rattle.fin_ast.specs.declared.header.Header.{Header}
use Rattle.fin_ast.specs.declared.checked.Checked.{Checked}
use Rattle.fin_ast.specs.Dense.{function_of}
use Rattle.fin_ast.specs.Kinds.{is_output}
use Rattle.fin_dense.specs.Plain.{AreStored, outputs_from}
use Rattle.fin_ir.specs.declared.layout.Plan.{Plan}
use Rattle.fin_ir.specs.Machine.{Machine}
use Rattle.fin_ir.specs.Meaning.{meaning}
use Rattle.fin_simp.specs.Work.{work_of}
use Rattle.fin_run.specs.declared.state.Held.{Held}
use Rattle.fin_run.specs.declared.state.State.{State}
use Rattle.fin_run.specs.States.{machine}
use Rattle.fin_run.specs.Storages.{storage_in}
use Rattle.fin_engine.specs.declared.run.Done.{Done}

-- the outputs are the canonical storages of what dense evaluation gives
abbrev pub StoresAll : Checked → List Storage → Outputs → Type 0
StoresAll c inputs outputs = AreStored (function_of c inputs) (outputs_from 0 c.program.headers) outputs.tensors

-- the outputs are those of dense evaluation, and the work is the program's, by the pieces of its loops, and within the budget
pub record IsDone (c : Checked) (inputs : List Storage) (budget : ℕ) (done : Done) : Type 0 where
  pub stored : StoresAll c inputs done.outputs
  pub work : done.work ≡ work_of c inputs
  pub within : work_of c inputs ≤ budget

-- W1, without a line: the work is over the budget
abbrev pub IsSpent : Checked → List Storage → ℕ → Fail → Type 0
IsSpent c inputs budget (Refused r) = (r ≡ record { rule = W1; line = 0 }) × (budget < work_of c inputs)
IsSpent c inputs budget (Memory e) = Unit {0}

-- what a run answers; want of memory is free
abbrev pub RunsOne : Checked → List Storage → ℕ → Result Done Fail → Type 0
RunsOne c inputs budget (Ok done) = IsDone c inputs budget done
RunsOne c inputs budget (Err fail) = IsSpent c inputs budget fail

-- ---- the end of a run

-- a tensor is held as the canonical storage of its function
abbrev pub IsHeld : Checked → List Storage → List Held → ℕ → Header → Type 0
IsHeld c inputs held tensor h = (s : Storage) × (storage_in inputs held tensor ≡ Some s) × IsCanon (undecorated h.format) (function_of c inputs tensor) s

-- so is each output from a number on
abbrev pub HoldsOutputs : Checked → List Storage → List Held → ℕ → Type 0
HoldsOutputs c inputs held n = (tensor : ℕ) (h : Header) → n ≤ tensor → slice_get c.program.headers tensor ≡ Some h → is_output h.kind ≡ true → IsHeld c inputs held tensor h

-- what is stored of the outputs before a number; what is stored of the others goes behind it
abbrev pub IsFront : Checked → List Storage → ℕ → List (ℕ × Storage) → Type 0
IsFront c inputs n front = (os : List (ℕ × Storage)) → AreStored (function_of c inputs) (outputs_from n (drop n c.program.headers)) os
    → AreStored (function_of c inputs) (outputs_from 0 c.program.headers) (front ++ os)

-- ---- the run of a plan from a state

-- what a state is, before any turn
abbrev pub begun : List Storage → State → Machine
begun inputs s = machine inputs s 0

-- what the code of a plan makes of it
abbrev pub left_by : Plan → Machine → Machine
left_by plan m = meaning plan.layout plan.code m
