-- The code of an accepted program's plan, over inputs that fit it, does what dense evaluation does, and its charges are the
-- work.
use Rattle.std.specs.Prelude.{◌≡◌, ℕ, ◌<◌, ◌≤◌, ◌^◌, ◌⊎◌, true, false, List, Some, None, slice_get}
use Rattle.fin_tensor.specs.declared.format.Format.{Format}
use Rattle.fin_tensor.specs.declared.storage.Storage.{Storage}
use Rattle.fin_tensor.specs.TensorFunction.{TensorFunction}
use Rattle.fin_tensor.specs.Canon.{undecorated}
use Rattle.fin_ast.specs.declared.header.Header.{Header}
use Rattle.fin_ast.specs.declared.checked.Checked.{Checked}
use Rattle.fin_ast.specs.Accepted.{IsAccepted, FitProgram}
use Rattle.fin_ast.specs.Kinds.{is_output}
use Rattle.fin_ast.specs.Dense.{setting_of, function_of}
use Rattle.fin_ir.specs.declared.layout.Plan.{Plan}
use Rattle.fin_ir.specs.Frozen.{Frozen, canon}
use Rattle.fin_ir.specs.Machine.{Machine, stored, held}
use Rattle.fin_ir.specs.Meaning.{meaning}
use Rattle.fin_ir.specs.Regular.{Regular, InputsFit}
use Rattle.fin_stage.specs.Wordy.{IsWordy}
use Rattle.fin_simp.specs.Work.{work_of}
use Rattle.fin_perform.specs.Layouts.{begun_with}
use Rattle.fin_lower.specs.Plans.{IsPlan}

-- what the run of a plan begins with
abbrev pub begun : Checked → List Storage → Plan → Machine
begun c inputs p = begun_with c p.layout.locals inputs

-- where it ends
abbrev pub ended : Checked → List Storage → Plan → Machine
ended c inputs p = meaning p.layout p.code (begun c inputs p)

-- the canonical storage of a function
abbrev pub canon_of : Format → TensorFunction → Frozen
canon_of format f = canon (record { format = format; function = f; last = None })

-- it isn't cut: its charges are the work, and each output is the canonical storage of its function
pub record IsWhole (c : Checked) (inputs : List Storage) (m : Machine) : Type 0 where
  pub whole : m.cut ≡ false
  pub charges : m.charges ≡ work_of c inputs
  pub outputs : (tensor : ℕ) (h : Header) → slice_get c.program.headers tensor ≡ Some h → is_output h.kind ≡ true
      → held m.tensors tensor ≡ stored (canon_of (undecorated h.format) (function_of c inputs tensor))

-- it is cut: its charges are over every budget, and no more than the work
pub record IsCut (c : Checked) (inputs : List Storage) (m : Machine) : Type 0 where
  pub cut : m.cut ≡ true
  pub over : 2 ^ 40 < m.charges
  pub most : m.charges ≤ work_of c inputs

pub record IsLowered (c : Checked) (inputs : List Storage) (p : Plan) : Type 0 where
  pub fit : InputsFit p.layout inputs
  pub regular : Regular p.layout p.code (begun c inputs p)
  pub ends : IsWhole c inputs (ended c inputs p) ⊎ IsCut c inputs (ended c inputs p)

-- where the inputs and the fills are words
abbrev pub AcceptedIsLowered : Type 0
AcceptedIsLowered = (c : Checked) (inputs : List Storage) (p : Plan) → IsPlan c p
    → IsAccepted c → FitProgram c inputs → IsWordy (setting_of c inputs) → IsLowered c inputs p
