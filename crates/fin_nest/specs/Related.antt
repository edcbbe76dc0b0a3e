-- A run by stages and a machine of loop code that does what the run does.
use Rattle.std.specs.Prelude.{◌≡◌, ℕ, ◌<◌, ◌≤◌, ◌^◌, ◌⊎◌, true, false, List, [], length, ℤ}
use Rattle.fin_tensor.specs.Building.{unchanged}
use Rattle.fin_ast.specs.Dense.{Setting}
use Rattle.fin_ir.specs.declared.layout.Layout.{Layout}
use Rattle.fin_ir.specs.Frozen.{is_large, canon}
use Rattle.fin_ir.specs.Machine.{Tensor, building, stored, held, Machine}
use Rattle.fin_stage.specs.Stages.{Stage, Absent, Built, Frozen, stage_at}
use Rattle.fin_stage.specs.Staged.{Run, is_made}
use Rattle.fin_stage.specs.Fitting.{StagesFit}
use Rattle.fin_read.specs.Steps.{Agree}

-- what a run and a machine begin with: the layout of the code, the setting of the run, and the first machine
pub record Start : Type 0 where
  pub layout : Layout
  pub setting : Setting
  pub first : Machine

-- a machine's tensor stands for a stage; what is frozen has a canonical storage
abbrev pub Stand : Stage → Tensor → Type 0
Stand Absent x = Unit {0}
Stand (Built b) x = x ≡ building b
Stand (Frozen format f) x = (is_large (unchanged format f) ≡ false) × (x ≡ stored (canon (unchanged format f)))

-- the machine does what the run does, and the first locals have these words
pub record Live (s : Start) (pins : List ℤ) (r : Run) (m : Machine) : Type 0 where
  pub cut : m.cut ≡ false
  pub regular : m.regular ≡ true
  pub shared : m.shared ≡ []
  pub charges : m.charges ≡ r.work
  pub locals : length m.locals ≡ s.layout.locals
  pub pinned : Agree (length pins) m.locals pins
  pub tensors : length m.tensors ≡ length s.setting.headers
  pub stages : length r.stages ≡ length s.setting.headers
  pub each : (t : ℕ) → Stand (stage_at r.stages t) (held m.tensors t)
  pub given : (t : ℕ) → is_made s.setting t ≡ false → held m.tensors t ≡ held s.first.tensors t
  pub fits : StagesFit s.setting r.stages

-- nothing is done any more
pub record Over (r : Run) (m : Machine) : Type 0 where
  pub cut : m.cut ≡ true
  pub regular : m.regular ≡ true
  pub over : 2 ^ 40 < m.charges
  pub most : m.charges ≤ r.work

abbrev pub Related : Start → List ℤ → Run → Machine → Type 0
Related s pins r m = Live s pins r m ⊎ Over r m
