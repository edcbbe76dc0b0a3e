-- Runs that differ in their last updates alone: one may have left out updates that change nothing.
use Rattle.std.specs.Prelude.{◌≡◌, ℕ, true, if◌then◌else◌, ℤ, List, length, Some}
use Rattle.fin_base.specs.Words.{apply}
use Rattle.fin_base.specs.declared.reduce.Reduce.{Reduce}
use Rattle.fin_tensor.specs.TensorFunction.{changed}
use Rattle.fin_tensor.specs.Building.{Building, follows}
use Rattle.fin_ast.specs.Value.{coordinates}
use Rattle.fin_ast.specs.Dense.{Setting}
use Rattle.fin_stage.specs.Stages.{Stage, Absent, Built, Frozen, stage_at}
use Rattle.fin_stage.specs.Staged.{Run, unalive, regular, is_made, update_at}

-- the same function in the same format, and no later last update
pub record Trails (b b' : Building) : Type 0 where
  pub format : b'.format ≡ b.format
  pub function : b'.function ≡ b.function
  pub last : (cs : List ℕ) → follows b cs ≡ true → follows b' cs ≡ true

abbrev pub StageTrails : Stage → Stage → Type 0
StageTrails Absent x = x ≡ Absent
StageTrails (Built b) x = (b' : Building) × ((x ≡ Built b') × Trails b b')
StageTrails (Frozen format f) x = x ≡ Frozen format f

pub record RunTrails (r r' : Run) : Type 0 where
  pub long : length r'.stages ≡ length r.stages
  pub stages : (t : ℕ) → StageTrails (stage_at r.stages t) (stage_at r'.stages t)
  pub work : r'.work ≡ r.work
  pub regular : regular r ≡ true → regular r' ≡ true

-- what is done to a run is done to one that trails it
abbrev pub Monotone : (Run → Run) → Type 0
Monotone f = (r r' : Run) → RunTrails r r' → regular (f r) ≡ true → RunTrails (f r) (f r')

-- an update without its work
abbrev pub skipped : Setting → ℕ → List ℤ → Reduce → ℤ → Run → Run
skipped w t at by v r = if is_made w t then update_at t (stage_at r.stages t) at by v r else unalive r

-- the value is changed to what it was
abbrev pub ChangesNothing : ℕ → List ℤ → Reduce → ℤ → Run → Type 0
ChangesNothing t at by v r = (b : Building) → stage_at r.stages t ≡ Built b → (cs : List ℕ) → coordinates b.function.shape at ≡ Some cs → changed b.function cs (λ old. apply by old v) ≡ b.function
