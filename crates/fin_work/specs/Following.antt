-- Runs with the same functions: the one differs from the other in its work and in its last updates alone, which come no later.
use Rattle.std.specs.Prelude.{◌≡◌, ℕ, true, length}
use Rattle.fin_stage.specs.Stages.{stage_at}
use Rattle.fin_stage.specs.Staged.{Run, regular}
use Rattle.fin_stage.specs.Trailing.{StageTrails}

pub record Follows (r r' : Run) : Type 0 where
  pub long : length r'.stages ≡ length r.stages
  pub stages : (tensor : ℕ) → StageTrails (stage_at r.stages tensor) (stage_at r'.stages tensor)
  pub regular : regular r ≡ true → regular r' ≡ true
