use Rattle.std.proofs.Common.{◌≢◌, ℕ, ◌+◌, ◌<◌, length}
use Rattle.std.specs.Prelude.{slice_index_or}
use Rattle.fin_tensor.specs.declared.format.Level.TheVariants as level
use Rattle.fin_tensor.proofs.placement.runs_stand_last.Given as goal

abbrev pub invariant-loop-k : goal.invariant-loop-k
invariant-loop-k l = (j : ℕ) → j < l.k → j + 1 < length l.levels → slice_index_or l.levels j level.Dense ≢ level.Runs
