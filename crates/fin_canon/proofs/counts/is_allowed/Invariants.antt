use Rattle.std.proofs.Common.{◌<◌, ◌≤◌, ◌^◌, ℕ}
use Rattle.fin_tensor.specs.TensorFunction.{value_at}
use Rattle.fin_canon.specs.Counts.{count}
use Rattle.fin_canon.specs.Entries.{named}
use Rattle.fin_canon.proofs.counts.is_allowed.Given as goal

abbrev pub invariant-loop-k : goal.invariant-loop-k
invariant-loop-k l = (j : ℕ) → j < l.k → count l.format.levels l.format.fill l.shape j (value_at (named l.shape l.format.fill l.entries)) ≤ 2 ^ 40
