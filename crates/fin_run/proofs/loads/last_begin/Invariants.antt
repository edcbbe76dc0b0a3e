use Rattle.std.proofs.Common.{ℕ, ◌<◌, ◌≤◌, ◌+◌, ◌-◌, length}
use Rattle.std.specs.Prelude.{slice_index}
use Rattle.fin_run.proofs.loads.last_begin.Given as goal

abbrev pub invariant-loop-high : goal.invariant-loop-high
invariant-loop-high l = record {
  order : l.low < l.high;
  within : l.high < length l.ptr;
  begins : slice_index l.ptr l.low ≤ l.from;
  last : (p : ℕ) → l.high ≤ p → p + 1 < length l.ptr → l.from < slice_index l.ptr p;
}

abbrev pub decreases-loop-high : goal.decreases-loop-high
decreases-loop-high l = l.high - l.low
