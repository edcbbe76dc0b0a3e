use Rattle.std.proofs.Common.{◌≡◌, ◌-◌, ◌<◌, ◌≤◌, ℕ}
use Rattle.fin_canon.specs.Ranges.{head_of}
use Rattle.fin_canon.proofs.cuts.cut_end.Given as goal

abbrev pub invariant-loop-end : goal.invariant-loop-end
invariant-loop-end l = record {
  low : l.from ≤ l.end;
  high : l.end ≤ l.to;
  same : (k : ℕ) → l.from ≤ k → k < l.end → head_of l.entries l.depth k ≡ l.i;
}

abbrev pub decreases-loop-end : goal.decreases-loop-end
decreases-loop-end l = l.to - l.end
