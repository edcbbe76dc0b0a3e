use Rattle.std.proofs.Common.{◌≡◌, ◌-◌, ◌<◌, ◌≤◌, ℕ}
use Rattle.fin_canon.specs.Entries.{word_of}
use Rattle.fin_canon.proofs.entry.first_kept.Given as goal

abbrev pub invariant-loop-at : goal.invariant-loop-at
invariant-loop-at l = record {
  low : l.from ≤ l.at;
  high : l.at ≤ l.to;
  skipped : (k : ℕ) → l.from ≤ k → k < l.at → word_of l.entries k ≡ l.format.fill;
}

abbrev pub decreases-loop-at : goal.decreases-loop-at
decreases-loop-at l = l.to - l.at
