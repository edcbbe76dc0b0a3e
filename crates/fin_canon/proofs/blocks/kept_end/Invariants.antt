use Rattle.std.proofs.Common.{◌≡◌, ◌<◌, ◌≤◌, ℕ}
use Rattle.fin_canon.specs.Entries.{word_of}
use Rattle.fin_canon.proofs.blocks.kept_end.Given as goal

abbrev pub invariant-loop-end : goal.invariant-loop-end
invariant-loop-end l = record {
  low : l.from < l.end;
  high : l.end ≤ l.to;
  skipped : (k : ℕ) → l.end ≤ k → k < l.to → word_of l.entries k ≡ l.format.fill;
}

abbrev pub decreases-loop-end : goal.decreases-loop-end
decreases-loop-end l = l.end
