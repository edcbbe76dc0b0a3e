use Rattle.std.proofs.Common.{◌-◌, ◌<◌, ◌≤◌, ℕ}
use Rattle.std.specs.Prelude.{slice_index}
use Rattle.fin_tensor.proofs.places.search_in.Given as goal

abbrev pub invariant-loop-low : goal.invariant-loop-low
invariant-loop-low l = record {
  low : l.from ≤ l.low;
  order : l.low ≤ l.high;
  high : l.high ≤ l.to;
  before : (k : ℕ) → l.from ≤ k → k < l.low → slice_index l.numbers k < l.key;
  here : l.high < l.to → l.key ≤ slice_index l.numbers l.high;
}

abbrev pub decreases-loop-low : goal.decreases-loop-low
decreases-loop-low l = l.high - l.low
