-- The lines before this place have been looked at.
use Rattle.std.proofs.Common.{length, ◌≤◌, ◌-◌, ◌+◌}
use Rattle.fin_engine.specs.Cut.{IsReached}
use Rattle.fin_engine.proofs.cut.cut.Given as goal

abbrev pub invariant-lines : goal.invariant-lines
invariant-lines l = record {
  within : l.at ≤ length l.text;
  small : l.last ≤ l.at + 1;
  reached : IsReached l.text l.at l.last;
}

abbrev pub decreases-lines : goal.decreases-lines
decreases-lines l = length l.text - l.at
