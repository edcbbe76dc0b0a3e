use Rattle.std.proofs.Common.{◌+◌, ◌-◌, ◌*◌, length}
use Rattle.fin_freeze.specs.Thawing.{Holds, AgreeElsewhere, values_before, values_of}
use Rattle.fin_freeze.proofs.Walking.{until}
use Rattle.fin_freeze.proofs.thaws.+walk.Given as goal

abbrev pub decreases-fill_below : goal.decreases-fill_below
decreases-fill_below l = 2 * (length l.storage.now.parts - length l.at.now) + 1

abbrev pub decreases-fill_place : goal.decreases-fill_place
decreases-fill_place l = 2 * (length l.storage.now.parts - length l.at.now)

abbrev pub invariant-fill_below-loop-place : goal.invariant-fill_below-loop-place
invariant-fill_below-loop-place l = record {
  filled : Holds l.storage l.at (values_before l.place l.storage (length l.at) l.pos) l.function;
  elsewhere : AgreeElsewhere l.at l.fn.function l.function;
}

abbrev pub invariant-fill_place-loop-i : goal.invariant-fill_place-loop-i
invariant-fill_place-loop-i l = record {
  filled : Holds l.storage l.at (values_of (until l.place l.i) l.storage (length l.at) l.pos) l.function;
  elsewhere : AgreeElsewhere l.at l.fn.function l.function;
}
