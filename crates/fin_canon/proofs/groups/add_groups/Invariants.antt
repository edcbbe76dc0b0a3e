use Rattle.std.proofs.Common.{◌-◌}
use Rattle.fin_canon.proofs.Grouping.{GroupedSoFar}
use Rattle.fin_canon.proofs.groups.add_groups.Given as goal

abbrev pub invariant-loop-at : goal.invariant-loop-at
invariant-loop-at l = GroupedSoFar l.entries l.format.fill l.depth l.slice.from l.slice.to l.at l.initial.idx l.idx l.initial.next l.next

abbrev pub decreases-loop-at : goal.decreases-loop-at
decreases-loop-at l = l.slice.to - l.at
