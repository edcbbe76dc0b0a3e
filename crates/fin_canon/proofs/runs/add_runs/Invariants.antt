use Rattle.std.proofs.Common.{◌-◌}
use Rattle.fin_canon.proofs.Running.{RunsSoFar}
use Rattle.fin_canon.proofs.runs.add_runs.Given as goal

abbrev pub invariant-loop-start : goal.invariant-loop-start
invariant-loop-start l = RunsSoFar l.entries l.format.fill l.depth l.extent l.slice.from l.slice.to l.start l.initial.stop l.stop l.initial.next l.next

abbrev pub decreases-loop-start : goal.decreases-loop-start
decreases-loop-start l = l.extent - l.start.at
