use Rattle.std.proofs.Common.{◌-◌}
use Rattle.fin_canon.proofs.Tallying.{RunsCounted}
use Rattle.fin_canon.proofs.counts.count_runs.Given as goal

abbrev pub invariant-loop-start : goal.invariant-loop-start
invariant-loop-start l = RunsCounted l.entries l.format.fill l.depth l.extent l.slice.from l.slice.to l.start l.total

abbrev pub decreases-loop-start : goal.decreases-loop-start
decreases-loop-start l = l.extent - l.start.at
