use Rattle.std.proofs.Common.{◌-◌}
use Rattle.fin_canon.specs.Runs.{IsStep}
use Rattle.fin_canon.proofs.runs.run_from.Given as goal

abbrev pub invariant-loop-run : goal.invariant-loop-run
invariant-loop-run l = IsStep l.entries l.format.fill l.depth l.extent l.slice.from l.slice.to l.start l.run

abbrev pub decreases-loop-run : goal.decreases-loop-run
decreases-loop-run l = l.extent - l.run.end.at
