use Rattle.fin_canon.proofs.Cutting.{CutSoFar}
use Rattle.fin_canon.proofs.cuts.add_cuts.Given as goal

abbrev pub invariant-loop-i : goal.invariant-loop-i
invariant-loop-i l = CutSoFar l.entries l.format.fill l.depth l.slice.from l.slice.to l.low l.at l.i l.initial.next l.next
