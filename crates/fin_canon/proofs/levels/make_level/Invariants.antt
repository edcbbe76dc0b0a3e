use Rattle.fin_canon.proofs.Making.{LevelSoFar}
use Rattle.fin_canon.proofs.levels.make_level.Given as goal

abbrev pub invariant-loop-r : goal.invariant-loop-r
invariant-loop-r l = LevelSoFar l.level l.entries l.format.fill l.depth l.extent l.slices l.ptr l.numbers l.next l.r-index
