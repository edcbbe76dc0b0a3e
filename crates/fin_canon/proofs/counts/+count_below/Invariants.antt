use Rattle.std.proofs.Common.{◌+◌, ◌-◌, drop, slice_index}
use Rattle.fin_canon.proofs.Tallying.{CountedSoFar}
use Rattle.fin_canon.proofs.counts.+count_below.Given as goal

abbrev pub decreases-count_below : goal.decreases-count_below
decreases-count_below l = l.k

abbrev pub invariant-loop-at : goal.invariant-loop-at
invariant-loop-at l = CountedSoFar l.entries (drop (l.depth + 1) l.format.levels) l.format.fill (slice_index l.shape l.depth) (drop (l.depth + 1) l.shape) l.depth l.slice l.first l.last l.at (l.k - 1) l.groups l.total

abbrev pub decreases-loop-at : goal.decreases-loop-at
decreases-loop-at l = l.slice.to - l.at
