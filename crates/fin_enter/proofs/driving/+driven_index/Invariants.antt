-- How far the indices are gone along.
use Rattle.std.proofs.Common.{length}
use Rattle.fin_enter.proofs.driving.+driven_index.Given as goal

abbrev pub decreases-driven_index : goal.decreases-driven_index
decreases-driven_index l = length l.at.now
