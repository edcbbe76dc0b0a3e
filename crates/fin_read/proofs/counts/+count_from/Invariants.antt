use Rattle.std.proofs.Common.{length}
use Rattle.fin_read.proofs.counts.+count_from.Given as goal

abbrev pub decreases-count_from : goal.decreases-count_from
decreases-count_from l = length l.levels.now
