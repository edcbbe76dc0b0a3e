use Rattle.std.proofs.Common.{length}
use Rattle.fin_read.proofs.reads.+in_box.Given as goal

abbrev pub decreases-in_box : goal.decreases-in_box
decreases-in_box l = length l.shape.now
