use Rattle.std.proofs.Common.{length}
use Rattle.fin_perform.proofs.single.+dense_front.Given as goal

abbrev pub decreases-dense_front : goal.decreases-dense_front
decreases-dense_front l = length l.levels.now
