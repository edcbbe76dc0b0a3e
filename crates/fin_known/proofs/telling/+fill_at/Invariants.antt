use Rattle.std.proofs.Common.{length}
use Rattle.fin_known.proofs.telling.+fill_at.Given as goal

abbrev pub decreases-fill_at : goal.decreases-fill_at
decreases-fill_at l = length l.drives.now
