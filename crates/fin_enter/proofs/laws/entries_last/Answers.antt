use Rattle.fin_enter.proofs.Lasting.{entries_last as law}
use Rattle.fin_enter.proofs.laws.entries_last.Goals as goal

pub returns : goal.returns
returns c = law c.bounds_mean.ensures c.distances_mean.ensures
