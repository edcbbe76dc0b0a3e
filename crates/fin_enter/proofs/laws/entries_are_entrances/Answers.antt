use Rattle.fin_enter.proofs.Entering.{entries_are_entrances as law}
use Rattle.fin_enter.proofs.laws.entries_are_entrances.Goals as goal

pub returns : goal.returns
returns c = law c.bounds_mean.ensures
