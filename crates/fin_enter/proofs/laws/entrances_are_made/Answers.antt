use Rattle.fin_enter.proofs.Entrances.{entrances_are_made as law}
use Rattle.fin_enter.proofs.laws.entrances_are_made.Goals as goal

pub returns : goal.returns
returns c = law c.distances_mean.ensures
