use Rattle.fin_enter.proofs.Bounds.{bounds_mean as law}
use Rattle.fin_enter.proofs.laws.bounds_mean.Goals as goal

pub returns : goal.returns
returns c = law c.values_mean.ensures
