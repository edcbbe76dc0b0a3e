use Rattle.fin_enter.proofs.Masked.{all_bounds_mean as law}
use Rattle.fin_enter.proofs.laws.all_bounds_mean.Goals as goal

pub returns : goal.returns
returns c = law c.bounds_mean.ensures
