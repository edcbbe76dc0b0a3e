use Rattle.fin_enter.proofs.Charges.{lengths_mean as law}
use Rattle.fin_enter.proofs.laws.lengths_mean.Goals as goal

pub returns : goal.returns
returns c = law
