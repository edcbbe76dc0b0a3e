use Rattle.fin_read.proofs.Valuing.{values_mean as law}
use Rattle.fin_read.proofs.laws.values_mean.Goals as goal

pub returns : goal.returns
returns c = law
