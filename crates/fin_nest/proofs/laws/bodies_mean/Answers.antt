use Rattle.fin_nest.proofs.Both.{bodies_mean as law}
use Rattle.fin_nest.proofs.laws.bodies_mean.Goals as goal

pub returns : goal.returns
returns c = law
