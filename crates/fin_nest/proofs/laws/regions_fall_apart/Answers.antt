use Rattle.fin_nest.proofs.Both.{regions_fall_apart as law}
use Rattle.fin_nest.proofs.laws.regions_fall_apart.Goals as goal

pub returns : goal.returns
returns c = law
