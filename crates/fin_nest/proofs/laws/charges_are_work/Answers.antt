use Rattle.fin_nest.proofs.Both.{charges_are_work as law}
use Rattle.fin_nest.proofs.laws.charges_are_work.Goals as goal

pub returns : goal.returns
returns c = law
