use Rattle.fin_nest.proofs.Both.{nothing_is_passed_over as law}
use Rattle.fin_nest.proofs.laws.nothing_is_passed_over.Goals as goal

pub returns : goal.returns
returns c = law
