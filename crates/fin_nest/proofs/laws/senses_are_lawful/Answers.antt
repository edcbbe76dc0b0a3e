use Rattle.fin_nest.proofs.Both.{senses_are_lawful as law}
use Rattle.fin_nest.proofs.laws.senses_are_lawful.Goals as goal

pub returns : goal.returns
returns c = law
