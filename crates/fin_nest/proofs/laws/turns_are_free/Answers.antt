use Rattle.fin_nest.proofs.Both.{turns_are_free as law}
use Rattle.fin_nest.proofs.laws.turns_are_free.Goals as goal

pub returns : goal.returns
returns c = law
