use Rattle.fin_perform.proofs.Leaves.{nothing_performs as law}
use Rattle.fin_perform.proofs.laws.nothing_performs.Goals as goal

pub returns : goal.returns
returns c = law
