use Rattle.fin_loops.proofs.Fixed.{fixed_means as law}
use Rattle.fin_loops.proofs.laws.fixed_means.Goals as goal

pub returns : goal.returns
returns c = law
