use Rattle.fin_loops.proofs.AtOnce.{once_means as law}
use Rattle.fin_loops.proofs.laws.once_means.Goals as goal

pub returns : goal.returns
returns c = law
