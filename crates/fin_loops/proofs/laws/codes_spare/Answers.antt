use Rattle.fin_loops.proofs.Sparing.{codes_spare as law}
use Rattle.fin_loops.proofs.laws.codes_spare.Goals as goal

pub returns : goal.returns
returns c = law
