use Rattle.fin_loops.proofs.Empty.{empty_loops_mean as law}
use Rattle.fin_loops.proofs.laws.empty_loops_mean.Goals as goal

pub returns : goal.returns
returns c = law
