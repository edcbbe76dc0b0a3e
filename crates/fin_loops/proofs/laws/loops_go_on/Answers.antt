use Rattle.fin_loops.proofs.Points.{loops_go_on as law}
use Rattle.fin_loops.proofs.laws.loops_go_on.Goals as goal

pub returns : goal.returns
returns c = law
