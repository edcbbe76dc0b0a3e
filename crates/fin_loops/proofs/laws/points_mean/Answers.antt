use Rattle.fin_loops.proofs.Points.{points_mean as law}
use Rattle.fin_loops.proofs.laws.points_mean.Goals as goal

pub returns : goal.returns
returns c = law
