use Rattle.fin_loops.proofs.FactsPoints.{points_are_told as law}
use Rattle.fin_loops.proofs.laws.points_are_told.Goals as goal

pub returns : goal.returns
returns c = law
