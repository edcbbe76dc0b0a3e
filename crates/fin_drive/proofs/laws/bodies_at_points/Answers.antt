use Rattle.fin_drive.proofs.Bodies.{bodies_at_points as law}
use Rattle.fin_drive.proofs.laws.bodies_at_points.Goals as goal

pub returns : goal.returns
returns c = law
