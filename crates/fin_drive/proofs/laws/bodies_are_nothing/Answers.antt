use Rattle.fin_drive.proofs.Bodies.{bodies_are_nothing as law}
use Rattle.fin_drive.proofs.laws.bodies_are_nothing.Goals as goal

pub returns : goal.returns
returns c = law
