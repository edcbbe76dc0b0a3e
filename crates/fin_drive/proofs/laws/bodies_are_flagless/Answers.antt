use Rattle.fin_drive.proofs.Bodies.{bodies_are_flagless as law}
use Rattle.fin_drive.proofs.laws.bodies_are_flagless.Goals as goal

pub returns : goal.returns
returns c = law
