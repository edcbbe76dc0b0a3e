use Rattle.fin_drive.proofs.Bodies.{bodies_jump as law}
use Rattle.fin_drive.proofs.laws.bodies_jump.Goals as goal

pub returns : goal.returns
returns c = law
