use Rattle.fin_drive.proofs.Bodies.{bodies_go_on as law}
use Rattle.fin_drive.proofs.laws.bodies_go_on.Goals as goal

pub returns : goal.returns
returns c = law
