use Rattle.fin_perform.proofs.Bodies.{bodies_perform as law}
use Rattle.fin_perform.proofs.laws.bodies_perform.Goals as goal

pub returns : goal.returns
returns c = law
