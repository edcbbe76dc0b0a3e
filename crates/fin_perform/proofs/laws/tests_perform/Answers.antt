use Rattle.fin_perform.proofs.Bodies.{tests_perform as law}
use Rattle.fin_perform.proofs.laws.tests_perform.Goals as goal

pub returns : goal.returns
returns c = law
