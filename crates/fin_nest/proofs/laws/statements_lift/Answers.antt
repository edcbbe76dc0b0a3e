use Rattle.fin_nest.proofs.Both.{statements_lift as law}
use Rattle.fin_nest.proofs.laws.statements_lift.Goals as goal

pub returns : goal.returns
returns c = law
