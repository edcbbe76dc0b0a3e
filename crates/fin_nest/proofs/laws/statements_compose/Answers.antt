use Rattle.fin_nest.proofs.Both.{statements_compose as law}
use Rattle.fin_nest.proofs.laws.statements_compose.Goals as goal

pub returns : goal.returns
returns c = law
