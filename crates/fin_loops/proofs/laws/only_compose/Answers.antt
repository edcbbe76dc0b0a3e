use Rattle.fin_loops.proofs.Only.{only_compose as law}
use Rattle.fin_loops.proofs.laws.only_compose.Goals as goal

pub returns : goal.returns
returns c = law
