use Rattle.fin_nest.proofs.Both.{cut_statements_stand as law}
use Rattle.fin_nest.proofs.laws.cut_statements_stand.Goals as goal

pub returns : goal.returns
returns c = law
