use Rattle.fin_perform.proofs.Naming.{codes_are_named as law}
use Rattle.fin_perform.proofs.laws.codes_are_named.Goals as goal

pub returns : goal.returns
returns c = law
