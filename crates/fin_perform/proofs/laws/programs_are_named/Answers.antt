use Rattle.fin_perform.proofs.NamingPrograms.{programs_are_named as law}
use Rattle.fin_perform.proofs.laws.programs_are_named.Goals as goal

pub returns : goal.returns
returns c = law
