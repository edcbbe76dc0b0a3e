use Rattle.fin_read.proofs.Naming.{values_are_named as law}
use Rattle.fin_read.proofs.laws.values_are_named.Goals as goal

pub returns : goal.returns
returns c = law
