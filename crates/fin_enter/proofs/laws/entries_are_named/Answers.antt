use Rattle.fin_enter.proofs.Naming.{entries_are_named as law}
use Rattle.fin_enter.proofs.laws.entries_are_named.Goals as goal

pub returns : goal.returns
returns c = law
