use Rattle.fin_enter.proofs.Charges.{entries_are_paid as law}
use Rattle.fin_enter.proofs.laws.entries_are_paid.Goals as goal

pub returns : goal.returns
returns c = law
