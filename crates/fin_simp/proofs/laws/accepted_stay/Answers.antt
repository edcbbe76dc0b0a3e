use Rattle.fin_simp.proofs.Singles.{accepted_stay}
use Rattle.fin_simp.proofs.laws.accepted_stay.Goals as goal

pub returns : goal.returns
returns c = accepted_stay
