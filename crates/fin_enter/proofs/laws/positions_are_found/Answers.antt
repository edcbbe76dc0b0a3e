use Rattle.fin_enter.proofs.Positions.{positions_are_found as law}
use Rattle.fin_enter.proofs.laws.positions_are_found.Goals as goal

pub returns : goal.returns
returns c = law
