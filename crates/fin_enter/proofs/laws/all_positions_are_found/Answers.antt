use Rattle.fin_enter.proofs.Together.{all_positions_are_found as law}
use Rattle.fin_enter.proofs.laws.all_positions_are_found.Goals as goal

pub returns : goal.returns
returns c = law
