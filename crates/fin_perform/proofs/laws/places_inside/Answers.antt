use Rattle.fin_perform.proofs.Standing.{places_inside as law}
use Rattle.fin_perform.proofs.laws.places_inside.Goals as goal

pub returns : goal.returns
returns c = law
