use Rattle.fin_descend.proofs.Framing.{parts_spare as law}
use Rattle.fin_descend.proofs.laws.steps_spare.Goals as goal

pub returns : goal.returns
returns c = law
