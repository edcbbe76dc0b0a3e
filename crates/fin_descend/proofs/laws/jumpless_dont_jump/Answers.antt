use Rattle.fin_descend.proofs.Loops.{jumpless_dont_jump as law}
use Rattle.fin_descend.proofs.laws.jumpless_dont_jump.Goals as goal

pub returns : goal.returns
returns c = law
