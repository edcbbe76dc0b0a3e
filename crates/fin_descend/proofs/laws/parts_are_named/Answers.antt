use Rattle.fin_descend.proofs.NamingFrames.{parts_are_named as law}
use Rattle.fin_descend.proofs.laws.parts_are_named.Goals as goal

pub returns : goal.returns
returns c = law
