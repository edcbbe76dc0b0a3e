use Rattle.fin_descend.proofs.Loops.{parts_are_of_loop as law}
use Rattle.fin_descend.proofs.laws.parts_are_of_loop.Goals as goal

pub returns : goal.returns
returns c = law
