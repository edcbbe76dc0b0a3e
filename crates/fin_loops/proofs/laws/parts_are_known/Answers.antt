use Rattle.fin_loops.proofs.Facts.{parts_are_known as law}
use Rattle.fin_loops.proofs.laws.parts_are_known.Goals as goal

pub returns : goal.returns
returns c = law
