use Rattle.fin_loops.proofs.Facts.{nothing_is_told as law}
use Rattle.fin_loops.proofs.laws.nothing_is_told.Goals as goal

pub returns : goal.returns
returns c = law
