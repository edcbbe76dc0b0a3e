use Rattle.fin_loops.proofs.Told.{nests_told as law}
use Rattle.fin_loops.proofs.laws.nests_told.Goals as goal

pub returns : goal.returns
returns c = law
