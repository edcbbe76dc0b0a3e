use Rattle.fin_loops.proofs.Keeping.{nests_are_separate as law}
use Rattle.fin_loops.proofs.laws.nests_are_separate.Goals as goal

pub returns : goal.returns
returns c = law
