use Rattle.fin_loops.proofs.TopsNamed.{tops_are_separate as law}
use Rattle.fin_loops.proofs.laws.tops_are_separate.Goals as goal

pub returns : goal.returns
returns c = law
