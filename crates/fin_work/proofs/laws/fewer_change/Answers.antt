use Rattle.fin_work.proofs.Changing.{fewer_change as law}
use Rattle.fin_work.proofs.laws.fewer_change.Goals as goal

pub returns : goal.returns
returns c = law
