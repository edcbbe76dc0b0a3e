use Rattle.fin_perform.proofs.Leaves.{leaves_perform as law}
use Rattle.fin_perform.proofs.laws.leaves_perform.Goals as goal

pub returns : goal.returns
returns c = law
