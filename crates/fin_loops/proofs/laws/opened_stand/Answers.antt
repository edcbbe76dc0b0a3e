use Rattle.fin_loops.proofs.Opening.{opened_stand as law}
use Rattle.fin_loops.proofs.laws.opened_stand.Goals as goal

pub returns : goal.returns
returns c = law
