use Rattle.fin_loops.proofs.Sourced.{entries_enter as law}
use Rattle.fin_loops.proofs.laws.entries_enter.Goals as goal

pub returns : goal.returns
returns c = law
