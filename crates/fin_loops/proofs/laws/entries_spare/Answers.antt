use Rattle.fin_loops.proofs.SparingEntries.{entries_spare as law}
use Rattle.fin_loops.proofs.laws.entries_spare.Goals as goal

pub returns : goal.returns
returns c = law
