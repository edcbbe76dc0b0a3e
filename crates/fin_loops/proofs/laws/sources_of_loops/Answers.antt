use Rattle.fin_loops.proofs.Sources.{sources_of_loops as law}
use Rattle.fin_loops.proofs.laws.sources_of_loops.Goals as goal

pub returns : goal.returns
returns c = law
