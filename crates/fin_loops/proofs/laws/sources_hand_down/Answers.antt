use Rattle.fin_loops.proofs.Sources.{sources_hand_down as law}
use Rattle.fin_loops.proofs.laws.sources_hand_down.Goals as goal

pub returns : goal.returns
returns c = law
