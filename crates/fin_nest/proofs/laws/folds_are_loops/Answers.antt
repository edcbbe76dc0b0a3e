use Rattle.fin_nest.proofs.Both.{folds_are_loops as law}
use Rattle.fin_nest.proofs.laws.folds_are_loops.Goals as goal

pub returns : goal.returns
returns c = law
