use Rattle.fin_enter.proofs.Indices.{indices_are_bound as law}
use Rattle.fin_enter.proofs.laws.indices_are_bound.Goals as goal

pub returns : goal.returns
returns c = law
