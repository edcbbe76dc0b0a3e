use Rattle.fin_perform.proofs.UnpaidMeanings.{once_compose as law}
use Rattle.fin_perform.proofs.laws.once_compose.Goals as goal

pub returns : goal.returns
returns c = law
