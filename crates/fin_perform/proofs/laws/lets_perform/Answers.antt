use Rattle.fin_perform.proofs.Lets.{lets_perform as law}
use Rattle.fin_perform.proofs.laws.lets_perform.Goals as goal

pub returns : goal.returns
returns c = law
