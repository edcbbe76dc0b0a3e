use Rattle.fin_perform.proofs.Meanings.{meanings_compose as law}
use Rattle.fin_perform.proofs.laws.meanings_compose.Goals as goal

pub returns : goal.returns
returns c = law
