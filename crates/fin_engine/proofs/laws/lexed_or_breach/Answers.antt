use Rattle.fin_engine.proofs.Totality.{lexed_or_breach as law}
use Rattle.fin_engine.proofs.laws.lexed_or_breach.Goals as goal

pub returns : goal.returns
returns c = law
