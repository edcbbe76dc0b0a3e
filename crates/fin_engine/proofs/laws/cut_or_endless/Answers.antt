use Rattle.fin_engine.proofs.Totality.{cut_or_endless as law}
use Rattle.fin_engine.proofs.laws.cut_or_endless.Goals as goal

pub returns : goal.returns
returns c = law
