use Rattle.fin_simp.proofs.Lasting.{known_lasts}
use Rattle.fin_simp.proofs.laws.known_lasts.Goals as goal

pub returns : goal.returns
returns c = known_lasts
