use Rattle.fin_known.proofs.Heads.{heads_tell_nothing as law}
use Rattle.fin_known.proofs.laws.heads_tell_nothing.Goals as goal

pub returns : goal.returns
returns c = law
