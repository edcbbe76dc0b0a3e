use Rattle.fin_looplet.proofs.Kept.{cut_keeps as law}
use Rattle.fin_looplet.proofs.laws.cut_keeps.Goals as goal

pub returns : goal.returns
returns c = law
