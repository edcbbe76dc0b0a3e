use Rattle.fin_looplet.proofs.Kept.{moved_keeps as law}
use Rattle.fin_looplet.proofs.laws.moved_keeps.Goals as goal

pub returns : goal.returns
returns c = law
