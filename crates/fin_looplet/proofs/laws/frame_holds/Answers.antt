use Rattle.fin_looplet.proofs.Kept.{frame_holds as law}
use Rattle.fin_looplet.proofs.laws.frame_holds.Goals as goal

pub returns : goal.returns
returns c = law
