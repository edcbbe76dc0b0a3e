use Rattle.fin_drive.proofs.Loops.{looplets_show as law}
use Rattle.fin_drive.proofs.laws.looplets_show.Goals as goal

pub returns : goal.returns
returns c = law
