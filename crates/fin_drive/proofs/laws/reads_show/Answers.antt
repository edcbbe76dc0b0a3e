use Rattle.fin_drive.proofs.Shown.{reads_show as law}
use Rattle.fin_drive.proofs.laws.reads_show.Goals as goal

pub returns : goal.returns
returns c = law
