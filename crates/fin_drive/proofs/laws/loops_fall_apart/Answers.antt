use Rattle.fin_drive.proofs.Parts.{loops_fall_apart as law}
use Rattle.fin_drive.proofs.laws.loops_fall_apart.Goals as goal

pub returns : goal.returns
returns c = law
