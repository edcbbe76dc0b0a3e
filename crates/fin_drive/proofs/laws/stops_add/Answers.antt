use Rattle.fin_drive.proofs.Loops.{stops_add as law}
use Rattle.fin_drive.proofs.laws.stops_add.Goals as goal

pub returns : goal.returns
returns c = law
