use Rattle.fin_drive.proofs.Offsets.{distances_mean as law}
use Rattle.fin_drive.proofs.laws.distances_mean.Goals as goal

pub returns : goal.returns
returns c = law
