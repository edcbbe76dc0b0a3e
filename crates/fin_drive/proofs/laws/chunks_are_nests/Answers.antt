use Rattle.fin_drive.proofs.Parts.{chunks_are_nests as law}
use Rattle.fin_drive.proofs.laws.chunks_are_nests.Goals as goal

pub returns : goal.returns
returns c = law
