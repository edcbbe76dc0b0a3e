use Rattle.fin_work.proofs.Masks.{masks_tell as law}
use Rattle.fin_work.proofs.laws.masks_tell.Goals as goal

pub returns : goal.returns
returns c = law
