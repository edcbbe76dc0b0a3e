use Rattle.fin_drive.proofs.Made.{made_nests_run as law}
use Rattle.fin_drive.proofs.laws.made_nests_run.Goals as goal

pub returns : goal.returns
returns c = law c.masks_compare.ensures
