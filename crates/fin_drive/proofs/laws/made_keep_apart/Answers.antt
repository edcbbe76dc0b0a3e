use Rattle.fin_drive.proofs.Separation.{made_keep_apart as law}
use Rattle.fin_drive.proofs.laws.made_keep_apart.Goals as goal

pub returns : goal.returns
returns c = law c.masks_compare.ensures
