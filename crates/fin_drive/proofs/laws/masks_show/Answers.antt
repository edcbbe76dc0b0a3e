use Rattle.fin_drive.proofs.Shown.{masks_show as law}
use Rattle.fin_drive.proofs.laws.masks_show.Goals as goal

pub returns : goal.returns
returns c = law
