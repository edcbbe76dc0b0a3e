use Rattle.fin_simp.proofs.Comparing.{masks_compare}
use Rattle.fin_simp.proofs.laws.masks_compare.Goals as goal

pub returns : goal.returns
returns c = masks_compare
