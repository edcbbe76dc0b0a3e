use Rattle.fin_drive.proofs.Made.{made_nests_are_loops as law}
use Rattle.fin_drive.proofs.laws.made_nests_are_loops.Goals as goal

pub returns : goal.returns
returns c = law c.masks_compare.ensures
