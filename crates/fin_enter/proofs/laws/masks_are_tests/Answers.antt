use Rattle.fin_enter.proofs.Masked.{masks_are_tests as law}
use Rattle.fin_enter.proofs.laws.masks_are_tests.Goals as goal

pub returns : goal.returns
returns c = law
