use Rattle.fin_descend.proofs.Sparing.{fills_spare as law}
use Rattle.fin_descend.proofs.laws.fills_spare.Goals as goal

pub returns : goal.returns
returns c = law
