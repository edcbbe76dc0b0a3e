use Rattle.fin_tensor.proofs.Pieces.{ends_are_breaks as law}
use Rattle.fin_tensor.proofs.laws.ends_are_breaks.Goals as goal

pub returns : goal.returns
returns c = law
