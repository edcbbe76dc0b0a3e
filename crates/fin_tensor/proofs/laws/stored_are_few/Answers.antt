use Rattle.fin_tensor.proofs.Pieces.{stored_are_few as law}
use Rattle.fin_tensor.proofs.laws.stored_are_few.Goals as goal

pub returns : goal.returns
returns c = law
