use Rattle.fin_enter.proofs.Stores.{tensors_are_stored as law}
use Rattle.fin_enter.proofs.laws.tensors_are_stored.Goals as goal

pub returns : goal.returns
returns c = law
