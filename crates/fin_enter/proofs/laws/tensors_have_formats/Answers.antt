use Rattle.fin_enter.proofs.Stores.{tensors_have_formats as law}
use Rattle.fin_enter.proofs.laws.tensors_have_formats.Goals as goal

pub returns : goal.returns
returns c = law
