use Rattle.fin_dims.proofs.Totality.{inferred_or_breach as law}
use Rattle.fin_dims.proofs.laws.inferred_or_breach.Goals as goal

pub returns : goal.returns
returns c = law
