use Rattle.fin_descend.proofs.Sparing.{spares_less as law}
use Rattle.fin_descend.proofs.laws.sparing_is_monotone.Goals as goal

pub returns : goal.returns
returns c = law
