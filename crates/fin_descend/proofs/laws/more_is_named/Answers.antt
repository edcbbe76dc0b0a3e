use Rattle.fin_descend.proofs.NamingFills.{more_is_named as law}
use Rattle.fin_descend.proofs.laws.more_is_named.Goals as goal

pub returns : goal.returns
returns c = law
