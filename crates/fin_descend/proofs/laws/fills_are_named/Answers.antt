use Rattle.fin_descend.proofs.NamingFills.{fills_are_named as law}
use Rattle.fin_descend.proofs.laws.fills_are_named.Goals as goal

pub returns : goal.returns
returns c = law
