use Rattle.fin_descend.proofs.Lasting.{numbers_last as law}
use Rattle.fin_descend.proofs.laws.numbers_last.Goals as goal

pub returns : goal.returns
returns c = law
