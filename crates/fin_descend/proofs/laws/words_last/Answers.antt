use Rattle.fin_descend.proofs.Lasting.{words_last as law}
use Rattle.fin_descend.proofs.laws.words_last.Goals as goal

pub returns : goal.returns
returns c = law
