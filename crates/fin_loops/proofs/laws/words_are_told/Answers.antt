use Rattle.fin_loops.proofs.FactsWords.{words_are_told as law}
use Rattle.fin_loops.proofs.laws.words_are_told.Goals as goal

pub returns : goal.returns
returns c = law
