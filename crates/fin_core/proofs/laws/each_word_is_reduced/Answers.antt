use Rattle.fin_core.proofs.Order.{acts_reduced as law}
use Rattle.fin_core.proofs.laws.each_word_is_reduced.Goals as goal

pub returns : goal.returns
returns c = law
