use Rattle.fin_simp.proofs.Staging.{stages_the_same}
use Rattle.fin_simp.proofs.laws.simplified_stages_the_same.Goals as goal

pub returns : goal.returns
returns c = stages_the_same
