use Rattle.fin_simp.proofs.Staging.{stages_nothing}
use Rattle.fin_simp.proofs.laws.nothing_stages_nothing.Goals as goal

pub returns : goal.returns
returns c = stages_nothing
