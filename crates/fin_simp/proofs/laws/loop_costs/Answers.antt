use Rattle.fin_simp.proofs.Costing.{loop_costs}
use Rattle.fin_simp.proofs.laws.loop_costs.Goals as goal

pub returns : goal.returns
returns c = loop_costs
