use Rattle.fin_simp.proofs.Costing.{pieces_cost}
use Rattle.fin_simp.proofs.laws.pieces_cost.Goals as goal

pub returns : goal.returns
returns c = pieces_cost
