use Rattle.fin_descend.proofs.Holes.{step_holes as law}
use Rattle.fin_descend.proofs.laws.steps_have_holes.Goals as goal

pub returns : goal.returns
returns c = law
