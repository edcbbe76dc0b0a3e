use Rattle.fin_simp.proofs.GoingOn.{loops_are_enterable}
use Rattle.fin_simp.proofs.laws.loops_are_enterable.Goals as goal

pub returns : goal.returns
returns c = loops_are_enterable
