use Rattle.fin_loops.proofs.Entering.{loops_mean as law}
use Rattle.fin_loops.proofs.laws.loops_mean.Goals as goal

pub returns : goal.returns
returns c = law c.masks_compare.ensures
