use Rattle.fin_loops.proofs.Parallel.{parallel_loops_mean as law}
use Rattle.fin_loops.proofs.laws.parallel_loops_mean.Goals as goal

pub returns : goal.returns
returns c = law c.masks_compare.ensures
