use Rattle.fin_simp.proofs.Origins.{reads_remain}
use Rattle.fin_simp.proofs.laws.reads_remain.Goals as goal

pub returns : goal.returns
returns c = reads_remain
