use Rattle.fin_read.proofs.Counting.{counts_mean as law}
use Rattle.fin_read.proofs.laws.counts_mean.Goals as goal

pub returns : goal.returns
returns c = law
