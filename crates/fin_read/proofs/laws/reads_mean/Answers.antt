use Rattle.fin_read.proofs.Reading.{reads_mean as law}
use Rattle.fin_read.proofs.laws.reads_mean.Goals as goal

pub returns : goal.returns
returns c = law
