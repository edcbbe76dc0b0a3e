use Rattle.fin_work.proofs.Gaps.{gaps_read_fill as law}
use Rattle.fin_work.proofs.laws.gaps_read_fill.Goals as goal

pub returns : goal.returns
returns c = law
