use Rattle.fin_simp.proofs.Gaps.{gaps_have_fill}
use Rattle.fin_simp.proofs.laws.gaps_have_fill.Goals as goal

pub returns : goal.returns
returns c = gaps_have_fill
