use Rattle.fin_looplet.proofs.Kept.{reach_is_near as law}
use Rattle.fin_looplet.proofs.laws.reach_is_near.Goals as goal

pub returns : goal.returns
returns c = law
