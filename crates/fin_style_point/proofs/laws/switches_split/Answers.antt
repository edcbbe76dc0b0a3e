use Rattle.fin_style_point.proofs.Both.{switches_split as law}
use Rattle.fin_style_point.proofs.laws.switches_split.Goals as goal

pub returns : goal.returns
returns c = law
