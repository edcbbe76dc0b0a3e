use Rattle.fin_style_point.proofs.Both.{loops_split as law}
use Rattle.fin_style_point.proofs.laws.loops_split.Goals as goal

pub returns : goal.returns
returns c = law
