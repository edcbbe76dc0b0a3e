use Rattle.fin_style_point.proofs.Both.{shifts_split as law}
use Rattle.fin_style_point.proofs.laws.shifts_split.Goals as goal

pub returns : goal.returns
returns c = law
