use Rattle.fin_style_step.proofs.Both.{parts_split as law}
use Rattle.fin_style_step.proofs.laws.parts_split.Goals as goal

pub returns : goal.returns
returns c = law
