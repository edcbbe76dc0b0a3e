use Rattle.fin_style_step.proofs.Both.{jumpers_split as law}
use Rattle.fin_style_step.proofs.laws.jumpers_split.Goals as goal

pub returns : goal.returns
returns c = law
