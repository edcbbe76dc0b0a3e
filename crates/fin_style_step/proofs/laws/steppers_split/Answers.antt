use Rattle.fin_style_step.proofs.Both.{steppers_split as law}
use Rattle.fin_style_step.proofs.laws.steppers_split.Goals as goal

pub returns : goal.returns
returns c = law
