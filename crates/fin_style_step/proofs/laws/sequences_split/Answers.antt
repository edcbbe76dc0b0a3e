use Rattle.fin_style_step.proofs.Both.{sequences_split as law}
use Rattle.fin_style_step.proofs.laws.sequences_split.Goals as goal

pub returns : goal.returns
returns c = law
