use Rattle.fin_style_point.proofs.Both.{spikes_split as law}
use Rattle.fin_style_point.proofs.laws.spikes_split.Goals as goal

pub returns : goal.returns
returns c = law
