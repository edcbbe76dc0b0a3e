use Rattle.fin_style_point.proofs.Both.{fixed_is_at_once as law}
use Rattle.fin_style_point.proofs.laws.fixed_is_at_once.Goals as goal

pub returns : goal.returns
returns c = law
