use Rattle.fin_style_point.proofs.Both.{nothing_is_skipped as law}
use Rattle.fin_style_point.proofs.laws.nothing_is_skipped.Goals as goal

pub returns : goal.returns
returns c = law
