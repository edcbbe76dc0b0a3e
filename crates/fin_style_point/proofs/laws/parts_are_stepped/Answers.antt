use Rattle.fin_style_point.proofs.Kept.{parts_are_stepped as law}
use Rattle.fin_style_point.proofs.laws.parts_are_stepped.Goals as goal

pub returns : goal.returns
returns c = law
