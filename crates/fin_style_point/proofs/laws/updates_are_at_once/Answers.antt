use Rattle.fin_style_point.proofs.Updates.{updates_are_at_once as law}
use Rattle.fin_style_point.proofs.laws.updates_are_at_once.Goals as goal

pub returns : goal.returns
returns c = law
