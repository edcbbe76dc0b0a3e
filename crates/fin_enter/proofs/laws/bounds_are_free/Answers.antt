use Rattle.fin_enter.proofs.Bounds.{bounds_are_free as law}
use Rattle.fin_enter.proofs.laws.bounds_are_free.Goals as goal

pub returns : goal.returns
returns c = law
