use Rattle.fin_descend.proofs.Lasting.{flat_are_runs as law}
use Rattle.fin_descend.proofs.laws.flat_are_runs.Goals as goal

pub returns : goal.returns
returns g c = law g.P.LeafProperty.holds
