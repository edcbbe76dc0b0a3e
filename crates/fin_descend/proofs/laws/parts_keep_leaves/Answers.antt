use Rattle.fin_descend.proofs.Lasting.{parts_keep_leaves as law}
use Rattle.fin_descend.proofs.laws.parts_keep_leaves.Goals as goal

pub returns : goal.returns
returns g c = law g.P.LeafProperty.holds g.Q.LeafProperty.holds
