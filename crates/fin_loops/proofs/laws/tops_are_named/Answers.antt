use Rattle.fin_loops.proofs.NamingTops.{tops_are_named as law}
use Rattle.fin_loops.proofs.laws.tops_are_named.Goals as goal

pub returns : goal.returns
returns c = law
