use Rattle.fin_loops.proofs.Tops.{tops_keep_out as law}
use Rattle.fin_loops.proofs.laws.tops_keep_out.Goals as goal

pub returns : goal.returns
returns c = law
