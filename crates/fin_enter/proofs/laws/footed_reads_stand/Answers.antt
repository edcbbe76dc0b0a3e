use Rattle.fin_enter.proofs.Sites.{footed_reads_stand as law}
use Rattle.fin_enter.proofs.laws.footed_reads_stand.Goals as goal

pub returns : goal.returns
returns c = law c.distances_mean.ensures
