use Rattle.fin_enter.proofs.Sites.{stored_reads_are_found as law}
use Rattle.fin_enter.proofs.laws.stored_reads_are_found.Goals as goal

pub returns : goal.returns
returns c = law
