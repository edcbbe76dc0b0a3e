use Rattle.fin_loops.proofs.Chunked.{chunks_enter as law}
use Rattle.fin_loops.proofs.laws.chunks_enter.Goals as goal

pub returns : goal.returns
returns c = law
