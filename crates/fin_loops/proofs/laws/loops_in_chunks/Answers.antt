use Rattle.fin_loops.proofs.Chunks.{loops_in_chunks as law}
use Rattle.fin_loops.proofs.laws.loops_in_chunks.Goals as goal

pub returns : goal.returns
returns c = law
