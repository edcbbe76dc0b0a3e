use Rattle.fin_simp.proofs.Matching.{reads_are_found}
use Rattle.fin_simp.proofs.laws.reads_are_found.Goals as goal

pub returns : goal.returns
returns c = reads_are_found
