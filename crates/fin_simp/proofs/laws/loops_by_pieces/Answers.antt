use Rattle.fin_simp.proofs.Loops.{loops_by_pieces}
use Rattle.fin_simp.proofs.laws.loops_by_pieces.Goals as goal

pub returns : goal.returns
returns c = loops_by_pieces
