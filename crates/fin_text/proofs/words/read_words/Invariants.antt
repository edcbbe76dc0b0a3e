use Rattle.std.proofs.Common.{length}
use Rattle.fin_text.proofs.Reading.{Reached}
use Rattle.fin_text.proofs.words.read_words.Given as goal

abbrev pub invariant-loop-first : goal.invariant-loop-first
invariant-loop-first g l = Reached g.T.Spelled.word g.T.Spelled.Fits l.line l.left l.read

abbrev pub decreases-loop-first : goal.decreases-loop-first
decreases-loop-first g l = length l.left
