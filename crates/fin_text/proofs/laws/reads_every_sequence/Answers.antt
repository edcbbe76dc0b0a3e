use Rattle.fin_text.proofs.EverySequence.{reads_every_sequence as law}
use Rattle.fin_text.proofs.laws.reads_every_sequence.Goals as goal

pub returns : goal.returns
returns c = law
