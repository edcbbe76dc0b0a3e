use Rattle.fin_text.proofs.Sequences.{reads_sequences as law}
use Rattle.fin_text.proofs.laws.reads_sequences.Goals as goal

pub returns : goal.returns
returns c = law
