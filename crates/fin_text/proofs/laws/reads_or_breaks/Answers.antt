use Rattle.fin_text.proofs.Totality.{reads_or_breaks as law}
use Rattle.fin_text.proofs.laws.reads_or_breaks.Goals as goal

pub returns : goal.returns
returns c = law
