use Rattle.fin_text.proofs.ReadBack.{reads_on as law}
use Rattle.fin_text.proofs.laws.reads_on.Goals as goal

pub returns : goal.returns
returns c = law
