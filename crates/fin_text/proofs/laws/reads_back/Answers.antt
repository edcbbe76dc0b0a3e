use Rattle.fin_text.proofs.ReadBack.{reads_back as law}
use Rattle.fin_text.proofs.laws.reads_back.Goals as goal

pub returns : goal.returns
returns c = law
