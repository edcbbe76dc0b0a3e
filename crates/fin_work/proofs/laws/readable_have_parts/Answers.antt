use Rattle.fin_work.proofs.Parts.{readable_have_parts as law}
use Rattle.fin_work.proofs.laws.readable_have_parts.Goals as goal

pub returns : goal.returns
returns c = law
