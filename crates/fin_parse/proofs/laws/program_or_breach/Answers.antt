use Rattle.fin_parse.proofs.Totality.{program_or_breach as law}
use Rattle.fin_parse.proofs.laws.program_or_breach.Goals as goal

pub returns : goal.returns
returns c = law
