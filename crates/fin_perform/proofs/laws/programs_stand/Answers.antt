use Rattle.fin_perform.proofs.Programs.{programs_stand as law}
use Rattle.fin_perform.proofs.laws.programs_stand.Goals as goal

pub returns : goal.returns
returns c = law
