use Rattle.fin_drive.proofs.Programs.{statements_go_on as law}
use Rattle.fin_drive.proofs.laws.statements_go_on.Goals as goal

pub returns : goal.returns
returns c = law
