use Rattle.fin_drive.proofs.Programs.{statements_update_once as law}
use Rattle.fin_drive.proofs.laws.statements_update_once.Goals as goal

pub returns : goal.returns
returns c = law
