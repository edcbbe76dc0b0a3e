use Rattle.fin_perform.proofs.Beginning.{begun_machines_stand as law}
use Rattle.fin_perform.proofs.laws.begun_machines_stand.Goals as goal

pub returns : goal.returns
returns c = law
