use Rattle.fin_nest.proofs.Both.{skipped_updates_stand as law}
use Rattle.fin_nest.proofs.laws.skipped_updates_stand.Goals as goal

pub returns : goal.returns
returns c = law
