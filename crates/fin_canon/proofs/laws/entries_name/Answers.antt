use Rattle.fin_canon.proofs.Mapped.{entries_name as law}
use Rattle.fin_canon.proofs.laws.entries_name.Goals as goal

pub returns : goal.returns
returns c = law
