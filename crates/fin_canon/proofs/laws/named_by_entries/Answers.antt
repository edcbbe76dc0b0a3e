use Rattle.fin_canon.proofs.Naming.{named_by_entries as law}
use Rattle.fin_canon.proofs.laws.named_by_entries.Goals as goal

pub returns : goal.returns
returns c = law
