use Rattle.fin_canon.proofs.Fewer.{canonical_stays_valid as law}
use Rattle.fin_canon.proofs.laws.canonical_stays_valid.Goals as goal

pub returns : goal.returns
returns c = law
