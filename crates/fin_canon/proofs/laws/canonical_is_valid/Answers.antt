use Rattle.fin_canon.proofs.Canonical.{canonical_is_valid as law}
use Rattle.fin_canon.proofs.laws.canonical_is_valid.Goals as goal

pub returns : goal.returns
returns c = law
