use Rattle.fin_canon.proofs.Canonical.{canonical_stands as law}
use Rattle.fin_canon.proofs.laws.canonical_stands.Goals as goal

pub returns : goal.returns
returns c = law
