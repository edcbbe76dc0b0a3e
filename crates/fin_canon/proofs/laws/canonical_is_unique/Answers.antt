use Rattle.fin_canon.proofs.Canonical.{canonical_is_unique as law}
use Rattle.fin_canon.proofs.laws.canonical_is_unique.Goals as goal

pub returns : goal.returns
returns c = law
