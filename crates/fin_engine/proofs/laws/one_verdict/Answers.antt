use Rattle.fin_engine.proofs.Decisions.{one_verdict as law}
use Rattle.fin_engine.proofs.laws.one_verdict.Goals as goal

pub returns : goal.returns
returns c = law
