use Rattle.fin_loops.proofs.SourcesWhole.{programs_are_sources as law}
use Rattle.fin_loops.proofs.laws.programs_are_sources.Goals as goal

pub returns : goal.returns
returns c = law c.accepted_stay.ensures
