use Rattle.fin_enter.proofs.EntryCodes.{entries_are_known as law}
use Rattle.fin_enter.proofs.laws.entries_are_known.Goals as goal

pub returns : goal.returns
returns c = law
