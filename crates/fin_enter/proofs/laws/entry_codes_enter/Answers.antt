use Rattle.fin_enter.proofs.EntryCodes.{entry_codes_enter as law}
use Rattle.fin_enter.proofs.laws.entry_codes_enter.Goals as goal

pub returns : goal.returns
returns c = law c.bounds_mean.ensures
