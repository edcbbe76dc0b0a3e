use Rattle.fin_tensor.proofs.Tabulated.{tabulated_gives}
use Rattle.fin_tensor.proofs.laws.tabulated_gives.Goals as goal

pub returns : goal.returns
returns c = tabulated_gives
