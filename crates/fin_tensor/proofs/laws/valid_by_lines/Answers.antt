use Rattle.fin_tensor.proofs.ByLines.{valid_by_lines as law}
use Rattle.fin_tensor.proofs.laws.valid_by_lines.Goals as goal

pub returns : goal.returns
returns c = law
