use Rattle.fin_core.proofs.Order.{settled_any_order as law}
use Rattle.fin_core.proofs.laws.any_order_is_serial.Goals as goal

pub returns : goal.returns
returns c = law
