use Rattle.std.proofs.Common.{sym}
use Rattle.fin_run.proofs.Reading.{none_number}
use Rattle.fin_run.proofs.value.cell_at.Goals as goal

pub returns-in-None : goal.returns-in-None
returns-in-None c = let h = c.in-None.ensures in sym (none_number c.args.inputs.now c.args.tensors.now c.args.tensor (sym c.in-None.ensures) c.args.table c.args.level c.args.at)
