use Rattle.fin_style_step.proofs.Built.{stop_arm}
use Rattle.fin_style_step.proofs.dividing.stop_of.Goals as goal

pub returns-in_ok-stop-in-Sequence : goal.returns-in_ok-stop-in-Sequence
returns-in_ok-stop-in-Sequence c = stop_arm c.args.looplet.now _ _ _ c.in-Sequence.is c.as_slice.ensures c.in_ok-stop-in-Sequence.ensures
