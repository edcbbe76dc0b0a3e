use Rattle.fin_style_step.proofs.Built.{jumper_arm}
use Rattle.fin_style_step.proofs.walking.jumper.Goals as goal

pub returns-in_ok-walker-in-Jumper : goal.returns-in_ok-walker-in-Jumper
returns-in_ok-walker-in-Jumper c = jumper_arm c.args.looplet.now _ _ _ c.in-Jumper.is c.get.ensures c.in_ok-walker-in-Jumper.ensures
