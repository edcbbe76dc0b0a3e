use Rattle.fin_style_step.proofs.Built.{stepper_arm}
use Rattle.fin_style_step.proofs.walking.stepper.Goals as goal

pub returns-in_ok-walker-in-Stepper : goal.returns-in_ok-walker-in-Stepper
returns-in_ok-walker-in-Stepper c = stepper_arm c.args.looplet.now _ _ _ c.in-Stepper.is c.get.ensures c.in_ok-walker-in-Stepper.ensures
