use Rattle.std.proofs.Common.{◌≡◌, ◌∙◌}
use Rattle.std.proofs.lemmas.Result.{IfOk-weaker}
use Rattle.fin_looplet.specs.Moved.{moved}
use Rattle.fin_looplet.proofs.MovedBuilt.{sequence_arm, stepper_arm, jumper_arm, switch_arm, shift_arm}
use Rattle.fin_looplet.proofs.+moved.Goals as goal

pub looplet::Looplet::moved-returns-in_ok-phases-in-Sequence : goal.looplet::Looplet::moved-returns-in_ok-phases-in-Sequence
looplet::Looplet::moved-returns-in_ok-phases-in-Sequence t c =
    sequence_arm c.args.by.now c.args.self.now _ _ _ c.in-Sequence.is c.as_slice.ensures c.in_ok-phases-in-Sequence.ensures

pub looplet::Looplet::moved-returns-in_ok-walker-in-Stepper : goal.looplet::Looplet::moved-returns-in_ok-walker-in-Stepper
looplet::Looplet::moved-returns-in_ok-walker-in-Stepper t c =
    stepper_arm c.args.by.now c.args.self.now _ _ _ c.in-Stepper.is c.get.ensures c.in_ok-walker-in-Stepper.ensures

pub looplet::Looplet::moved-returns-in_ok-walker-in-Jumper : goal.looplet::Looplet::moved-returns-in_ok-walker-in-Jumper
looplet::Looplet::moved-returns-in_ok-walker-in-Jumper t c =
    jumper_arm c.args.by.now c.args.self.now _ _ _ c.in-Jumper.is c.get-in-Jumper.ensures c.in_ok-walker-in-Jumper.ensures

pub looplet::Looplet::moved-returns-in_ok-cases-in-Switch : goal.looplet::Looplet::moved-returns-in_ok-cases-in-Switch
looplet::Looplet::moved-returns-in_ok-cases-in-Switch t c =
    switch_arm c.args.by.now c.args.self.now _ _ _ c.in-Switch.is c.as_slice-in-Switch.ensures c.in_ok-cases-in-Switch.ensures

pub looplet::Looplet::moved-returns-in_ok-by-in-Shift : goal.looplet::Looplet::moved-returns-in_ok-by-in-Shift
looplet::Looplet::moved-returns-in_ok-by-in-Shift t c =
    IfOk-weaker c.moved.result (λ l. l ≡ moved c.in_ok-by-in-Shift.by c.get-in-Shift.result.now) (λ l. l ≡ moved c.args.by.now c.args.self.now)
    (λ l e. e ∙ shift_arm c.args.by.now c.args.self.now _ _ _ _ c.in-Shift.is c.in_ok-by-in-Shift.ensures c.get-in-Shift.ensures) c.moved.ensures
