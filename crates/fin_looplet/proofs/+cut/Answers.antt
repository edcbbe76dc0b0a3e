use Rattle.fin_looplet.proofs.CutBuilt.{switch_arm, shift_arm}
use Rattle.fin_looplet.proofs.+cut.Goals as goal

pub looplet::Looplet::cut-returns-in_ok-cases-in-Switch : goal.looplet::Looplet::cut-returns-in_ok-cases-in-Switch
looplet::Looplet::cut-returns-in_ok-cases-in-Switch t c =
    switch_arm c.args.end.now c.args.self.now _ _ _ c.in-Switch.is c.as_slice.ensures c.in_ok-cases-in-Switch.ensures

pub looplet::Looplet::cut-returns-in_ok-by-in-Shift : goal.looplet::Looplet::cut-returns-in_ok-by-in-Shift
looplet::Looplet::cut-returns-in_ok-by-in-Shift t c =
    shift_arm c.args.end.now c.args.self.now _ _ _ _ _ c.in-Shift.is c.get.ensures c.in_ok-child-in-Shift.ensures c.in_ok-by-in-Shift.ensures
