use Rattle.std.proofs.Common.{refl}
use Rattle.fin_looplet.proofs.SameArms.{part, two_arm}
use Rattle.fin_looplet.proofs.Weightless.{not_next}
use Rattle.fin_looplet.proofs.point.is_point.Goals as goal

pub returns-in-Two : goal.returns-in-Two
returns-in-Two c =
    two_arm _ _ _ _ _ _ _ _ _ _ _ c.in-Two.is refl c.eq.ensures
    (part _ _ _ _ _ c.is_same.ensures c.get.ensures refl)
    (part _ _ _ _ _ c.is_one.ensures c.get-in-Two.ensures refl)

pub returns-in_default : goal.returns-in_default
returns-in_default c = not_next c.args.lo.now c.args.hi.now c.in_default.not-Two
