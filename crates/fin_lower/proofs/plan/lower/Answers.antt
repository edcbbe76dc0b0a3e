use Rattle.fin_lower.proofs.Plans.{plan_is}
use Rattle.fin_lower.proofs.plan.lower.Goals as goal

pub returns : goal.returns
returns c =
    let made = c.in_ok-codes.ensures in
    plan_is c.args.checked.now c.in_ok-codes.field-0.codes c.in_ok-codes.field-0.room c.in_ok-layout.layout c.in_ok-layout.ensures made.room made.named made.means
