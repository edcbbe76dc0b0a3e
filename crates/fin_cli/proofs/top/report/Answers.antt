use Rattle.std.proofs.Common.{◌∙◌, subst, arith, ◌≤◌}
use Rattle.fin_cli.specs.Due.{IsDueMode}
use Rattle.fin_cli.specs.Stops.{Comes}
use Rattle.fin_cli.proofs.Comings.{low_due}
use Rattle.fin_cli.proofs.Endings.{ends_told}
use Rattle.fin_cli.proofs.top.report.Goals as goal

pub returns-in-Ok-clause-ends : goal.returns-in-Ok-clause-ends
returns-in-Ok-clause-ends g c = λ source out asked mode job comes.
    let h = subst (Comes source out (IsDueMode asked mode job)) c.in-Ok.is comes in
    let due = h.0 in
    let small : due.status ≤ 2 = omega (arith, low_due asked mode job due h.1) in
    ends_told source out _ _ (IsDueMode asked mode job) due c.as_bytes.result.now c.in-Ok.answer.status c.tell.result h.1 small h.2.0 (c.as_bytes.ensures.value ∙ h.2.1) h.2.2 c.tell.ensures.tells

pub returns-in-Err-clause-ends : goal.returns-in-Err-clause-ends
returns-in-Err-clause-ends g c = λ source out asked mode job comes.
    c.report_stop.ensures.ends source out asked mode job (subst (Comes source out (IsDueMode asked mode job)) c.in-Err.is comes)
