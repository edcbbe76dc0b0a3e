use Rattle.std.proofs.Common.{◌≡◌, ◌∙◌}
use Rattle.std.proofs.lemmas.Result.{IfOk-weaker}
use Rattle.fin_style_step.specs.Steps.{phased}
use Rattle.fin_style_step.specs.Parts.{phased_by, behind_stop}
use Rattle.fin_style_step.proofs.Built.{others_arm}
use Rattle.fin_style_step.proofs.dividing.behind_stop.Goals as goal

pub returns-in-Sequence : goal.returns-in-Sequence
returns-in-Sequence c =
    IfOk-weaker c.other_phases.result (λ l. l ≡ (phased_by c.as_slice.result.now).others) (λ l. l ≡ behind_stop (phased c.args.looplet.now) c.args.looplet.now)
    (λ l e. e ∙ others_arm c.args.looplet.now _ _ c.in-Sequence.is c.as_slice.ensures) c.other_phases.ensures
