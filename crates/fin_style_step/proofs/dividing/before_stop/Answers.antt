use Rattle.std.proofs.Common.{◌≡◌, ◌∙◌}
use Rattle.std.proofs.lemmas.Result.{IfOk-weaker}
use Rattle.fin_style_step.specs.Steps.{phased}
use Rattle.fin_style_step.specs.Parts.{phased_by, before_stop}
use Rattle.fin_style_step.proofs.Built.{here_arm}
use Rattle.fin_style_step.proofs.dividing.before_stop.Goals as goal

pub returns-in-Sequence : goal.returns-in-Sequence
returns-in-Sequence c =
    IfOk-weaker c.first_child.result (λ l. l ≡ (phased_by c.as_slice.result.now).here) (λ l. l ≡ before_stop c.args.end.now (phased c.args.looplet.now) c.args.looplet.now)
    (λ l e. e ∙ here_arm c.args.end.now c.args.looplet.now _ _ c.in-Sequence.is c.as_slice.ensures) c.first_child.ensures
