use Rattle.std.proofs.Common.{◌≡◌, ◌∙◌}
use Rattle.std.proofs.lemmas.Result.{IfOk-weaker}
use Rattle.fin_looplet.specs.Cut.{cut}
use Rattle.fin_style_step.specs.declared.nest.Kind.TheVariants as kind
use Rattle.fin_style_step.specs.Parts.{inside_one}
use Rattle.fin_style_step.proofs.Built.{inside_stepper as arm}
use Rattle.fin_style_step.proofs.walking.inside_stepper.Goals as goal

pub returns-in-Stepper : goal.returns-in-Stepper
returns-in-Stepper c =
    IfOk-weaker c.before_stop.result (λ l. l ≡ cut c.get.result.now.stop c.get.result.now.child) (λ l. l ≡ inside_one kind.Stepper c.args.end.now c.args.looplet.now)
    (λ l e. e ∙ arm c.args.end.now c.args.looplet.now _ _ c.in-Stepper.is c.get.ensures) c.before_stop.ensures
