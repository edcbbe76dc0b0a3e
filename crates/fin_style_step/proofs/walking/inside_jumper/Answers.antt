use Rattle.std.proofs.Common.{◌≡◌, ◌∙◌}
use Rattle.std.proofs.lemmas.Result.{IfOk-weaker}
use Rattle.fin_looplet.specs.Cut.{cut}
use Rattle.fin_style_step.specs.declared.nest.Kind.TheVariants as kind
use Rattle.fin_style_step.specs.Parts.{inside_one}
use Rattle.fin_style_step.proofs.Built.{inside_jumper as arm}
use Rattle.fin_style_step.proofs.walking.inside_jumper.Goals as goal

pub returns-in-Jumper : goal.returns-in-Jumper
returns-in-Jumper c =
    IfOk-weaker c.before_stop.result (λ l. l ≡ cut c.get.result.now.stop c.get.result.now.child) (λ l. l ≡ inside_one kind.Jumper c.args.end.now c.args.looplet.now)
    (λ l e. e ∙ arm c.args.end.now c.args.looplet.now _ _ c.in-Jumper.is c.get.ensures) c.before_stop.ensures
