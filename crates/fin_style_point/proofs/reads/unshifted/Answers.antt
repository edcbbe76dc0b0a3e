use Rattle.std.proofs.Common.{◌≡◌, ◌∙◌}
use Rattle.std.proofs.lemmas.Result.{IfOk-weaker}
use Rattle.fin_looplet.specs.Moved.{moved}
use Rattle.fin_style_point.specs.Steps.{unshifted}
use Rattle.fin_style_point.proofs.Built.{shift_arm}
use Rattle.fin_style_point.proofs.reads.unshifted.Goals as goal

pub returns-in-Shift : goal.returns-in-Shift
returns-in-Shift c =
    IfOk-weaker c.moved.result (λ l. l ≡ moved c.in-Shift.by c.get.result.now) (λ l. l ≡ unshifted c.args.looplet.now)
    (λ l e. e ∙ shift_arm c.args.looplet.now _ _ _ c.in-Shift.is c.get.ensures) c.moved.ensures
