use Rattle.std.proofs.Common.{◌≡◌, ◌∙◌}
use Rattle.std.proofs.lemmas.Result.{IfOk-weaker}
use Rattle.fin_ir.specs.declared.expression.IExpr.{IExpr}
use Rattle.fin_style_point.specs.Parts.{alternatives_of, test_of}
use Rattle.fin_style_point.proofs.Built.{test_arm}
use Rattle.fin_style_point.proofs.sides.test_of.Goals as goal

pub returns-in-Switch : goal.returns-in-Switch
returns-in-Switch c =
    let l = c.args.looplet.now in
    IfOk-weaker c.case_test.result (λ (x : IExpr). x ≡ (alternatives_of c.as_slice.result.now).test) (λ (x : IExpr). x ≡ test_of l)
    (λ x e. e ∙ test_arm l _ _ c.in-Switch.is c.as_slice.ensures) c.case_test.ensures
