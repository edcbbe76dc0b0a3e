use Rattle.std.proofs.Common.{◌≡◌, ◌∙◌}
use Rattle.std.proofs.lemmas.Result.{IfOk-weaker}
use Rattle.fin_looplet.specs.declared.looplet.Looplet.{Looplet}
use Rattle.fin_style_point.specs.Steps.{alternatives}
use Rattle.fin_style_point.specs.Parts.{side, side_of, alternatives_of}
use Rattle.fin_style_point.proofs.Built.{side_arm}
use Rattle.fin_style_point.proofs.sides.side_of.Goals as goal

pub returns-in-Switch : goal.returns-in-Switch
returns-in-Switch c =
    let l = c.args.looplet.now in
    IfOk-weaker c.side.result (λ (x : Looplet). x ≡ side c.args.branch (alternatives_of c.as_slice.result.now)) (λ (x : Looplet). x ≡ side_of c.args.branch (alternatives l) l)
    (λ x e. e ∙ side_arm c.args.branch l _ _ c.in-Switch.is c.as_slice.ensures) c.side.ensures
