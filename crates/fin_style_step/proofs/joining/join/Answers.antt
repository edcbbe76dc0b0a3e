use Rattle.std.proofs.Common.{◌≡◌, map}
use Rattle.std.proofs.lemmas.Result.{IfOk-weaker}
use Rattle.fin_ir.specs.declared.code.Code.{Code}
use Rattle.fin_nest.specs.Frames.{fill}
use Rattle.fin_nest.specs.Joins.{Joins}
use Rattle.fin_nest.proofs.Joined.{joined}
use Rattle.fin_style_step.specs.Parts.{course_of}
use Rattle.fin_style_step.proofs.joining.join.Goals as goal

pub returns-clause-means : goal.returns-clause-means
returns-clause-means c =
    let p = c.args.parts in
    let codes = c.args.codes in
    let parts = map course_of p.nests in
    IfOk-weaker c.fill.result (λ (x : Code). x ≡ fill p.frame codes) (λ (x : Code). Joins p.frame parts codes x) (λ x e. joined p.frame parts codes x e) c.fill.ensures
