use Rattle.std.proofs.Common.{◌∙◌, ℤ, get_or}
use Rattle.fin_ir.specs.declared.expression.IExpr.{IExpr}
use Rattle.fin_run.specs.Ends.{evaluated}
use Rattle.fin_run.proofs.Steps.{nth_point, point_fits, point_is, more_points}
use Rattle.fin_run.proofs.statements.coordinates.Goals as goal

pub overflow_cast-coord : goal.overflow_cast-coord
overflow_cast-coord c =
    let f : IExpr → ℤ = evaluated c.args.inputs.now c.args.state.now in
    point_fits c.evaluate-coord.result _ (record { sfits = c.evaluate-coord.type_inv })
    (c.evaluate-coord.ensures ∙ nth_point f c.args.at.now c.requires.0 c.loop-index.index-index c.index-item.result c.requires.1 c.loop-index-test.true c.index-item.is)

pub loop-index-preserved : goal.loop-index-preserved
loop-index-preserved c =
    let f : IExpr → ℤ = evaluated c.args.inputs.now c.args.state.now in
    let k = nth_point f c.args.at.now c.requires.0 c.loop-index.index-index c.index-item.result c.requires.1 c.loop-index-test.true c.index-item.is in
    more_points f c.args.at.now c.loop-index.index-index c.index-item.result c.loop-index.coords c.push.new.self _ c.loop-index.invariant c.loop-index-test.true c.index-item.is
    (point_is c.evaluate-coord.result (get_or c.requires.0 c.loop-index.index-index 0) (record { sfits = c.evaluate-coord.type_inv }) (c.evaluate-coord.ensures ∙ k) ∙ c.evaluate-coord.ensures) c.in_ok-push.ensures.ok
