use Rattle.std.proofs.Common.{SFits, w64, rules, ap, List, ℤ}
use Rattle.fin_run.proofs.Clamping.{next_is}
use Rattle.fin_run.proofs.places.begin_step.Goals as goal

pub returns-clause-next : goal.returns-clause-next
returns-clause-next c turns =
    let fa : SFits w64 c.args.place.now.at = search rules in
    let fe : SFits w64 c.args.place.now.end = search rules in
    next_is c.args.inputs.now c.args.state.now (record c.args.state.now { locals = c.set_local.new.locals }) turns c.args.var c.args.stop.now c.args.place.now.at c.args.place.now.end c.evaluate-stop.result c.clamp-place.result fa fe c.evaluate-stop.type_inv c.clamp-place.type_inv
    (ap (λ (ls : List ℤ). record c.args.state.now { locals = ls }) c.set_local.ensures) c.evaluate-stop.ensures c.clamp-place.ensures
