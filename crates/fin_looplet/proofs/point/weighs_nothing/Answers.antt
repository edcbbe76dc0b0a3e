use Rattle.std.proofs.Common.{◌∙◌, sym}
use Rattle.fin_looplet.proofs.Weightless.{zero_weight, exactly_runs, both_then, both_else}
use Rattle.fin_looplet.proofs.point.weighs_nothing.Goals as goal

pub returns-then-is_point-clause-weightless : goal.returns-then-is_point-clause-weightless
returns-then-is_point-clause-weightless c =
    both_then c.are_runs.result c.args.looplets.now c.args.lo.now c.args.hi.now (sym c.is_point.ensures ∙ c.if-is_point.true) c.are_runs.ensures
    ∙ sym (zero_weight c.args.looplets.now c.args.lo.now c.args.hi.now)

pub returns-then-is_point-clause-exactly : goal.returns-then-is_point-clause-exactly
returns-then-is_point-clause-exactly c =
    exactly_runs c.are_runs.result c.args.looplets.now c.args.lo.now c.args.hi.now
    (both_then c.are_runs.result c.args.looplets.now c.args.lo.now c.args.hi.now (sym c.is_point.ensures ∙ c.if-is_point.true) c.are_runs.ensures)

pub returns-else-is_point-clause-weightless : goal.returns-else-is_point-clause-weightless
returns-else-is_point-clause-weightless c =
    both_else c.is_point.result c.args.looplets.now c.args.lo.now c.args.hi.now c.is_point.ensures c.if-is_point.false
    ∙ sym (zero_weight c.args.looplets.now c.args.lo.now c.args.hi.now)

pub returns-else-is_point-clause-exactly : goal.returns-else-is_point-clause-exactly
returns-else-is_point-clause-exactly c =
    exactly_runs c.is_point.result c.args.looplets.now c.args.lo.now c.args.hi.now
    (both_else c.is_point.result c.args.looplets.now c.args.lo.now c.args.hi.now c.is_point.ensures c.if-is_point.false)
