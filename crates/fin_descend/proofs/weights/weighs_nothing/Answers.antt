use Rattle.std.proofs.Common.{◌∙◌, sym}
use Rattle.fin_looplet.proofs.Weightless.{zero_weight, exactly_runs, both_then, both_else}
use Rattle.fin_style_point.specs.Parts.{all_looplets}
use Rattle.fin_descend.proofs.weights.weighs_nothing.Goals as goal

pub returns-then-is_point-clause-weightless : goal.returns-then-is_point-clause-weightless
returns-then-is_point-clause-weightless c =
    let n = c.args.nest.now in
    both_then c.has_runs.result (all_looplets n) n.lo n.hi (sym c.is_point.ensures ∙ c.if-is_point.true) c.has_runs.ensures
    ∙ sym (zero_weight (all_looplets n) n.lo n.hi)

pub returns-then-is_point-clause-exactly : goal.returns-then-is_point-clause-exactly
returns-then-is_point-clause-exactly c =
    let n = c.args.nest.now in
    exactly_runs c.has_runs.result (all_looplets n) n.lo n.hi
    (both_then c.has_runs.result (all_looplets n) n.lo n.hi (sym c.is_point.ensures ∙ c.if-is_point.true) c.has_runs.ensures)

pub returns-else-is_point-clause-weightless : goal.returns-else-is_point-clause-weightless
returns-else-is_point-clause-weightless c =
    let n = c.args.nest.now in
    both_else c.is_point.result (all_looplets n) n.lo n.hi c.is_point.ensures c.if-is_point.false
    ∙ sym (zero_weight (all_looplets n) n.lo n.hi)

pub returns-else-is_point-clause-exactly : goal.returns-else-is_point-clause-exactly
returns-else-is_point-clause-exactly c =
    let n = c.args.nest.now in
    exactly_runs c.is_point.result (all_looplets n) n.lo n.hi
    (both_else c.is_point.result (all_looplets n) n.lo n.hi c.is_point.ensures c.if-is_point.false)
