use Rattle.fin_style_point.specs.Parts.{all_looplets}
use Rattle.fin_descend.proofs.Heads.{early_style, walked_style}
use Rattle.fin_descend.proofs.weights.is_at_points.Goals as goal

pub returns-then-has_early : goal.returns-then-has_early
returns-then-has_early c = early_style (all_looplets c.args.nest.now) _ c.has_early.ensures c.if-has_early.true

pub returns-else-has_early : goal.returns-else-has_early
returns-else-has_early c =
    walked_style (all_looplets c.args.nest.now) _ _ c.has_early.ensures c.if-has_early.false c.has_walked.ensures
