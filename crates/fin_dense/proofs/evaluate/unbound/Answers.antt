use Rattle.std.proofs.Common.{◌∙◌, ap, ◌++◌, ◌∷◌, [], List, ℤ, pos}
use Rattle.fin_dense.proofs.Lists.{same_more}
use Rattle.fin_dense.proofs.evaluate.unbound.Goals as goal

pub loop-range-preserved : goal.loop-range-preserved
loop-range-preserved c = c.in_ok-push.ensures.items ∙ ap (λ (vs : List ℤ). vs ++ pos 0 ∷ []) c.loop-range.invariant ∙ same_more (pos 0) c.args.ranges.now c.loop-range._range-index c.loop-range-test.true
