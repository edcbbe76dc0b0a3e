use Rattle.std.proofs.Common.{◌∙◌, ap, set, None}
use Rattle.fin_ast.specs.Dense.{Made}
use Rattle.fin_dense.proofs.Lists.{kept_stays, kept_loses}
use Rattle.fin_dense.proofs.made.forget.Goals as goal
use Rattle.fin_dense.proofs.made.forget.Goals.{then-not-before-i, else-not-before-i}

pub loop-i-preserved : goal.loop-i-preserved
loop-i-preserved c =
    elim c.if-not-before-i.branch [
      | then-not-before-i w ↦
          ap (λ v. v.items) w.made-is ∙ w.forget_one.ensures ∙ ap (λ (ts : Made). set ts c.loop-i.i None) c.loop-i.invariant
          ∙ kept_loses c.args.before.now c.args.made.now.items c.loop-i.i c.loop-i-test.true w.if-not-before-i.true
      | else-not-before-i w ↦
          ap (λ v. v.items) w.made-is ∙ c.loop-i.invariant
          ∙ kept_stays c.args.before.now c.args.made.now.items c.loop-i.i c.loop-i-test.true w.if-not-before-i.false
    ]
