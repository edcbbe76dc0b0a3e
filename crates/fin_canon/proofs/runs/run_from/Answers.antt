use Rattle.std.proofs.Common.{arith}
use Rattle.fin_canon.proofs.Running.{step_more, run_ends}
use Rattle.fin_canon.proofs.runs.run_from.Goals as goal

pub loop-run-init : goal.loop-run-init
loop-run-init c = c.step-run.ensures c.args.format.now.fill

pub loop-run-smaller : goal.loop-run-smaller
loop-run-smaller c = let s = c.step-run-in-loop-run.ensures c.args.format.now.fill in omega (arith, s.low, s.high, c.loop-run-test.true)

pub loop-run-preserved : goal.loop-run-preserved
loop-run-preserved c =
    step_more c.args.entries.now c.args.format.now.fill c.args.depth c.args.extent c.args.slice.from c.args.slice.to c.args.start c.loop-run.run c.step-run-in-loop-run.result c.loop-run.invariant (c.has_same_value.ensures.0 c.if-has_same_value.true) (c.step-run-in-loop-run.ensures c.args.format.now.fill)

pub returns-else-has_same_value : goal.returns-else-has_same_value
returns-else-has_same_value c =
    run_ends c.args.entries.now c.args.format.now.fill c.args.depth c.args.extent c.args.slice.from c.args.slice.to c.args.start c.loop-run.run c.requires.fits c.loop-run.invariant (λ e. let t = c.has_same_value.ensures.1 e in let f = c.if-has_same_value.false in absurd (cc))
