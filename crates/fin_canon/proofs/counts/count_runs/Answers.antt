use Rattle.std.proofs.Common.{refl}
use Rattle.fin_canon.proofs.Tallying.{runs_counted_none, runs_counted_more, runs_counted}
use Rattle.fin_canon.proofs.counts.count_runs.Goals as goal

pub loop-start-init : goal.loop-start-init
loop-start-init c = runs_counted_none c.args.entries.now c.args.format.now.fill c.args.depth c.args.extent c.args.slice.from c.args.slice.to (record { entry = c.args.slice.from; at = 0 }) refl refl c.requires.fits.order

pub loop-start-preserved : goal.loop-start-preserved
loop-start-preserved c =
    runs_counted_more c.args.entries.now c.args.format.now.fill c.args.depth c.args.extent c.args.slice.from c.args.slice.to c.loop-start.start c.run_from-run.result c.loop-start.total c.capped_sum-total.result c.loop-start.invariant c.run_from-run.ensures c.capped_sum-total.ensures

pub returns : goal.returns
returns c = runs_counted c.args.entries.now c.args.format.now.fill c.args.depth c.args.extent c.args.slice.from c.args.slice.to c.loop-start.start c.loop-start.total c.loop-start.invariant c.loop-start-test.false
