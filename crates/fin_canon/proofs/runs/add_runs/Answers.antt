use Rattle.std.proofs.Common.{refl}
use Rattle.fin_canon.proofs.Running.{runs_none, runs_more, runs_all}
use Rattle.fin_canon.proofs.runs.add_runs.Goals as goal

pub loop-start-init : goal.loop-start-init
loop-start-init c = runs_none c.args.entries.now c.args.format.now.fill c.args.depth c.args.extent c.args.slice.from c.args.slice.to (record { entry = c.args.slice.from; at = 0 }) c.args.stop.now c.args.next.now refl refl c.requires.fits.order

pub loop-start-preserved : goal.loop-start-preserved
loop-start-preserved c =
    runs_more c.args.entries.now c.args.format.now.fill c.args.depth c.args.extent c.args.slice.from c.args.slice.to c.loop-start.start c.run_from-run.result c.args.stop.now c.loop-start.stop c.push.new.self c.args.next.now c.loop-start.next c.push-in-loop-start.new.self c.loop-start.invariant c.run_from-run.ensures c.in_ok-push.ensures.ok c.in_ok-push-2.ensures.ok

pub returns : goal.returns
returns c = runs_all c.args.entries.now c.args.format.now.fill c.args.depth c.args.extent c.args.slice.from c.args.slice.to c.loop-start.start c.args.stop.now c.loop-start.stop c.args.next.now c.loop-start.next c.loop-start.invariant c.loop-start-test.false
