use Rattle.std.proofs.Common.{◌≡◌, ◌+◌, ◌-◌, arith}
use Rattle.fin_canon.proofs.Cutting.{cut_none, cut_step, cut_all}
use Rattle.fin_canon.proofs.cuts.add_cuts.Goals as goal

pub loop-i-init : goal.loop-i-init
loop-i-init c = cut_none c.args.entries.now c.args.format.now.fill c.args.depth c.args.slice.from c.args.slice.to c.args.low c.args.next.now c.requires.fits.order c.requires.above

pub cut_end-end-requires-clause-order : goal.cut_end-end-requires-clause-order
cut_end-end-requires-clause-order c = c.loop-i.invariant.high

pub cut_end-end-requires-clause-deep : goal.cut_end-end-requires-clause-deep
cut_end-end-requires-clause-deep c k x y = c.requires.fits.deep k (omega (arith, c.loop-i.invariant.from)) y

pub loop-i-preserved : goal.loop-i-preserved
loop-i-preserved c =
    let g = c.cut_end-end.ensures in
    cut_step c.args.entries.now c.args.format.now.fill c.args.depth c.args.slice.from c.args.slice.to c.args.low c.loop-i.at c.cut_end-end.result c.loop-i.i c.args.next.now c.loop-i.next c.push.new.self g.low g.high g.same g.next c.requires.fits.rise c.in_ok-push.ensures.ok c.loop-i.invariant

pub returns : goal.returns
returns c =
    let e : c.loop-i.i ≡ c.args.low + (c.args.high - c.args.low) = omega (arith, c.loop-i-test.false, c.loop-i.auto.i, c.loop-i.auto.i-end c.requires.order, c.requires.order) in
    cut_all c.args.entries.now c.args.format.now.fill c.args.depth c.args.slice.from c.args.slice.to c.args.low (c.args.high - c.args.low) c.loop-i.at c.loop-i.i c.args.next.now c.loop-i.next e c.loop-i.invariant
