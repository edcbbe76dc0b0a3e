use Rattle.std.proofs.Common.{◌≡◌, ◌+◌, ◌-◌, ℕ, ap, arith}
use Rattle.fin_canon.specs.Ranges.{head_of}
use Rattle.fin_canon.proofs.Spanning.{block_none, block_all}
use Rattle.fin_canon.proofs.blocks.add_block.Goals as goal

pub returns-then-first-slice : goal.returns-then-first-slice
returns-then-first-slice c =
    let g = c.first_kept-first.ensures in
    block_none c.args.entries.now c.args.format.now.fill c.args.depth c.args.extent c.args.slice.from c.args.slice.to c.args.start.now c.push.new.self c.args.next.now (λ k x y. g.skipped k x (omega (arith, c.if-first-slice.true))) c.in_ok-push.ensures.ok

pub returns : goal.returns
returns c =
    let es = c.args.entries.now in
    let d = c.args.depth in
    let g = c.first_kept-first.ensures in
    let e = c.kept_end-end.ensures in
    let low = c.head-low.result in
    let high : c.head-high.result + 1 - low ≡ head_of es d (c.kept_end-end.result - 1) + 1 - low = ap (λ (x : ℕ). x + 1 - low) c.head-high.ensures in
    block_all es c.args.format.now.fill d c.args.extent c.args.slice.from c.args.slice.to c.first_kept-first.result c.kept_end-end.result low c.requires.fits g.low e.low e.high g.skipped e.skipped (g.other (omega (arith, e.low, e.high))) e.other c.head-low.ensures
    (c.head-high.result + 1 - low) c.args.start.now c.push-2.new.self c.args.next.now c.add_cuts.new.next high c.in_ok-push-2.ensures.ok c.in_ok-add_cuts.ensures
