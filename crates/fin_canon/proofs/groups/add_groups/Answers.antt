use Rattle.std.proofs.Common.{◌∙◌, ◌++◌, ◌∷◌, [], ℕ, ap}
use Rattle.fin_canon.proofs.Grouping.{grouped_none, grouped_more, grouped_all}
use Rattle.fin_canon.proofs.groups.add_groups.Goals as goal

pub loop-at-init : goal.loop-at-init
loop-at-init c =
    let g = c.first_kept-at.ensures in
    grouped_none c.args.entries.now c.args.format.now.fill c.args.depth c.args.slice.from c.args.slice.to c.first_kept-at.result c.args.idx.now c.args.next.now g.low g.high g.skipped g.other

pub loop-at-preserved : goal.loop-at-preserved
loop-at-preserved c =
    let g = c.group_end-end.ensures in
    let s = c.first_kept-at-in-loop-at.ensures in
    grouped_more c.args.entries.now c.args.format.now.fill c.args.depth c.args.slice.from c.args.slice.to c.loop-at.at c.group_end-end.result c.first_kept-at-in-loop-at.result g.low s.low s.high g.same g.next s.skipped s.other c.requires.1.rise
    c.args.idx.now c.loop-at.idx c.push.new.self c.args.next.now c.loop-at.next c.push-in-loop-at.new.self c.loop-at.invariant (c.in_ok-push.ensures.ok ∙ ap (λ (x : ℕ). c.loop-at.idx ++ x ∷ []) c.head.ensures) c.in_ok-push-2.ensures.ok

pub returns : goal.returns
returns c = grouped_all c.args.entries.now c.args.format.now.fill c.args.depth c.args.slice.from c.args.slice.to c.loop-at.at c.args.idx.now c.loop-at.idx c.args.next.now c.loop-at.next c.loop-at-test.false c.loop-at.invariant
