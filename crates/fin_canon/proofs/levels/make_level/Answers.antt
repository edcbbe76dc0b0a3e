use Rattle.std.proofs.Common.{◌∙◌, ◌++◌, ◌∷◌, [], ℕ, ap}
use Rattle.std.proofs.lemmas.List.{get_or_default}
use Rattle.fin_canon.specs.Ranges.{range_at}
use Rattle.fin_canon.proofs.Making.{level_more, level_all}
use Rattle.fin_canon.proofs.levels.make_level.Goals as goal

pub loop-r-preserved : goal.loop-r-preserved
loop-r-preserved c =
    let i = c.loop-r.r-index in
    let rs = c.args.slices.now in
    let r = range_at rs i in
    level_more c.args.level c.args.entries.now c.args.format.now.fill c.args.depth c.args.extent rs i r c.loop-r.ptr c.push-in-loop-r.new.self c.loop-r.numbers c.add_slice.new.numbers c.loop-r.next c.add_slice.new.next c.loop-r-test.true
    (get_or_default rs i (record { from = 0; to = 0 }) r c.loop-r-test.true) c.in_ok-add_slice.ensures (c.in_ok-push-2.ensures.ok ∙ ap (λ (x : ℕ). c.loop-r.ptr ++ x ∷ []) c.len.ensures) c.loop-r.invariant

pub returns : goal.returns
returns c = level_all c.args.level c.args.entries.now c.args.format.now.fill c.args.depth c.args.extent c.args.slices.now c.loop-r.r-index c.loop-r.ptr c.loop-r.numbers c.loop-r.next c.part_of-part.result c.loop-r-test.false c.part_of-part.ensures c.loop-r.invariant
