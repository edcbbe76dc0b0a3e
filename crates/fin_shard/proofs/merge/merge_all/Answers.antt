use Rattle.std.proofs.Common.{List, subst, arith}
use Rattle.fin_build.proofs.Keeping.{word_at}
use Rattle.fin_shard.specs.declared.shard.Shard.{Shard}
use Rattle.fin_shard.proofs.Merges.{Poured, poured_more, poured_all, reduced_by_all}
use Rattle.fin_shard.proofs.merge.merge_all.Goals as goal

pub loop-shard-preserved : goal.loop-shard-preserved
loop-shard-preserved c =
    let l = c.loop-shard in
    let done = c.in_ok-merge_one.ensures in
    poured_more c.args.into l.whole c.merge_one.new.whole c.as_slice-shard-items.result.now l.shard-index c.shard-item.result c.loop-shard-test.true c.shard-item.is l.invariant done.format done.merged

pub returns-clause-merged : goal.returns-clause-merged
returns-clause-merged c =
    let l = c.loop-shard in
    let items = c.as_slice-shard-items.result.now in
    reduced_by_all c.args.into l.whole c.args.shards.items (λ cs. word_at c.args.into cs c.is_building.ensures)
    (subst (λ (ss : List Shard). Poured c.args.into l.whole ss) c.as_slice-shard-items.ensures.value (poured_all c.args.into l.whole items l.shard-index (omega (arith, c.loop-shard-test.false)) l.invariant))
