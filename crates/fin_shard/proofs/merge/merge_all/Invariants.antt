use Rattle.std.proofs.Common.{take}
use Rattle.fin_shard.proofs.Merges.{Poured}
use Rattle.fin_shard.proofs.merge.merge_all.Given as goal

-- the shards that were looked at are poured in
abbrev pub invariant-loop-shard : goal.invariant-loop-shard
invariant-loop-shard l = Poured l.fn.into l.whole (take l.shard-index l.shard-items)
