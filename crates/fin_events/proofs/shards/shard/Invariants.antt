use Rattle.std.proofs.Common.{◌≡◌, take, [], ◌∷◌}
use Rattle.fin_base.specs.declared.reduce.Reduce.TheVariants.{Add}
use Rattle.fin_shard.specs.Steps.{HasTaken}
use Rattle.fin_events.specs.Totals.{entries_of}
use Rattle.fin_events.proofs.shards.shard.Given as goal

-- the addends that were looked at are appended
abbrev pub invariant-loop-addend : goal.invariant-loop-addend
invariant-loop-addend l = ((l.shard.by ≡ Add) × (l.shard.builder.function.shape ≡ l.extent ∷ [])) × HasTaken l.shard (entries_of (take l.addend-index l.chunk))
