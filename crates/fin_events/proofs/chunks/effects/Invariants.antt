use Rattle.std.proofs.Common.{◌≡◌, map, take}
use Rattle.fin_core.specs.Cores.{listed}
use Rattle.fin_events.specs.Chunks.{lists_of}
use Rattle.fin_events.proofs.chunks.effects.Given as goal

-- the chunks that were looked at are listed
abbrev pub invariant-loop-chunk : goal.invariant-loop-chunk
invariant-loop-chunk l = listed l.effects.items ≡ lists_of (map (λ c. c.now) (take l.chunk-index l.chunks))
