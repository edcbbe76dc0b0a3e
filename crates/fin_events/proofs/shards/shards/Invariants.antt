use Rattle.std.proofs.Common.{◌≡◌, take, map, [], ◌∷◌}
use Rattle.std.specs.List.{All}
use Rattle.fin_events.specs.Totals.{HaveTaken}
use Rattle.fin_events.proofs.shards.shards.Given as goal

-- the chunks that were looked at are taken
abbrev pub invariant-loop-chunk : goal.invariant-loop-chunk
invariant-loop-chunk l = All (λ s. s.builder.function.shape ≡ l.extent ∷ []) l.shards.items × HaveTaken l.shards.items (map (λ c. c.now) (take l.chunk-index l.chunks))
