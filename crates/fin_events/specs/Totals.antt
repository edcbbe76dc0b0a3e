-- What chunks add to a vector through shards.
use Rattle.std.specs.Prelude.{◌≡◌, ℕ, ℤ, pos, List, [], ◌∷◌, map, All}
use Rattle.fin_base.specs.Words.{reduced}
use Rattle.fin_base.specs.declared.reduce.Reduce.TheVariants.{Add}
use Rattle.fin_build.specs.Entries.{Entry}
use Rattle.fin_shard.specs.declared.shard.Shard.{Shard}
use Rattle.fin_shard.specs.Shards.{values_at, AllTook, all_of}
use Rattle.fin_events.specs.declared.chunks.Addend.{Addend}

-- what one chunk appends
abbrev pub entry_of : Addend → Entry
entry_of a = (a.at ∷ [], a.value)

abbrev pub entries_of : List Addend → List Entry
entries_of chunk = map entry_of chunk

-- the sum of all that is added at a coordinate
abbrev pub total : List (List Addend) → ℕ → ℤ
total chunks at = reduced Add (pos 0) (values_at (at ∷ []) (all_of (map entries_of chunks)))

-- each shard has taken a chunk
pub record HaveTaken (ss : List Shard) (chunks : List (List Addend)) : Type 0 where
  pub by : All (λ s. s.by ≡ Add) ss
  pub took : AllTook Add (map (λ s. s.builder.function) ss) (map entries_of chunks)
