-- What appends and merges do to shards.
use Rattle.std.specs.Prelude.{◌≡◌, ◌++◌, List, [], ◌∷◌, All, map}
use Rattle.fin_base.specs.declared.reduce.Reduce.{Reduce}
use Rattle.fin_tensor.specs.Building.{Building}
use Rattle.fin_build.specs.Entries.{Entry}
use Rattle.fin_build.specs.Merging.{IsMerged}
use Rattle.fin_shard.specs.declared.shard.Shard.{Shard}
use Rattle.fin_shard.specs.Shards.{Took, AllTook, IsReduced}

-- these were appended to it
abbrev pub HasTaken : Shard → List Entry → Type 0
HasTaken s es = Took s.by s.builder.function es

-- one was appended, after whatever was before
abbrev pub Takes : Entry → Shard → Shard → Type 0
Takes e old new = (es : List Entry) → HasTaken old es → HasTaken new (es ++ e ∷ [])

-- one shard is joined to a tensor
abbrev pub TakesIn : Shard → Building → Building → Type 0
TakesIn s old new = IsMerged s.by old.function s.builder.function new.function

-- all that was appended to shards of one reduction is applied
abbrev pub TakesInAll : List Shard → Building → Building → Type 0
TakesInAll ss old new = (by : Reduce) (ess : List (List Entry)) → All (λ s. s.by ≡ by) ss → AllTook by (map (λ s. s.builder.function) ss) ess → IsReduced by old.function ess new.function
