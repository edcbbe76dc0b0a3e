-- What chunks add to a vector, as effects, and the vector that they start from.
use Rattle.std.specs.Prelude.{ℕ, nat_lt, Bool, List, [], ◌∷◌, ℤ, pos, map}
use Rattle.std.specs.List.{list_all}
use Rattle.fin_base.specs.declared.reduce.Reduce.TheVariants.{Add}
use Rattle.fin_tensor.specs.declared.format.Format.{Format}
use Rattle.fin_tensor.specs.declared.format.Level.TheVariants.{Dict}
use Rattle.fin_tensor.specs.declared.format.Wrap.TheVariants.{Shard}
use Rattle.fin_tensor.specs.Building.{Building, started}
use Rattle.fin_ir.specs.Machine.{Effect}
use Rattle.fin_core.specs.Effects.{State}
use Rattle.fin_core.specs.Interleaving.{states}
use Rattle.fin_events.specs.declared.chunks.Addend.{Addend}

-- the effect on tensor 0
abbrev pub effect_of : Addend → Effect
effect_of a = record { tensor = 0; at = a.at ∷ []; by = Add; value = a.value }

-- the effects of one chunk, and of each
abbrev pub list_of : List Addend → List Effect
list_of chunk = map effect_of chunk

abbrev pub lists_of : List (List Addend) → List (List Effect)
lists_of chunks = map list_of chunks

-- each lies in a vector of that extent
abbrev pub chunk_fits : ℕ → List Addend → Bool
chunk_fits n chunk = list_all (λ (a : Addend). nat_lt a.at n) chunk

-- a map of the coordinates that are other than 0
abbrev pub dict : Format
dict = record { levels = Dict ∷ []; wrap = Shard; fill = pos 0 }

-- every word is 0
abbrev pub vector_of : ℕ → Building
vector_of n = started dict (n ∷ [])

-- every word of every tensor is 0
abbrev pub zeros : State
zeros t cs = pos 0

-- the word at a coordinate after these events
abbrev pub left : List (List Addend) → List ℕ → ℕ → ℤ
left chunks order at = states order (lists_of chunks) zeros 0 (at ∷ [])
