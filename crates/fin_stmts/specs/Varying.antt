-- Whether a read varies along a nest of runs and lookups, by its looplets.
use Rattle.std.specs.Prelude.{ℕ, Bool, true, false, ◌&&◌, ◌||◌, nat_eq, List, [], ◌∷◌, Option, Some, None}
use Rattle.fin_looplet.specs.declared.looplet.Looplet.{Looplet}
use Rattle.fin_looplet.specs.declared.looplet.Looplet.TheVariants.{Lookup}
use Rattle.fin_nest.specs.declared.entries.Numbered.{Numbered}

abbrev pub is_var : ℕ → Option ℕ → Bool
is_var var None = false
is_var var (Some one) = nat_eq one var

abbrev pub is_lookup : Looplet → Bool
is_lookup (Lookup coord leaf) = true
is_lookup _ = false

-- a read of the nest, if it has that number and the loop drives it
abbrev pub varies_here : Bool → Numbered → ℕ → Bool
varies_here d e k = d && nat_eq e.number k && is_lookup e.looplet

-- the reads with that number
abbrev pub varies_at : List Bool → List Numbered → ℕ → Bool
varies_at [] es k = false
varies_at (d ∷ ds) [] k = false
varies_at (d ∷ ds) (e ∷ es) k = varies_here d e k || varies_at ds es k
