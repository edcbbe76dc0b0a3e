-- Levels that are filled in order.
use Rattle.std.specs.Prelude.{ℕ, zero, ◌+◌, Bool, true, false, if◌then◌else◌, List, [], ◌∷◌}
use Rattle.fin_tensor.specs.declared.format.Level.{Level}
use Rattle.fin_tensor.specs.declared.format.Level.TheVariants.{Dense, List as SortedList, Runs, Band, Dict}

-- a level that is filled in order
abbrev pub is_ordered : Level → Bool
is_ordered Dense = false
is_ordered SortedList = true
is_ordered Runs = true
is_ordered Band = true
is_ordered Dict = false

-- the number of levels down to the deepest ordered one, of those from n on
abbrev pub ordered_from : ℕ → List Level → ℕ → ℕ
ordered_from n [] deepest = deepest
ordered_from n (l ∷ ls) deepest = ordered_from (n + 1) ls (if is_ordered l then n + 1 else deepest)

abbrev pub ordered_levels : List Level → ℕ
ordered_levels ls = ordered_from zero ls zero
