-- Where levels may stand, and which decoration fits them.
use Rattle.std.specs.Prelude.{◌≢◌, ℕ, ◌+◌, ◌<◌, ◌≤◌, IsTrue, Bool, true, false, List, length, slice_index_or}
use Rattle.std.specs.List.{list_all}
use Rattle.fin_tensor.specs.declared.format.Level.{Level}
use Rattle.fin_tensor.specs.declared.format.Level.TheVariants.{Dense, List as SortedList, Runs, Band, Dict}
use Rattle.fin_tensor.specs.declared.format.Wrap.{Wrap}
use Rattle.fin_tensor.specs.declared.format.Wrap.TheVariants.{Bare, Atomic, Mutex, Shard}

abbrev pub is_dense : Level → Bool
is_dense Dense = true
is_dense SortedList = false
is_dense Runs = false
is_dense Band = false
is_dense Dict = false

abbrev pub is_dense_or_dict : Level → Bool
is_dense_or_dict Dense = true
is_dense_or_dict SortedList = false
is_dense_or_dict Runs = false
is_dense_or_dict Band = false
is_dense_or_dict Dict = true

-- runs stand directly before the elements
abbrev pub RunsStandLast : List Level → Type 0
RunsStandLast ls = (k : ℕ) → k + 1 < length ls → slice_index_or ls k Dense ≢ Runs

-- the decoration fits the levels: words and locks need every level dense, parts need each dense or dict
abbrev pub Fits : Wrap → List Level → Type 0
Fits Bare ls = Unit {0}
Fits Atomic ls = IsTrue (list_all is_dense ls)
Fits (Mutex before) ls = (before ≤ length ls) × IsTrue (list_all is_dense ls)
Fits Shard ls = IsTrue (list_all is_dense_or_dict ls)

-- the placement that each format keeps
pub record IsPlaced (levels : List Level) (wrap : Wrap) : Type 0 where
  pub few : length levels ≤ 8
  pub runs : RunsStandLast levels
  pub fits : Fits wrap levels

-- there is no decoration
abbrev pub IsBare : Wrap → Type 0
IsBare Bare = Unit {0}
IsBare Atomic = ⊥
IsBare (Mutex before) = ⊥
IsBare Shard = ⊥

-- the placement that a header's format keeps: an input has no decoration
abbrev pub IsPlacedAs : Bool → List Level → Wrap → Type 0
IsPlacedAs input levels wrap = IsPlaced levels wrap × (IsTrue input → IsBare wrap)
