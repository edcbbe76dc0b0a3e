-- That a gap which is seen in a storage has the fill.
use Rattle.std.specs.Prelude.{◌≡◌, ◌≤◌, ℕ, true, ℤ, pos, List, map, length, Option, Some, None, slice_set, slice_index_or}
use Rattle.fin_tensor.specs.declared.part.Part.{Part}
use Rattle.fin_tensor.specs.Levels.{value_from}
use Rattle.fin_ast.specs.declared.tree.Index.{Index}
use Rattle.fin_ast.specs.Value.{Numbers, number, place, coordinates}
use Rattle.fin_simp.specs.Sights.{driven_index, stand_at, sight_at}

-- the levels of a tensor and its values
pub record Stored : Type 0 where
  pub shape : List ℕ
  pub parts : List Part
  pub val : List ℤ
  pub fill : ℤ
  pub matching : length shape ≡ length parts

-- what an access gives from a position of the first level on: the fill outside the box
abbrev pub value_from_at : List ℕ → List Part → List ℤ → ℤ → ℕ → Option (List ℕ) → ℤ
value_from_at ns ps val fill q None = fill
value_from_at ns ps val fill q (Some cs) = value_from ns ps val fill q cs

abbrev pub access_gives : Stored → Numbers → List Index → ℤ
access_gives s vars at = value_from_at s.shape s.parts s.val s.fill 0 (coordinates s.shape (map (place vars) at))

-- numbers that are the same up to a variable and at it; what is bound inside is numbered behind it
abbrev pub SameUpTo : ℕ → Numbers → Numbers → Type 0
SameUpTo var vars later = (k : ℕ) → k ≤ var → number later k ≡ number vars k

-- where an index that a loop drives sees a gap at a coordinate, from where it stands at the loop's entry, the access gives
-- the fill at that coordinate, whatever is bound inside the loop
abbrev pub GapsHaveFill : Type 0
GapsHaveFill = (s : Stored) (vars later : Numbers) (var c : ℕ) (at : List Index) (d : ℕ × Index) → SameUpTo var (slice_set vars var (pos c)) later → driven_index var at ≡ Some d
    → (sight_at d.1 (slice_index_or s.shape d.0 0) (stand_at vars s.shape s.parts at d.0 (Some 0)) (place (slice_set vars var (pos c)) d.1)).gap ≡ true
    → access_gives s later at ≡ s.fill
