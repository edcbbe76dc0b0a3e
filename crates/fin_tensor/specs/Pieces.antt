-- What a loop along one fibre meets: where the fibre breaks, where it varies, how many places it has.
use Rattle.std.specs.Prelude.{◌≡◌, ◌⊎◌, ◌↔◌, ℕ, ◌+◌, ◌-◌, ◌<◌, ◌≤◌, Bool, true, false, ◌&&◌, ◌||◌, nat_eq, nat_lt, is_some, List, length, slice_index}
use Rattle.std.specs.List.{filter, range_with_len}
use Rattle.fin_tensor.specs.declared.part.Part.{Part}
use Rattle.fin_tensor.specs.declared.part.Part.TheVariants as part
use Rattle.fin_tensor.specs.Levels.{IsAt, key_in, block_in}

-- a loop walks along a fibre by what is stored there, or follows it coordinate by coordinate
pub data Course : Type 0 where
  walked : Course
  followed : Course

-- one of the places from..to holds the number
abbrev pub HoldsNumber : List ℕ → ℕ → ℕ → ℕ → Type 0
HoldsNumber xs from to x = (q : ℕ) × (from ≤ q) × (q < to) × (slice_index xs q ≡ x)

-- Where the fibre at a position breaks: at each stored coordinate of a list or dict and behind it, at each stop of runs, at
-- both ends of a block that isn't empty.
abbrev pub IsBreak : Course → Part → ℕ → ℕ → Type 0
IsBreak walked part.Dense p x = ⊥
IsBreak walked (part.Keys ptr idx) p x = (k : ℕ) × HoldsNumber idx (slice_index ptr p) (slice_index ptr (p + 1)) k × ((x ≡ k) ⊎ (x ≡ k + 1))
IsBreak walked (part.Runs ptr stop) p x = HoldsNumber stop (slice_index ptr p) (slice_index ptr (p + 1)) x
IsBreak walked (part.Band ptr start) p x =
    (slice_index ptr p < slice_index ptr (p + 1)) × ((x ≡ slice_index start p) ⊎ (x ≡ slice_index start p + (slice_index ptr (p + 1) - slice_index ptr p)))
IsBreak followed part p x = ⊥

-- the same as a test: a part of the fibre ends after a coordinate where there is a break at the next one
abbrev pub holds_number : List ℕ → ℕ → ℕ → ℕ → Bool
holds_number xs from to x = is_some (key_in xs from to x)

abbrev pub ends_after : Course → Part → ℕ → ℕ → Bool
ends_after walked part.Dense p i = false
ends_after walked (part.Keys ptr idx) p i =
    holds_number idx (slice_index ptr p) (slice_index ptr (p + 1)) i || holds_number idx (slice_index ptr p) (slice_index ptr (p + 1)) (i + 1)
ends_after walked (part.Runs ptr stop) p i = holds_number stop (slice_index ptr p) (slice_index ptr (p + 1)) (i + 1)
ends_after walked (part.Band ptr start) p i =
    nat_lt (slice_index ptr p) (slice_index ptr (p + 1)) && (nat_eq (i + 1) (slice_index start p) || nat_eq (i + 1) (slice_index start p + (slice_index ptr (p + 1) - slice_index ptr p)))
ends_after followed part p i = false

-- between two breaks a fibre has one value, or none, or varies: in a block, and wherever it isn't told by parts
abbrev pub varies_at : Course → Part → ℕ → ℕ → Bool
varies_at walked part.Dense p i = true
varies_at walked (part.Keys ptr idx) p i = false
varies_at walked (part.Runs ptr stop) p i = false
varies_at walked (part.Band ptr start) p i = is_some (block_in (slice_index ptr p) (slice_index ptr (p + 1)) (slice_index start p) i)
varies_at followed part p i = true

-- the stored length: the places of a list, dict or runs fibre, whether a loop reaches them or not
abbrev pub stored_length : Course → Part → ℕ → ℕ
stored_length walked part.Dense p = 0
stored_length walked (part.Keys ptr idx) p = slice_index ptr (p + 1) - slice_index ptr p
stored_length walked (part.Runs ptr stop) p = slice_index ptr (p + 1) - slice_index ptr p
stored_length walked (part.Band ptr start) p = 0
stored_length followed part p = 0

-- the test tells the breaks
abbrev pub EndsAreBreaks : Type 0
EndsAreBreaks = (course : Course) (n : ℕ) (part : Part) (p i : ℕ) → IsAt n part p → (ends_after course part p i ≡ true) ↔ IsBreak course part p (i + 1)

-- of some coordinates, at most so many are stored as there are places
abbrev pub StoredAreFew : Type 0
StoredAreFew = (xs : List ℕ) (from to shift a m : ℕ) → from ≤ to → length (filter (λ i. holds_number xs from to (i + shift)) (range_with_len a m)) ≤ to - from
