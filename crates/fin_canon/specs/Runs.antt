-- Runs of equal values in a slice of one dimension.
use Rattle.std.specs.Prelude.{◌≡◌, ◌≢◌, ℕ, ◌-◌, ◌<◌, ◌≤◌, List, [], ◌∷◌, ℤ, Option, Some, None, nat_lt, nat_eq, ◌&&◌, if◌then◌else◌}
use Rattle.fin_tensor.specs.Levels.{below}
use Rattle.fin_tensor.specs.Canon.{Slice}
use Rattle.fin_canon.specs.declared.runs.Spot.{Spot}
use Rattle.fin_canon.specs.declared.runs.Run.{Run}
use Rattle.fin_canon.specs.Entries.{Entry, word_of}
use Rattle.fin_canon.specs.Ranges.{head_of, IsCut, Tells}

-- the entries a..b before that entry lie before the coordinate, and no other does
pub record IsSplit (es : List Entry) (d a b : ℕ) (s : Spot) : Type 0 where
  pub low : a ≤ s.entry
  pub high : s.entry ≤ b
  pub before : (k : ℕ) → a ≤ k → k < s.entry → head_of es d k < s.at
  pub after : (k : ℕ) → s.entry ≤ k → k < b → s.at ≤ head_of es d k

-- the entry at that coordinate, and the value there
abbrev pub found_in : List Entry → ℕ → ℕ → Spot → Option ℕ
found_in es d b s = if nat_lt s.entry b && nat_eq (head_of es d s.entry) s.at then Some s.entry else None

abbrev pub value_in : List Entry → ℤ → ℕ → ℕ → Spot → ℤ
value_in es fill d b s = below (found_in es d b s) (word_of es) fill

-- the coordinates from there up to the end have one value
pub record IsStep (es : List Entry) (fill : ℤ) (d n a b : ℕ) (s : Spot) (r : Run) : Type 0 where
  pub low : s.at < r.end.at
  pub high : r.end.at ≤ n
  pub split : IsSplit es d a b r.end
  pub last : IsCut es fill d a b (r.end.at - 1) (record { from = r.last; to = r.end.entry })
  pub same : (f : Slice) → Tells es fill (n ∷ []) d a b f → (i : ℕ) → s.at ≤ i → i < r.end.at → f (i ∷ []) ≡ value_in es fill d b s

-- they have, and the next one has another
pub record IsRun (es : List Entry) (fill : ℤ) (d n a b : ℕ) (s : Spot) (r : Run) : Type 0 where
  pub step : IsStep es fill d n a b s r
  pub ends : (f : Slice) → Tells es fill (n ∷ []) d a b f → r.end.at < n → f (r.end.at ∷ []) ≢ value_in es fill d b s
