-- Ranges of entries as the slices of a function, and what one level makes of them.
use Rattle.std.specs.Prelude.{◌≡◌, ◌≢◌, ℕ, ◌+◌, ◌<◌, ◌≤◌, ◌⊎◌, List, [], ◌∷◌, ◌++◌, length, drop, map, slice_index, slice_index_or, ℤ, IsTrue, nat_lt, if◌then◌else◌}
use Rattle.fin_tensor.specs.declared.format.Level.{Level}
use Rattle.fin_tensor.specs.declared.format.Level.TheVariants as level
use Rattle.fin_tensor.specs.declared.part.Part.{Part}
use Rattle.fin_tensor.specs.declared.part.Part.TheVariants as part
use Rattle.fin_tensor.specs.TensorFunction.{is_in_box}
use Rattle.fin_tensor.specs.Canon.{Slice, kept, next, part_of}
use Rattle.fin_canon.specs.declared.entry.Range.{Range}
use Rattle.fin_canon.specs.Entries.{Entry, coords, word_of}

-- the coordinate of an entry at a depth
abbrev pub head_of : List Entry → ℕ → ℕ → ℕ
head_of es d k = slice_index (coords es k) d

abbrev pub range_at : List Range → ℕ → Range
range_at rs j = slice_index_or rs j (record { from = 0; to = 0 })

-- the entries a..b may be read at that depth: their coordinates there lie below the extent and don't fall
pub record Fits (es : List Entry) (d n : ℕ) (r : Range) : Type 0 where
  pub order : r.from ≤ r.to
  pub within : r.to ≤ length es
  pub deep : (k : ℕ) → r.from ≤ k → k < r.to → d < length (coords es k)
  pub below : (k : ℕ) → r.from ≤ k → k < r.to → head_of es d k < n
  pub rise : (j k : ℕ) → r.from ≤ j → j ≤ k → k < r.to → head_of es d j ≤ head_of es d k

-- the coordinates at that depth rise
abbrev pub IsStrict : List Entry → ℕ → Range → Type 0
IsStrict es d r = (j k : ℕ) → r.from ≤ j → j < k → k < r.to → head_of es d j < head_of es d k

-- the entries may be read by a level of that kind: by a runs level where each has a coordinate of its own
pub record FitsLevel (l : Level) (es : List Entry) (d n : ℕ) (r : Range) : Type 0 where
  pub fits : Fits es d n r
  pub strict : l ≡ level.Runs → IsStrict es d r

-- one list of numbers is before another of its length
abbrev pub IsBefore : List ℕ → List ℕ → Type 0
IsBefore [] cs = ⊥
IsBefore (i ∷ is) [] = ⊥
IsBefore (i ∷ is) (j ∷ js) = (i < j) ⊎ ((i ≡ j) × IsBefore is js)

-- the entries a..b, without their first d coordinates, tell the function
pub record Tells (es : List Entry) (fill : ℤ) (ns : List ℕ) (d a b : ℕ) (f : Slice) : Type 0 where
  pub hit : (k : ℕ) → a ≤ k → k < b → f (drop d (coords es k)) ≡ word_of es k
  pub miss : (cs : List ℕ) → ((k : ℕ) → a ≤ k → k < b → drop d (coords es k) ≢ cs) → f cs ≡ fill
  pub inside : (k : ℕ) → a ≤ k → k < b → IsTrue (is_in_box ns (drop d (coords es k)))
  pub before : (j k : ℕ) → a ≤ j → j < k → k < b → IsBefore (drop d (coords es j)) (drop d (coords es k))

-- the range tells the slice
pub record Told (es : List Entry) (fill : ℤ) (ns : List ℕ) (d : ℕ) (f : Slice) (r : Range) : Type 0 where
  pub order : r.from ≤ r.to
  pub within : r.to ≤ length es
  pub tells : Tells es fill ns d r.from r.to f

-- each range tells its slice
abbrev pub AllTold : List Entry → ℤ → List ℕ → ℕ → List Slice → List Range → Type 0
AllTold es fill ns d [] [] = Unit {0}
AllTold es fill ns d (f ∷ fs) (r ∷ rs) = Told es fill ns d f r × AllTold es fill ns d fs rs
AllTold es fill ns d fs rs = ⊥

-- the range holds the entries among a..b with that coordinate, but for some that have the fill
pub record IsCut (es : List Entry) (fill : ℤ) (d a b key : ℕ) (r : Range) : Type 0 where
  pub low : a ≤ r.from
  pub order : r.from ≤ r.to
  pub high : r.to ≤ b
  pub has : (k : ℕ) → a ≤ k → k < b → word_of es k ≢ fill → head_of es d k ≡ key → (r.from ≤ k) × (k < r.to)
  pub all : (k : ℕ) → r.from ≤ k → k < r.to → head_of es d k ≡ key

-- the ranges of the coordinates from i on, m of them, were added
pub record AllCut (es : List Entry) (fill : ℤ) (d a b i m : ℕ) (next next' : List Range) : Type 0 where
  pub rs : List Range
  pub next_is : next' ≡ next ++ rs
  pub long : length rs ≡ m
  pub cut : (j : ℕ) → j < m → IsCut es fill d a b (i + j) (range_at rs j)

-- its first entry has another value than the fill
pub record IsGroup (es : List Entry) (fill : ℤ) (d a b key : ℕ) (r : Range) : Type 0 where
  pub cut : IsCut es fill d a b key r
  pub some : r.from < r.to
  pub other : word_of es r.from ≢ fill

-- the level of that kind and extent keeps these coordinates below the slice of the entries a..b, and the ranges tell
-- their slices
pub record Keeps (l : Level) (es : List Entry) (fill : ℤ) (d n a b : ℕ) (ks : List ℕ) (rs : List Range) : Type 0 where
  pub long : length rs ≡ length ks
  pub kept_are : (ns : List ℕ) (f : Slice) → (l ≡ level.Runs → ns ≡ []) → Tells es fill (n ∷ ns) d a b f → ks ≡ kept l fill n ns f
  pub cut : (j : ℕ) → j < length ks → IsCut es fill d a b (slice_index ks j) (range_at rs j)

-- the numbers that a level's second list has for the kept coordinates of one slice
abbrev pub numbers_for : Level → List ℕ → List ℕ
numbers_for level.Dense ks = []
numbers_for level.List ks = ks
numbers_for level.Dict ks = ks
numbers_for level.Runs ks = map (λ i. i + 1) ks
numbers_for level.Band ks = slice_index ks 0 ∷ []

-- what is kept of one slice was added to both lists
pub record Added (l : Level) (es : List Entry) (fill : ℤ) (d n a b : ℕ) (numbers numbers' : List ℕ) (next next' : List Range) : Type 0 where
  pub ks : List ℕ
  pub rs : List Range
  pub numbers_are : numbers' ≡ numbers ++ numbers_for l ks
  pub next_is : next' ≡ next ++ rs
  pub keeps : Keeps l es fill d n a b ks rs

-- the lists of a level, by its kind
abbrev pub part_by : Level → List ℕ → List ℕ → Part
part_by level.Dense ptr numbers = part.Dense
part_by level.List ptr numbers = part.Keys ptr numbers
part_by level.Dict ptr numbers = part.Keys ptr numbers
part_by level.Runs ptr numbers = part.Runs ptr numbers
part_by level.Band ptr numbers = part.Band ptr numbers

-- the part and the ranges of the next level, whatever functions the ranges tell
abbrev pub MakesLevel : Level → List Entry → ℤ → ℕ → ℕ → List Range → Part → List Range → Type 0
MakesLevel l es fill d n rs p rs' = (ns : List ℕ) (fs : List Slice) → (l ≡ level.Runs → ns ≡ []) → AllTold es fill (n ∷ ns) d fs rs →
    (p ≡ part_of l (kept l fill n ns) fs) × AllTold es fill ns (d + 1) (next (kept l fill n ns) fs) rs'

-- the value of a range without coordinates
abbrev pub value_of : List Entry → ℤ → Range → ℤ
value_of es fill r = if nat_lt r.from r.to then word_of es r.from else fill
