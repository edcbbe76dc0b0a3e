-- One level of a storage, and all of them.
use Rattle.std.specs.Prelude.{◌≡◌, ℕ, zero, suc, ◌+◌, ◌-◌, ◌*◌, ◌^◌, ◌<◌, ◌≤◌, ◌&&◌, nat_lt, nat_eq, if◌then◌else◌, List, [], ◌∷◌, length, slice_index, slice_index_or, Option, Some, None, ℤ}
use Rattle.fin_tensor.specs.declared.format.Level.{Level}
use Rattle.fin_tensor.specs.declared.format.Level.TheVariants as level
use Rattle.fin_tensor.specs.declared.part.Part.{Part}
use Rattle.fin_tensor.specs.declared.part.Part.TheVariants as part

-- each number is at most 2^40
abbrev pub AreSmall : List ℕ → Type 0
AreSmall xs = (k : ℕ) → k < length xs → slice_index xs k ≤ 2 ^ 40

-- the line `ptr` of a level with that many fibres
pub record IsPtr (fibres : ℕ) (ptr : List ℕ) : Type 0 where
  pub small : AreSmall ptr
  pub long : length ptr ≡ fibres + 1
  pub first : slice_index ptr 0 ≡ 0
  pub rises : (p : ℕ) → p < fibres → slice_index ptr p ≤ slice_index ptr (p + 1)

-- the numbers rise within each fibre
abbrev pub RiseWithin : ℕ → List ℕ → List ℕ → Type 0
RiseWithin fibres ptr xs = (p k : ℕ) → p < fibres → slice_index ptr p ≤ k → k + 1 < slice_index ptr (p + 1) → slice_index xs k < slice_index xs (k + 1)

-- the line `idx`
pub record IsIdx (n fibres : ℕ) (ptr idx : List ℕ) : Type 0 where
  pub small : AreSmall idx
  pub long : length idx ≡ slice_index ptr fibres
  pub rises : RiseWithin fibres ptr idx
  pub below : (k : ℕ) → k < length idx → slice_index idx k < n

-- the line `stop`
pub record IsStop (n fibres : ℕ) (ptr stop : List ℕ) : Type 0 where
  pub small : AreSmall stop
  pub long : length stop ≡ slice_index ptr fibres
  pub rises : RiseWithin fibres ptr stop
  pub first : (k : ℕ) → k < length stop → 0 < slice_index stop k
  pub last : (p : ℕ) → p < fibres → 0 < n → (slice_index ptr p < slice_index ptr (p + 1)) × (slice_index stop (slice_index ptr (p + 1) - 1) ≡ n)
  pub none : n ≡ 0 → length stop ≡ 0

-- the line `start`
pub record IsStart (n fibres : ℕ) (ptr start : List ℕ) : Type 0 where
  pub small : AreSmall start
  pub long : length start ≡ fibres
  pub fits : (p : ℕ) → p < fibres → slice_index start p + slice_index ptr (p + 1) ≤ n + slice_index ptr p

-- the lines of a level with that extent and that many fibres
abbrev pub IsLevel : Level → ℕ → ℕ → Part → Type 0
IsLevel level.Dense n fibres part.Dense = Unit {0}
IsLevel level.List n fibres (part.Keys ptr idx) = IsPtr fibres ptr × IsIdx n fibres ptr idx
IsLevel level.Dict n fibres (part.Keys ptr idx) = IsPtr fibres ptr × IsIdx n fibres ptr idx
IsLevel level.Runs n fibres (part.Runs ptr stop) = IsPtr fibres ptr × IsStop n fibres ptr stop
IsLevel level.Band n fibres (part.Band ptr start) = IsPtr fibres ptr × IsStart n fibres ptr start
IsLevel l n fibres p = ⊥

-- how many fibres the next level has
abbrev pub positions : ℕ → ℕ → Part → ℕ
positions n fibres part.Dense = fibres * n
positions n fibres (part.Keys ptr idx) = slice_index ptr fibres
positions n fibres (part.Runs ptr stop) = slice_index ptr fibres
positions n fibres (part.Band ptr start) = slice_index ptr fibres

-- the levels from one with that many fibres on, and the values
abbrev pub IsStored : ℕ → List Level → List ℕ → List Part → List ℤ → Type 0
IsStored fibres [] [] [] val = (fibres ≤ 2 ^ 40) × (length val ≡ fibres)
IsStored fibres (l ∷ ls) (n ∷ ns) (p ∷ ps) val = (fibres ≤ 2 ^ 40) × (n ≤ 2 ^ 40) × IsLevel l n fibres p × IsStored (positions n fibres p) ls ns ps val
IsStored fibres ls ns ps val = ⊥

-- how many fibres level k has
abbrev pub fibres : List ℕ → List Part → ℕ → ℕ → ℕ
fibres ns ps count zero = count
fibres (n ∷ ns) (p ∷ ps) count (suc k) = fibres ns ps (positions n count p) k
fibres ns ps count (suc k) = 0

-- the first of the count places from `at` on whose number is the key or more, or the one after them
abbrev pub first_from : List ℕ → ℕ → ℕ → ℕ → ℕ
first_from xs key at zero = at
first_from xs key at (suc count) = if nat_lt (slice_index xs at) key then first_from xs key (at + 1) count else at

-- a part of a list that rises, or stays
pub record IsFibre (xs : List ℕ) (from to : ℕ) : Type 0 where
  pub order : from ≤ to
  pub within : to ≤ length xs
  pub short : to ≤ 2 ^ 40
  pub rises : (j k : ℕ) → from ≤ j → j ≤ k → k < to → slice_index xs j ≤ slice_index xs k

-- the place of the key
abbrev pub key_in : List ℕ → ℕ → ℕ → ℕ → Option ℕ
key_in xs from to key = if nat_lt (first_from xs key from (to - from)) to && nat_eq (slice_index xs (first_from xs key from (to - from))) key then Some (first_from xs key from (to - from)) else None

-- the place of a coordinate in a block
abbrev pub block_in : ℕ → ℕ → ℕ → ℕ → Option ℕ
block_in from to start i = if nat_lt i start then None else (if nat_lt (i - start) (to - from) then Some (from + (i - start)) else None)

-- where a fibre begins and ends
abbrev pub fibre_from : ℕ → Part → ℕ → ℕ
fibre_from n part.Dense pos = pos * n
fibre_from n (part.Keys ptr idx) pos = slice_index ptr pos
fibre_from n (part.Runs ptr stop) pos = slice_index ptr pos
fibre_from n (part.Band ptr start) pos = slice_index ptr pos

abbrev pub fibre_to : ℕ → Part → ℕ → ℕ
fibre_to n part.Dense pos = pos * n + n
fibre_to n (part.Keys ptr idx) pos = slice_index ptr (pos + 1)
fibre_to n (part.Runs ptr stop) pos = slice_index ptr (pos + 1)
fibre_to n (part.Band ptr start) pos = slice_index ptr (pos + 1)

-- the numbers that a search looks through
abbrev pub numbers_of : Part → List ℕ
numbers_of part.Dense = []
numbers_of (part.Keys ptr idx) = idx
numbers_of (part.Runs ptr stop) = stop
numbers_of (part.Band ptr start) = []

-- what the number at the place looked for is at least: a stop is over the key
abbrev pub wanted : Part → ℕ → ℕ
wanted (part.Runs ptr stop) key = key + 1
wanted p key = key

-- the position below a position
abbrev pub child_in : ℕ → Part → ℕ → ℕ → Option ℕ
child_in n part.Dense pos i = Some (pos * n + i)
child_in n (part.Keys ptr idx) pos i = key_in idx (slice_index ptr pos) (slice_index ptr (pos + 1)) i
child_in n (part.Runs ptr stop) pos i = Some (first_from stop (i + 1) (slice_index ptr pos) (slice_index ptr (pos + 1) - slice_index ptr pos))
child_in n (part.Band ptr start) pos i = block_in (slice_index ptr pos) (slice_index ptr (pos + 1)) (slice_index start pos) i

-- what stands at a child, or the fill
abbrev pub below : Option ℕ → (ℕ → ℤ) → ℤ → ℤ
below None f fill = fill
below (Some q) f fill = f q

-- the value at a coordinate list, from a position of the first of these levels on
abbrev pub value_from : List ℕ → List Part → List ℤ → ℤ → ℕ → List ℕ → ℤ
value_from ns [] val fill pos cs = slice_index_or val pos fill
value_from (n ∷ ns) (p ∷ ps) val fill pos (c ∷ cs) = below (child_in n p pos c) (λ q. value_from ns ps val fill q cs) fill
value_from ns (p ∷ ps) val fill pos cs = fill

-- a position of a level
pub record IsAt (n : ℕ) (p : Part) (pos : ℕ) : Type 0 where
  pub kind : Level
  pub count : ℕ
  pub within : pos < count
  pub few : count ≤ 2 ^ 40
  pub small : n ≤ 2 ^ 40
  pub level : IsLevel kind n count p
  pub positions : positions n count p ≤ 2 ^ 40

-- the level has numbers to look through
abbrev pub HasNumbers : Part → Type 0
HasNumbers (part.Keys ptr idx) = Unit {0}
HasNumbers (part.Runs ptr stop) = Unit {0}
HasNumbers p = ⊥

-- from..to lies in one of a level's fibres
pub record LiesInFibre (n count : ℕ) (p : Part) (from to : ℕ) : Type 0 where
  pub numbers : HasNumbers p
  pub pos : ℕ
  pub within : pos < count
  pub low : fibre_from n p pos ≤ from
  pub order : from ≤ to
  pub high : to ≤ fibre_to n p pos
