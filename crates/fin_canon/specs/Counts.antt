-- How many prefixes a canonical storage keeps.
use Rattle.std.specs.Prelude.{◌≡◌, ℕ, zero, suc, ◌+◌, ◌*◌, List, [], ◌∷◌, min, ℤ}
use Rattle.fin_tensor.specs.declared.format.Level.{Level}
use Rattle.fin_tensor.specs.declared.format.Level.TheVariants as level
use Rattle.fin_tensor.specs.Canon.{Slice, slice_at, kept}
use Rattle.fin_canon.specs.declared.entry.Range.{Range}
use Rattle.fin_canon.specs.Entries.{Entry}
use Rattle.fin_canon.specs.Ranges.{Told}

abbrev pub total : (ℕ → ℕ) → List ℕ → ℕ
total T [] = 0
total T (i ∷ is) = T i + total T is

-- the kept prefixes with k further coordinates
abbrev pub count : List Level → ℤ → List ℕ → ℕ → Slice → ℕ
count ls fill ns zero f = 1
count (l ∷ ls) fill (n ∷ ns) (suc k) f = total (λ i. count ls fill ns k (slice_at f i)) (kept l fill n ns f)
count ls fill ns (suc k) f = 0

-- how many coordinates a level keeps of a slice that is the fill everywhere
abbrev pub empty_kept : Level → ℕ → ℕ
empty_kept level.Dense n = n
empty_kept level.Runs n = min n 1
empty_kept level.List n = 0
empty_kept level.Dict n = 0
empty_kept level.Band n = 0

-- the prefixes kept of such a slice
abbrev pub empty_count : List Level → List ℕ → ℕ → ℕ
empty_count ls ns zero = 1
empty_count (l ∷ ls) (n ∷ ns) (suc k) = empty_kept l n * empty_count ls ns k
empty_count ls ns (suc k) = 0

-- the range tells some function
abbrev pub CanTell : List Entry → ℤ → List ℕ → ℕ → Range → Type 0
CanTell es fill ns d r = (f : Slice) × Told es fill ns d f r

-- the number is the count of each function that the range tells, as far as the limit of 2^40 + 1
abbrev pub Counts : List Entry → List Level → ℤ → List ℕ → ℕ → Range → ℕ → ℕ → Type 0
Counts es ls fill ns d r k c = (f : Slice) → Told es fill ns d f r → c ≡ min 1099511627777 (count ls fill ns k f)
