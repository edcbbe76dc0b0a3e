-- The rule of a counter whose numbers are drawn.
use Rattle.std.specs.Prelude.{◌≡◌, ℕ, ◌+◌, ◌^◌, ◌<◌, ◌≤◌, List, [], ◌∷◌, ◌++◌, All, length, slice_index, cond, eqb, ltb}
use mathlib.Core.Option.{some}
use lib.ListN.{get_elem?}
use Rattle.atomic_table.specs.Table.{State, Me, Step}
use Rattle.fin_seats.specs.declared.views.Standing.{Standing}
use Rattle.fin_seats.specs.Counts as counts
use Rattle.fin_claim.specs.declared.rule.Holding.{Holding}
use Rattle.fin_claim.specs.declared.rule.Limits.{Limits}

abbrev pub is_it : ℕ → ℕ → ℕ
is_it x y = cond (eqb y x) 1 0

-- how often x stands in the list
abbrev pub times : ℕ → List ℕ → ℕ
times x xs = counts.total (is_it x) xs

-- once where x is below n
abbrev pub once_below : ℕ → ℕ → ℕ
once_below x n = cond (ltb x n) 1 0

abbrev pub is_late : ℕ → ℕ → ℕ
is_late m y = cond (ltb y m) 0 1

-- how many of the numbers are at least m
abbrev pub late : ℕ → List ℕ → ℕ
late m xs = counts.total (is_late m) xs

abbrev pub Views : Type 0
Views = State (Unit {0}) Holding

abbrev pub standing : Holding → Standing
standing v = v.standing

abbrev pub opening_view : Limits → Holding
opening_view k = record { standing = counts.opened k.seats; done = 0; numbers = []; limit = k.limit }

abbrev pub spent_view : Holding
spent_view = record { standing = counts.spent; done = 0; numbers = []; limit = 0 }

abbrev pub counted : Holding → Holding
counted v = record v { standing = counts.counted v.standing }

abbrev pub new_view : Holding → Holding
new_view v = record { standing = counts.entered v.standing; done = 0; numbers = []; limit = v.limit }

-- the first seat, once `count` seats were made
abbrev pub dealt : Holding → ℕ → Holding
dealt v count = record { standing = counts.dealt v.standing count; done = 0; numbers = []; limit = v.limit }

-- a seat with another one's seats and numbers behind its own
abbrev pub joined : Holding → Holding → Holding
joined v w = record { standing = counts.united v.standing w.standing; done = v.done + w.done; numbers = v.numbers ++ w.numbers; limit = v.limit }

-- a seat that drew n
abbrev pub drawn : Holding → ℕ → Holding
drawn v n = record v { numbers = v.numbers ++ n ∷ []; done = v.done + is_late v.limit n }

-- what the rule says of one view
pub record IsFair (k : Limits) (v : Holding) : Type 0 where
  pub lates : late k.limit v.numbers ≡ v.done
  pub few : v.done ≤ v.standing.stands
  pub alike : 0 < v.standing.stands → v.limit ≡ k.limit
  pub empty : v.standing.stands ≡ 0 → v.numbers ≡ []

-- The numbers of all views together are those below the word, each once.
pub record IsKept (k : Limits) (s : Views) : Type 0 where
  pub one_word : length s.words ≡ 1
  pub fits : k.limit + k.seats < 2 ^ 63
  pub each_once : (x : ℕ) → counts.total (λ (v : Holding). times x v.numbers) s.views ≡ once_below x (slice_index s.words 0)
  pub counted_are : counts.IsCounted standing k.seats s.views
  pub fair : (i : ℕ) (v : Holding) → get_elem? s.views i ≡ some v → IsFair k v
  pub reach : slice_index s.words 0 ≤ k.limit + counts.total (λ (v : Holding). v.done) s.views

-- what a draw tells: the number found is over each that the seat has, and is now its last
abbrev pub Draws : Step (Unit {0}) → Me (Unit {0}) Holding → ℕ → Me (Unit {0}) Holding → Type 0
Draws st me n after = (after.0 ≡ drawn me.0 n) × (after.1 ≡ me.1) × All (λ y. y < n) me.0.numbers

-- what a load tells: the seat stands for no more seats than there are
abbrev pub Weighs : Step (Unit {0}) → Me (Unit {0}) Holding → ℕ → Me (Unit {0}) Holding → Type 0
Weighs st me n after = (after ≡ me) × (me.0.standing.stands ≤ me.0.standing.seats) × (me.0.done ≤ me.0.standing.stands) × (me.0.standing.seats < 2 ^ 63)
