-- How the views of a table share out its seats.
use Rattle.std.specs.Prelude.{◌≡◌, ℕ, ◌+◌, ◌<◌, ◌≤◌, ◌⊎◌, List, [], ◌∷◌}
use mathlib.Core.Option.{some}
use lib.ListN.{get_elem?}
use Rattle.fin_seats.specs.declared.views.Standing.{Standing}

-- a number of each, added up
abbrev pub total : {V : Type 0} → (V → ℕ) → List V → ℕ
total f [] = 0
total f (v ∷ vs) = f v + total f vs

-- the first seat, by itself
abbrev pub opened : ℕ → Standing
opened seats = record { count = 1; stands = 1; seats = seats }

-- a seat that was joined into another one
abbrev pub spent : Standing
spent = record { count = 0; stands = 0; seats = 0 }

-- the first seat, once one more was split from it
abbrev pub counted : Standing → Standing
counted v = record v { count = v.count + 1 }

-- the seat that was split from it
abbrev pub entered : Standing → Standing
entered v = record { count = 0; stands = 1; seats = v.seats }

-- the first seat, once `count` seats were made
abbrev pub dealt : Standing → ℕ → Standing
dealt v count = record { count = count; stands = 1; seats = v.seats }

-- a seat, once another one was joined into it
abbrev pub united : Standing → Standing → Standing
united v w = record { count = v.count + w.count; stands = v.stands + w.stands; seats = v.seats }

module _ {V : Type 0} (of : V → Standing) where
  -- how many seats were made
  abbrev pub made : List V → ℕ
  made vs = total (λ (v : V). (of v).count) vs

  -- for how many seats the views stand
  abbrev pub stood : List V → ℕ
  stood vs = total (λ (v : V). (of v).stands) vs

  -- One view has the count of the seats made, and the others have 0. It is what the unspent views stand for, added up,
  -- and at most what was allowed.
  pub record IsCounted (seats : ℕ) (vs : List V) : Type 0 where
    pub stood_is : stood vs ≡ made vs
    pub room : made vs ≤ seats
    pub single : (i : ℕ) (v : V) → get_elem? vs i ≡ some v → ((of v).count ≡ 0) ⊎ ((of v).count ≡ made vs)
    pub alike : (i : ℕ) (v : V) → get_elem? vs i ≡ some v → 0 < (of v).stands → (of v).seats ≡ seats
    pub unspent : (i : ℕ) (v : V) → get_elem? vs i ≡ some v → (of v).stands ≡ 0 → (of v).count ≡ 0
