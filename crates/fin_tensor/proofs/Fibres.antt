-- Fibres and what a search in one finds.
use Rattle.std.proofs.Common.{◌≡◌, ℕ, zero, suc, ◌+◌, ◌-◌, ◌<◌, ◌≤◌, List, length, sym, subst, ⊎_elim, arith}
use Rattle.std.specs.Prelude.{slice_index, nat_lt, true, false}
use Rattle.std.proofs.lemmas.Bool.{cases_lt}
use Rattle.std.proofs.lemmas.Bool.Decides.{nat_tests}
use Rattle.fin_tensor.specs.declared.format.Level.{Level}
use Rattle.fin_tensor.specs.declared.format.Level.TheVariants as level
use Rattle.fin_tensor.specs.declared.part.Part.{Part}
use Rattle.fin_tensor.specs.declared.part.Part.TheVariants as part
use Rattle.fin_tensor.specs.Levels.{IsFibre, first_from, IsPtr, IsIdx, IsStop, IsStart, RiseWithin, IsLevel, IsAt}

-- the place that a search finds is the first one
first_up : (xs : List ℕ) (key at count : ℕ) (r : ℕ) → at ≤ r → r ≤ at + count → ((k : ℕ) → at ≤ k → k < r → slice_index xs k < key) → (r < at + count → key ≤ slice_index xs r) → first_from xs key at count ≡ r
first_up xs key at zero r lo hi before here = omega arith
first_up xs key at (suc count) r lo hi before here =
    ⊎_elim
    (λ lt. let t : nat_lt (slice_index xs at) key ≡ true = (let h : slice_index xs at < key = before at (omega arith) lt in grind (arith, nat_tests)) in
    rw t (first_up xs key (at + 1) count r (omega arith) (omega arith) (λ k a b. before k (omega arith) b) (λ b. here (omega arith))))
    (λ le. let e : at ≡ r = omega arith in
    let t : nat_lt (slice_index xs at) key ≡ false = (let h : key ≤ slice_index xs at = subst (λ (x : ℕ). key ≤ slice_index xs x) (sym e) (here (omega arith)) in grind (arith, nat_tests)) in
    rw t e)
    (cases_lt at r)

pub first_is : (xs : List ℕ) (key from to r : ℕ) → from ≤ r → r ≤ to → ((k : ℕ) → from ≤ k → k < r → slice_index xs k < key) → (r < to → key ≤ slice_index xs r) → first_from xs key from (to - from) ≡ r
first_is xs key from to r lo hi before here = first_up xs key from (to - from) r lo (omega arith) before (λ h. here (omega arith))

-- what the first place is
pub record IsFirst (xs : List ℕ) (key from to r : ℕ) : Type 0 where
  pub low : from ≤ r
  pub high : r ≤ to
  pub before : (k : ℕ) → from ≤ k → k < r → slice_index xs k < key
  pub here : r < to → key ≤ slice_index xs r

step_past : (xs : List ℕ) (key at count r : ℕ) → slice_index xs at < key → IsFirst xs key (at + 1) (at + 1 + count) r → IsFirst xs key at (at + suc count) r
step_past xs key at count r lt rest = record {
  low = omega (arith, rest.low);
  high = omega (arith, rest.high);
  before = λ k a b. ⊎_elim (λ (l : at < k). rest.before k (omega arith) b) (λ (l : k ≤ at). let e : at ≡ k = omega arith in subst (λ (x : ℕ). slice_index xs x < key) e lt) (cases_lt at k);
  here = λ h. rest.here (omega arith);
}

step_here : (xs : List ℕ) (key at count : ℕ) → key ≤ slice_index xs at → IsFirst xs key at (at + suc count) at
step_here xs key at count le = record { low = omega arith; high = omega arith; before = λ k a b. absurd (omega arith); here = λ h. le }

first_down : (xs : List ℕ) (key at count : ℕ) → IsFirst xs key at (at + count) (first_from xs key at count)
first_down xs key at zero = record { low = omega arith; high = omega arith; before = λ k a b. absurd (omega arith); here = λ h. absurd (omega arith) }
first_down xs key at (suc count) =
    ⊎_elim
    (λ (lt : slice_index xs at < key). let t : nat_lt (slice_index xs at) key ≡ true = grind (arith, nat_tests) in
    rw t (step_past xs key at count (first_from xs key (at + 1) count) lt (first_down xs key (at + 1) count)))
    (λ (le : key ≤ slice_index xs at). let t : nat_lt (slice_index xs at) key ≡ false = grind (arith, nat_tests) in
    rw t (step_here xs key at count le))
    (cases_lt (slice_index xs at) key)

pub first_place : (xs : List ℕ) (key from to : ℕ) → from ≤ to → IsFirst xs key from to (first_from xs key from (to - from))
first_place xs key from to h =
    let e : from + (to - from) ≡ to = omega arith in
    subst (λ (x : ℕ). IsFirst xs key from x (first_from xs key from (to - from))) e (first_down xs key from (to - from))

-- the last of the fibres ends at the end
pub rises_by : (ptr : List ℕ) (count p d : ℕ) → ((q : ℕ) → q < count → slice_index ptr q ≤ slice_index ptr (q + 1)) → p + d ≤ count → slice_index ptr p ≤ slice_index ptr (p + d)
rises_by ptr count p zero h le = let e : p ≡ p + 0 = omega arith in subst (λ (x : ℕ). slice_index ptr p ≤ slice_index ptr x) e (omega arith)
rises_by ptr count p (suc d) h le =
    let e : (p + d) + 1 ≡ p + suc d = omega arith in
    let a = rises_by ptr count p d h (omega arith) in
    let b = h (p + d) (omega arith) in
    subst (λ (x : ℕ). slice_index ptr p ≤ slice_index ptr x) e (omega arith)

pub ptr_rises : (count : ℕ) (ptr : List ℕ) → IsPtr count ptr → (p q : ℕ) → p ≤ q → q ≤ count → slice_index ptr p ≤ slice_index ptr q
ptr_rises count ptr h p q a b =
    let e : p + (q - p) ≡ q = omega arith in
    subst (λ (x : ℕ). slice_index ptr p ≤ slice_index ptr x) e (rises_by ptr count p (q - p) h.rises (omega arith))

-- the places of one fibre rise
steps_by : (xs : List ℕ) (from to j d : ℕ) → ((k : ℕ) → from ≤ k → k + 1 < to → slice_index xs k < slice_index xs (k + 1)) → from ≤ j → j + d < to → slice_index xs j + d ≤ slice_index xs (j + d)
steps_by xs from to j zero h lo hi = let e : j ≡ j + 0 = omega arith in subst (λ (x : ℕ). slice_index xs j + 0 ≤ slice_index xs x) e (omega arith)
steps_by xs from to j (suc d) h lo hi =
    let e : (j + d) + 1 ≡ j + suc d = omega arith in
    let a = steps_by xs from to j d h lo (omega arith) in
    let b = h (j + d) (omega arith) (omega arith) in
    subst (λ (x : ℕ). slice_index xs j + suc d ≤ slice_index xs x) e (omega arith)

pub fibre_rises : (xs : List ℕ) (from to : ℕ) → ((k : ℕ) → from ≤ k → k + 1 < to → slice_index xs k < slice_index xs (k + 1)) → (j k : ℕ) → from ≤ j → j ≤ k → k < to → slice_index xs j + (k - j) ≤ slice_index xs k
fibre_rises xs from to h j k a b c =
    let e : j + (k - j) ≡ k = omega arith in
    subst (λ (x : ℕ). slice_index xs j + (k - j) ≤ slice_index xs x) e (steps_by xs from to j (k - j) h a (omega arith))

pub fibre_of_level : (count : ℕ) (ptr xs : List ℕ) (pos : ℕ) → IsPtr count ptr → length xs ≡ slice_index ptr count → RiseWithin count ptr xs → pos < count → IsFibre xs (slice_index ptr pos) (slice_index ptr (pos + 1))
fibre_of_level count ptr xs pos p long rises h = record {
  order = p.rises pos h;
  within = omega (arith, ptr_rises count ptr p (pos + 1) count (omega arith) (omega arith));
  short = p.small (pos + 1) (omega (arith, p.long));
  rises = λ j k a b c. omega (arith, fibre_rises xs (slice_index ptr pos) (slice_index ptr (pos + 1)) (λ m lo hi. rises pos m h lo hi) j k a b c);
}

-- ---- a position of a level
pub level_keys : (l : Level) (n count : ℕ) (ptr idx : List ℕ) → IsLevel l n count (part.Keys ptr idx) → IsPtr count ptr × IsIdx n count ptr idx
level_keys level.Dense n count ptr idx h = absurd h
level_keys level.List n count ptr idx h = h
level_keys level.Runs n count ptr idx h = absurd h
level_keys level.Band n count ptr idx h = absurd h
level_keys level.Dict n count ptr idx h = h

pub level_runs : (l : Level) (n count : ℕ) (ptr stop : List ℕ) → IsLevel l n count (part.Runs ptr stop) → IsPtr count ptr × IsStop n count ptr stop
level_runs level.Dense n count ptr stop h = absurd h
level_runs level.List n count ptr stop h = absurd h
level_runs level.Runs n count ptr stop h = h
level_runs level.Band n count ptr stop h = absurd h
level_runs level.Dict n count ptr stop h = absurd h

pub level_band : (l : Level) (n count : ℕ) (ptr start : List ℕ) → IsLevel l n count (part.Band ptr start) → IsPtr count ptr × IsStart n count ptr start
level_band level.Dense n count ptr start h = absurd h
level_band level.List n count ptr start h = absurd h
level_band level.Runs n count ptr start h = absurd h
level_band level.Band n count ptr start h = h
level_band level.Dict n count ptr start h = absurd h

pub at_keys : (n : ℕ) (p : Part) (pos : ℕ) (ptr idx : List ℕ) → IsAt n p pos → p ≡ part.Keys ptr idx → IsFibre idx (slice_index ptr pos) (slice_index ptr (pos + 1))
at_keys n p pos ptr idx at e =
    let both = level_keys at.kind n at.count ptr idx (subst (λ (x : Part). IsLevel at.kind n at.count x) e at.level) in
    fibre_of_level at.count ptr idx pos both.0 both.1.long both.1.rises at.within

pub at_runs : (n : ℕ) (p : Part) (pos : ℕ) (ptr stop : List ℕ) → IsAt n p pos → p ≡ part.Runs ptr stop → IsFibre stop (slice_index ptr pos) (slice_index ptr (pos + 1))
at_runs n p pos ptr stop at e =
    let both = level_runs at.kind n at.count ptr stop (subst (λ (x : Part). IsLevel at.kind n at.count x) e at.level) in
    fibre_of_level at.count ptr stop pos both.0 both.1.long both.1.rises at.within

pub same_fibre : (xs ys : List ℕ) (from from' to to' : ℕ) → xs ≡ ys → from ≡ from' → to ≡ to' → IsFibre ys from' to' → IsFibre xs from to
same_fibre xs ys from from' to to' a b c h =
    subst (λ (zs : List ℕ). IsFibre zs from to) (sym a) (subst (λ (x : ℕ). IsFibre ys x to) (sym b) (subst (λ (x : ℕ). IsFibre ys from' x) (sym c) h))
