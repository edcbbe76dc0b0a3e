-- Lists of which one element changed, or which are one longer.
use Rattle.std.proofs.Common.{◌≡◌, ℕ, zero, suc, ◌<◌, ◌≢◌, List, [], ◌∷◌, ◌++◌, length, set, sym, refl, ap, subst, ⊎_elim, arith}
use Rattle.std.specs.Prelude.{slice_index}
use mathlib.Core.Option.{some, some-injective, some-ne-none}
use lib.ListN.{get_elem?}
use Rattle.atomic_table.proofs.Lists.{at_set, at_snoc}

-- a fact of each element, after one of them changed
pub each_set : {V : Type 0} (P : V → Type 0) (l : List V) (id : ℕ) (w : V) → ((j : ℕ) (u : V) → j ≢ id → get_elem? l j ≡ some u → P u) → P w → (j : ℕ) (u : V) → get_elem? (set l id w) j ≡ some u → P u
each_set P l id w others mine j u e = ⊎_elim (λ (t : (j ≡ id) × (w ≡ u)). subst P t.1 mine) (λ (t : (j ≢ id) × (get_elem? l j ≡ some u)). others j u t.0 t.1) (at_set l id j w u e)

-- and after one more came
pub each_more : {V : Type 0} (P : V → Type 0) (l : List V) (w : V) → ((j : ℕ) (u : V) → get_elem? l j ≡ some u → P u) → P w → (j : ℕ) (u : V) → get_elem? (l ++ w ∷ []) j ≡ some u → P u
each_more P l w others mine j u e = ⊎_elim (others j u) (λ (same : w ≡ u). subst P same mine) (at_snoc l w u j e)

-- of a list of one
pub each_one : {V : Type 0} (P : V → Type 0) (w : V) → P w → (j : ℕ) (u : V) → get_elem? (w ∷ []) j ≡ some u → P u
each_one P w mine zero u e = subst P (some-injective _ _ e) mine
each_one P w mine (suc j) u e = absurd (some-ne-none u (sym e))

-- an element that another place's change has left
pub was_there : {V : Type 0} (l : List V) (id other : ℕ) (both w : V) → other ≢ id → get_elem? (set l id both) other ≡ some w → get_elem? l other ≡ some w
was_there l id other both w apart there = ⊎_elim (λ (t : (other ≡ id) × (both ≡ w)). absurd (apart t.0)) (λ (t : (other ≢ id) × (get_elem? l other ≡ some w)). t.1) (at_set l id other both w there)

pub at-lt : {V : Type 0} (l : List V) (i : ℕ) (w : V) → get_elem? l i ≡ some w → i < length l
at-lt [] i w e = absurd (some-ne-none w (sym e))
at-lt (x ∷ xs) zero w e = omega arith
at-lt (x ∷ xs) (suc i) w e = let h = at-lt xs i w e in omega arith

pub set_swap : {V : Type 0} (l : List V) (i j : ℕ) (a b : V) → j ≢ i → set (set l i a) j b ≡ set (set l j b) i a
set_swap [] i j a b n = refl
set_swap (x ∷ xs) zero zero a b n = absurd (n refl)
set_swap (x ∷ xs) zero (suc j) a b n = refl
set_swap (x ∷ xs) (suc i) zero a b n = refl
set_swap (x ∷ xs) (suc i) (suc j) a b n = ap (λ l. x ∷ l) (set_swap xs i j a b (λ e. n (ap suc e)))

-- the word that was read
pub word_is : (l : List ℕ) (k a : ℕ) → get_elem? l k ≡ some a → slice_index l k ≡ a
word_is [] k a e = absurd (some-ne-none a (sym e))
word_is (x ∷ xs) zero a e = some-injective x a e
word_is (x ∷ xs) (suc k) a e = word_is xs k a e
