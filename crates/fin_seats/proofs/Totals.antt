-- Sums over a list, after one element changed.
use Rattle.std.proofs.Common.{◌≡◌, ℕ, zero, suc, ◌+◌, ◌≤◌, ◌≢◌, List, [], ◌∷◌, ◌++◌, set, sym, refl, ap, arith}
use mathlib.Core.Option.{some, some-injective, some-ne-none}
use lib.ListN.{get_elem?}
use Rattle.fin_seats.specs.Counts.{total}

module _ {V : Type 0} (f : V → ℕ) where
  pub total-set : (l : List V) (i : ℕ) (v w : V) → get_elem? l i ≡ some v → total f (set l i w) + f v ≡ total f l + f w
  total-set [] i v w e = absurd (some-ne-none v (sym e))
  total-set (x ∷ xs) zero v w e = let is : f x ≡ f v = ap f (some-injective x v e) in omega arith
  total-set (x ∷ xs) (suc i) v w e = let r = total-set xs i v w e in omega arith

  pub total-append : (l m : List V) → total f (l ++ m) ≡ total f l + total f m
  total-append [] m = omega arith
  total-append (x ∷ xs) m = let r = total-append xs m in omega arith

  pub total-at : (l : List V) (i : ℕ) (v : V) → get_elem? l i ≡ some v → f v ≤ total f l
  total-at [] i v e = absurd (some-ne-none v (sym e))
  total-at (x ∷ xs) zero v e = let is : f x ≡ f v = ap f (some-injective x v e) in omega arith
  total-at (x ∷ xs) (suc i) v e = let r = total-at xs i v e in omega arith

  pub total-two : (l : List V) (i j : ℕ) (v w : V) → j ≢ i → get_elem? l i ≡ some v → get_elem? l j ≡ some w → f v + f w ≤ total f l
  total-two [] i j v w n e d = absurd (some-ne-none v (sym e))
  total-two (x ∷ xs) zero zero v w n e d = absurd (n refl)
  total-two (x ∷ xs) zero (suc j) v w n e d = let is : f x ≡ f v = ap f (some-injective x v e) in let r = total-at xs j w d in omega arith
  total-two (x ∷ xs) (suc i) zero v w n e d = let is : f x ≡ f w = ap f (some-injective x w d) in let r = total-at xs i v e in omega arith
  total-two (x ∷ xs) (suc i) (suc j) v w n e d = let r = total-two xs i j v w (λ h. n (ap suc h)) e d in omega arith

  pub total-none : (l : List V) → ((j : ℕ) (w : V) → get_elem? l j ≡ some w → f w ≡ 0) → total f l ≡ 0
  total-none [] n = refl
  total-none (x ∷ xs) n = let a : f x ≡ 0 = n 0 x refl in let r = total-none xs (λ j w e. n (suc j) w e) in omega arith

  -- where all but one are 0, the sum is that one
  pub total-alone : (l : List V) (i : ℕ) (v : V) → get_elem? l i ≡ some v → ((j : ℕ) (w : V) → j ≢ i → get_elem? l j ≡ some w → f w ≡ 0) → total f l ≡ f v
  total-alone [] i v e n = absurd (some-ne-none v (sym e))
  total-alone (x ∷ xs) zero v e n = let is : f x ≡ f v = ap f (some-injective x v e) in let r = total-none xs (λ j w d. n (suc j) w (λ h. omega arith) d) in omega arith
  total-alone (x ∷ xs) (suc i) v e n = let a : f x ≡ 0 = n 0 x (λ h. omega arith) refl in let r = total-alone xs i v e (λ j w d b. n (suc j) w (λ h. d (omega arith)) b) in omega arith

pub total-le : {V : Type 0} (f g : V → ℕ) (l : List V) → ((j : ℕ) (w : V) → get_elem? l j ≡ some w → f w ≤ g w) → total f l ≤ total g l
total-le f g [] n = omega arith
total-le f g (x ∷ xs) n = let a : f x ≤ g x = n 0 x refl in let r = total-le f g xs (λ j w e. n (suc j) w e) in omega arith
