-- How many numbers of a range pass a test.
use Rattle.std.proofs.Common.{◌≡◌, ⊎_elim, ℕ, zero, suc, ◌+◌, ◌-◌, ◌<◌, ◌≤◌, ℤ, pos, negsuc, ◌-ℤ◌, Bool, true, false, T, cond, List, ◌∷◌, length, refl, sym, ap, ◌∙◌, arith, subst}
use Rattle.std.specs.List.{filter, range_with_len}
use Rattle.std.proofs.lemmas.Bool.{cases_lt}
use borrow.Author.Differences.{up, down}
use Rattle.fin_unfurl.proofs.Counts.{filter_at_most, filter_none}
use Rattle.fin_unfurl.proofs.Edges.{sub_of}

cond_longer : (b c : Bool) (x y : ℕ) (xs ys : List ℕ) → (b ≡ true → c ≡ true) → length xs ≤ length ys → length (cond b (x ∷ xs) xs) ≤ length (cond c (y ∷ ys) ys)
cond_longer true true x y xs ys h le = omega arith
cond_longer true false x y xs ys h le = absurd (subst T (sym (h refl)) tt)
cond_longer false true x y xs ys h le = omega arith
cond_longer false false x y xs ys h le = le

-- a weaker test along another range passes as many
pub moved_at_most : (p q : ℕ → Bool) (a b m : ℕ) → ((i : ℕ) → i < m → p (a + i) ≡ true → q (b + i) ≡ true) → length (filter p (range_with_len a m)) ≤ length (filter q (range_with_len b m))
moved_at_most p q a b zero h = omega arith
moved_at_most p q a b (suc m) h =
    let first : p a ≡ true → q b ≡ true = (λ e.
    let x : a ≡ a + 0 = omega arith in
    let y : b + 0 ≡ b = omega arith in
    subst (λ k. q k ≡ true) y (h 0 (omega arith) (subst (λ k. p k ≡ true) x e))) in
    let later : (i : ℕ) → i < m → p (a + 1 + i) ≡ true → q (b + 1 + i) ≡ true = (λ i lt e.
    let x : a + 1 + i ≡ a + suc i = omega arith in
    let y : b + suc i ≡ b + 1 + i = omega arith in
    subst (λ k. q k ≡ true) y (h (suc i) (omega (arith, lt)) (subst (λ k. p k ≡ true) x e))) in
    cond_longer (p a) (q b) a b (filter p (range_with_len (a + 1) m)) (filter q (range_with_len (b + 1) m)) first (moved_at_most p q (a + 1) (b + 1) m later)

-- what doesn't pass may be left out in front
skipped : (p : ℕ → Bool) (a s m n : ℕ) → n ≡ s + m → ((i : ℕ) → i < s → p (a + i) ≡ false) → length (filter p (range_with_len a n)) ≡ length (filter p (range_with_len (a + s) m))
skipped p a zero m n sum h =
    let x : a ≡ a + 0 = omega arith in
    let same : n ≡ m = omega (arith, sum) in
    ap (λ k. length (filter p (range_with_len k n))) x ∙ ap (λ k. length (filter p (range_with_len (a + 0) k))) same
skipped p a (suc s) m zero sum h = absurd (omega (arith, sum))
skipped p a (suc s) m (suc n) sum h =
    let x : a + 0 ≡ a = omega arith in
    let far : a + 1 + s ≡ a + suc s = omega arith in
    ap (λ b. length (cond b (a ∷ filter p (range_with_len (a + 1) n)) (filter p (range_with_len (a + 1) n)))) (subst (λ k. p k ≡ false) x (h 0 (omega arith)))
    ∙ skipped p (a + 1) s m n (omega (arith, sum)) (λ i lt. let y : a + suc i ≡ a + 1 + i = omega arith in subst (λ k. p k ≡ false) y (h (suc i) (omega (arith, lt))))
    ∙ ap (λ k. length (filter p (range_with_len k m))) far

not_true : (b : Bool) → (b ≡ true → ⊥) → b ≡ false
not_true true h = absurd (h refl)
not_true false h = refl

-- what passes along a range, moved by a number, is no more than what another test lets pass
module _ (t : ℕ → Bool) (n : ℕ) (few : (lo m : ℕ) → length (filter (λ k. t (lo + k)) (range_with_len 0 m)) ≤ n) where
  pub counted : (p : ℕ → Bool) (lo m : ℕ) (by : ℤ) → ((k : ℕ) → k < m → p k ≡ true → (j : ℕ) × (pos (lo + k) -ℤ by ≡ pos j) × (t j ≡ true)) → length (filter p (range_with_len 0 m)) ≤ n
  counted p lo m by h = by_sign (pos lo -ℤ by) refl where
    by_sign : (v : ℤ) → pos lo -ℤ by ≡ v → length (filter p (range_with_len 0 m)) ≤ n
    by_sign (pos a) e =
        omega (
          arith,
          few a m,
          filter_at_most p (λ k. t (a + k)) 0 m (λ k l u q.
              let got = h k (omega (arith, u)) q in
              let same : got.0 ≡ a + k = omega (arith, sub_of (pos (lo + k)) by, sub_of (pos lo) by, ap up e, ap down e, ap up got.1, ap down got.1) in
              subst (λ y. t y ≡ true) same got.2),
        )
    by_sign (negsuc b) e =
        let first : (k : ℕ) → k < m → p k ≡ true → (b + 1 ≤ k) × (t (k - (b + 1)) ≡ true) = (λ k u q.
        let got = h k u q in
        let same : got.0 ≡ k - (b + 1) = omega (arith, sub_of (pos (lo + k)) by, sub_of (pos lo) by, ap up e, ap down e, ap up got.1, ap down got.1) in
        (omega (arith, sub_of (pos (lo + k)) by, sub_of (pos lo) by, ap up e, ap down e, ap up got.1, ap down got.1), subst (λ y. t y ≡ true) same got.2)) in
        ⊎_elim
        (λ (l : m < b + 1). omega (arith, filter_none 0 m, filter_at_most p (λ k. false) 0 m (λ k low u q. absurd (omega (arith, l, u, (first k (omega (arith, u)) q).0)))))
        (λ (l : b + 1 ≤ m).
        let rest = m - (b + 1) in
        let left = skipped p 0 (b + 1) rest m (omega (arith, l)) (λ i lt. not_true (p (0 + i)) (λ q. omega (arith, lt, (first (0 + i) (omega (arith, lt, l)) q).0))) in
        let right = moved_at_most p (λ k. t (0 + k)) (0 + (b + 1)) 0 rest (λ i lt q.
        let got = first (0 + (b + 1) + i) (omega (arith, lt, l)) q in
        let same : 0 + (b + 1) + i - (b + 1) ≡ 0 + (0 + i) = omega arith in
        subst (λ y. t y ≡ true) same got.1) in
        omega (arith, left, right, few 0 rest))
        (cases_lt m (b + 1))

-- ---- a range in two parts

cond_length : (b : Bool) (x : ℕ) (ys : List ℕ) → length (cond b (x ∷ ys) ys) ≡ cond b 1 0 + length ys
cond_length true x ys = omega arith
cond_length false x ys = omega arith

passing_by : (p : ℕ → Bool) (a m k n : ℕ) → n ≡ m + k → length (filter p (range_with_len a n)) ≡ length (filter p (range_with_len a m)) + length (filter p (range_with_len (a + m) k))
passing_by p a zero k n sum =
    let same : n ≡ k = omega (arith, sum) in
    let here : a ≡ a + 0 = omega arith in
    let e : length (filter p (range_with_len a n)) ≡ length (filter p (range_with_len (a + 0) k)) = ap (λ j. length (filter p (range_with_len a j))) same
    ∙ ap (λ b. length (filter p (range_with_len b k))) here in
    omega (arith, e)
passing_by p a (suc m) k zero sum = absurd (omega (arith, sum))
passing_by p a (suc m) k (suc n) sum =
    let far : a + 1 + m ≡ a + suc m = omega arith in
    let e : length (filter p (range_with_len (a + 1 + m) k)) ≡ length (filter p (range_with_len (a + suc m) k)) = ap (λ b. length (filter p (range_with_len b k))) far in
    let later = passing_by p (a + 1) m k n (omega (arith, sum)) in
    omega (arith, e, later, cond_length (p a) a (filter p (range_with_len (a + 1) n)), cond_length (p a) a (filter p (range_with_len (a + 1) m)))

pub passing_adds : (p : ℕ → Bool) (a m k : ℕ) → length (filter p (range_with_len a (m + k))) ≡ length (filter p (range_with_len a m)) + length (filter p (range_with_len (a + m) k))
passing_adds p a m k = passing_by p a m k (m + k) refl
