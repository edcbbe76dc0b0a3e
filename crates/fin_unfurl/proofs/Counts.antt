-- How many numbers of a range pass a test.
use Rattle.std.proofs.Common.{◌≡◌, ℕ, zero, suc, ◌+◌, ◌-◌, ◌<◌, ◌≤◌, List, ◌∷◌, length, refl, sym, ap, ◌∙◌, subst, Bool, true, false, T, cond, ℤ, pos, negsuc, neg_ℤ, ◌-ℤ◌, arith, ⊎_elim}
use Rattle.std.specs.List.{filter, range_with_len}
use Rattle.std.proofs.lemmas.Bool.{cases_lt}
use borrow.Author.Differences.{up, down, sum_is_lem, neg_is}
use Rattle.fin_ir.specs.Machine.{whole}
use Rattle.fin_ir.specs.Meaning.{span}
use Rattle.fin_unfurl.proofs.Small.{sub_is}

cond_length : (b : Bool) (x : ℕ) (xs : List ℕ) → length (cond b (x ∷ xs) xs) ≡ cond b (suc (length xs)) (length xs)
cond_length true x xs = refl
cond_length false x xs = refl

cond_at_most : (b c : Bool) (m n : ℕ) → (b ≡ true → c ≡ true) → m ≤ n → cond b (suc m) m ≤ cond c (suc n) n
cond_at_most true true m n h le = omega arith
cond_at_most true false m n h le = absurd (subst T (sym (h refl)) tt)
cond_at_most false true m n h le = omega arith
cond_at_most false false m n h le = le

-- a weaker test passes as many
pub filter_at_most : (p q : ℕ → Bool) (a m : ℕ) → ((k : ℕ) → a ≤ k → k < a + m → p k ≡ true → q k ≡ true) → length (filter p (range_with_len a m)) ≤ length (filter q (range_with_len a m))
filter_at_most p q a zero h = omega arith
filter_at_most p q a (suc m) h =
    let more = filter p (range_with_len (a + 1) m) in
    let more' = filter q (range_with_len (a + 1) m) in
    let rest = filter_at_most p q (a + 1) m (λ k lo hi. h k (omega arith) (omega arith)) in
    let both = cond_at_most (p a) (q a) (length more) (length more') (h a (omega arith) (omega arith)) rest in
    omega (arith, both, cond_length (p a) a more, cond_length (q a) a more')

pub filter_none : (a m : ℕ) → length (filter (λ k. false) (range_with_len a m)) ≡ 0
filter_none a zero = refl
filter_none a (suc m) = filter_none (a + 1) m

whole_none : (z : ℤ) → up z ≤ down z → whole z ≡ 0
whole_none (pos n) h = omega arith
whole_none (negsuc n) h = refl

pub span_is : (lo hi : ℕ) → span (pos lo) (pos hi) ≡ hi - lo
span_is lo hi =
    ⊎_elim
    (λ (l : lo < hi). ap whole (sub_is hi lo (omega arith)))
    (λ (l : hi ≤ lo). let e : hi - lo ≡ 0 = omega arith in whole_none (pos hi -ℤ pos lo) (omega (arith, sum_is_lem (pos hi) (neg_ℤ (pos lo)), neg_is (pos lo))) ∙ sym e)
    (cases_lt lo hi)
