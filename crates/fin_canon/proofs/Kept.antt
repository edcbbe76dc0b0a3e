-- The kept coordinates of one slice.
use Rattle.std.proofs.Common.{◌≡◌, ℕ, zero, suc, ◌+◌, ◌<◌, ◌≤◌, List, [], ◌∷◌, ◌++◌, length, refl, sym, ap, ◌∙◌, subst, inl, inr, ◌⊎◌, ⊎_elim, arith, cond, ℤ, IsTrue, map, Bool, true, false}
use Rattle.std.specs.Prelude.{slice_index, nat_lt, ◌&&◌, not, filter, flat_map}
use Rattle.std.specs.List.{range_with_len}
use Rattle.std.specs.Ordering.{int_eq}
use Rattle.std.proofs.lemmas.Bool.{cases_lt, cases_eq, ltb-true}
use Rattle.std.proofs.lemmas.Int.{ints}
use Rattle.std.proofs.lemmas.List.FromFn.{length-range_with_len, get_or-range_with_len}
use Rattle.fin_tensor.specs.TensorFunction.{is_in_box, box}
use Rattle.fin_tensor.specs.Canon.{Slice, slice_at, is_fill_at, has_value}

-- ---- lists that rise
pub record IsRising (a b : ℕ) (ks : List ℕ) : Type 0 where
  pub low : (j : ℕ) → j < length ks → a ≤ slice_index ks j
  pub high : (j : ℕ) → j < length ks → slice_index ks j < b
  pub rises : (j : ℕ) → j + 1 < length ks → slice_index ks j < slice_index ks (j + 1)

rising_none : (a b : ℕ) → IsRising a b []
rising_none a b = record { low = λ j h. absurd (omega arith); high = λ j h. absurd (omega arith); rises = λ j h. absurd (omega arith) }

rising_weak : (a b : ℕ) (ks : List ℕ) → IsRising (a + 1) b ks → IsRising a b ks
rising_weak a b ks h = record { low = λ j l. omega (arith, h.low j l); high = h.high; rises = h.rises }

low_cons : (a b : ℕ) (ks : List ℕ) → IsRising (a + 1) b ks → (j : ℕ) → j < length (a ∷ ks) → a ≤ slice_index (a ∷ ks) j
low_cons a b ks h zero l = omega arith
low_cons a b ks h (suc j) l = omega (arith, h.low j (omega arith))

high_cons : (a b : ℕ) (ks : List ℕ) → IsRising (a + 1) b ks → a < b → (j : ℕ) → j < length (a ∷ ks) → slice_index (a ∷ ks) j < b
high_cons a b ks h lt zero l = lt
high_cons a b ks h lt (suc j) l = h.high j (omega arith)

rises_cons : (a b : ℕ) (ks : List ℕ) → IsRising (a + 1) b ks → (j : ℕ) → j + 1 < length (a ∷ ks) → slice_index (a ∷ ks) j < slice_index (a ∷ ks) (j + 1)
rises_cons a b ks h zero l = omega (arith, h.low 0 (omega arith))
rises_cons a b ks h (suc j) l = let o : suc j + 1 ≡ suc (j + 1) = omega arith in rw o (h.rises j (omega arith))

rising_cons : (a b : ℕ) (ks : List ℕ) → IsRising (a + 1) b ks → a < b → IsRising a b (a ∷ ks)
rising_cons a b ks h lt = record { low = low_cons a b ks h; high = high_cons a b ks h lt; rises = rises_cons a b ks h }

rising_either : (t : Bool) (a b : ℕ) (ks : List ℕ) → IsRising (a + 1) b ks → a < b → IsRising a b (cond t (a ∷ ks) ks)
rising_either true a b ks h lt = rising_cons a b ks h lt
rising_either false a b ks h lt = rising_weak a b ks h

pub filter_rising : (p : ℕ → Bool) (a n b : ℕ) → a + n ≤ b → IsRising a b (filter p (range_with_len a n))
filter_rising p a zero b h = rising_none a b
filter_rising p a (suc n) b h = rising_either (p a) a b (filter p (range_with_len (a + 1) n)) (filter_rising p (a + 1) n b (omega arith)) (omega arith)

range_low : (a n j : ℕ) → j < length (range_with_len a n) → slice_index (range_with_len a n) j ≡ a + j
range_low a n j h = get_or-range_with_len a n j 0 (omega (arith, length-range_with_len a n))

pub range_rising : (a n b : ℕ) → a + n ≤ b → IsRising a b (range_with_len a n)
range_rising a n b h = record {
  low = λ j l. omega (arith, range_low a n j l);
  high = λ j l. omega (arith, range_low a n j l, length-range_with_len a n);
  rises = λ j l. omega (arith, range_low a n j (omega arith), range_low a n (j + 1) l);
}

-- a place at which the list has i
pub record Place (ks : List ℕ) (i : ℕ) : Type 0 where
  pub j : ℕ
  pub within : j < length ks
  pub is : slice_index ks j ≡ i

pub place_cons : (a : ℕ) (ks : List ℕ) (i : ℕ) → Place ks i → Place (a ∷ ks) i
place_cons a ks i p = record { j = suc p.j; within = omega (arith, p.within); is = p.is }

place_either : (t : Bool) (a : ℕ) (ks : List ℕ) (i : ℕ) → Place ks i → Place (cond t (a ∷ ks) ks) i
place_either true a ks i p = place_cons a ks i p
place_either false a ks i p = p

pub filter_has : (p : ℕ → Bool) (a n i : ℕ) → a ≤ i → i < a + n → p i ≡ true → Place (filter p (range_with_len a n)) i
filter_has p a zero i lo hi h = absurd (omega arith)
filter_has p a (suc n) i lo hi h =
    let ks = filter p (range_with_len (a + 1) n) in
    ⊎_elim
    (λ (e : i ≡ a). let t : p a ≡ true = ap p (sym e) ∙ h in subst (λ (b : Bool). Place (cond b (a ∷ ks) ks) i) (sym t) (record { j = 0; within = omega arith; is = sym e }))
    (λ ne. place_either (p a) a ks i (filter_has p (a + 1) n i (omega (arith, ne)) (omega arith) h))
    (cases_eq i a)

-- the first number from i on that passes the test
pub record IsNext (p : ℕ → Bool) (ks : List ℕ) (i : ℕ) : Type 0 where
  pub j : ℕ
  pub within : j < length ks
  pub up : i ≤ slice_index ks j
  pub before : (m : ℕ) → m < j → slice_index ks m < i
  pub skipped : (m : ℕ) → i ≤ m → m < slice_index ks j → p m ≡ false

next_here : (p : ℕ → Bool) (a : ℕ) (ks : List ℕ) → IsNext p (a ∷ ks) a
next_here p a ks = record { j = 0; within = omega arith; up = omega arith; before = λ m h. absurd (omega arith); skipped = λ m h l. absurd (omega arith) }

before_cons : (a i j : ℕ) (ks : List ℕ) → a < i → ((m : ℕ) → m < j → slice_index ks m < i) → (m : ℕ) → m < suc j → slice_index (a ∷ ks) m < i
before_cons a i j ks lt h zero l = lt
before_cons a i j ks lt h (suc m) l = h m (omega arith)

next_cons : (p : ℕ → Bool) (a i : ℕ) (ks : List ℕ) → a < i → IsNext p ks i → IsNext p (a ∷ ks) i
next_cons p a i ks lt h = record { j = suc h.j; within = omega (arith, h.within); up = h.up; before = before_cons a i h.j ks lt h.before; skipped = h.skipped }

next_either : (p : ℕ → Bool) (t : Bool) (a i : ℕ) (ks : List ℕ) → a < i → IsNext p ks i → IsNext p (cond t (a ∷ ks) ks) i
next_either p true a i ks lt h = next_cons p a i ks lt h
next_either p false a i ks lt h = h

-- from a number that fails to the next one
next_down : (p : ℕ → Bool) (a b : ℕ) (ks : List ℕ) → IsRising (a + 1) b ks → p a ≡ false → IsNext p ks (a + 1) → IsNext p ks a
next_down p a b ks r f h = record {
  j = h.j;
  within = h.within;
  up = omega (arith, h.up);
  before = λ m l. absurd (omega (arith, h.before m l, r.low m (omega (arith, h.within))));
  skipped = λ m lo hi. ⊎_elim (λ (e : m ≡ a). ap p e ∙ f) (λ ne. h.skipped m (omega (arith, ne)) hi) (cases_eq m a);
}

pub filter_next : (p : ℕ → Bool) (a n i : ℕ) → a ≤ i → i < a + n → ((m : ℕ) → m + 1 ≡ a + n → p m ≡ true) → IsNext p (filter p (range_with_len a n)) i
filter_next p a zero i lo hi h = absurd (omega arith)
filter_next p a (suc n) i lo hi h =
    let ks = filter p (range_with_len (a + 1) n) in
    let rest : (k : ℕ) → a + 1 ≤ k → k < a + suc n → IsNext p ks k = (λ k l u. filter_next p (a + 1) n k l (omega arith) (λ m e. h m (omega (arith, e)))) in
    ⊎_elim
    (λ (e : i ≡ a). subst (λ (x : ℕ). IsNext p (cond (p a) (a ∷ ks) ks) x) (sym e)
    (elim (p a) as (λ t. p a ≡ t → IsNext p (cond t (a ∷ ks) ks) a) [
      | true ↦ λ _. next_here p a ks
      | false ↦ λ f. next_down p a (a + suc n) ks (filter_rising p (a + 1) n (a + suc n) (omega arith)) f (rest (a + 1) (omega arith) (⊎_elim (λ (l : a + 1 < a + suc n). l) (λ (l : a + suc n ≤ a + 1). let t : p a ≡ true = h a (omega arith) in cc) (cases_lt (a + 1) (a + suc n))))
    ] refl))
    (λ ne. next_either p (p a) a i ks (omega (arith, ne)) (rest i (omega (arith, ne)) hi))
    (cases_eq i a)

-- ---- slices that are the fill everywhere
pub and_left : (a b : Bool) → (a && b) ≡ true → a ≡ true
and_left true b h = refl
and_left false b h = h

pub and_right : (a b : Bool) → (a && b) ≡ true → b ≡ true
and_right true b h = h
and_right false b h = cc

same_int : (v w : ℤ) → int_eq v w ≡ true → v ≡ w
same_int v w e = grind (arith, ints)

fill_left : (fill : ℤ) (f : Slice) (a b : List (List ℕ)) → is_fill_at fill f (a ++ b) ≡ true → is_fill_at fill f a ≡ true
fill_left fill f [] b h = refl
fill_left fill f (c ∷ a) b h =
    let s = and_left (int_eq (f c) fill) (is_fill_at fill f (a ++ b)) h in
    let t = fill_left fill f a b (and_right (int_eq (f c) fill) (is_fill_at fill f (a ++ b)) h) in
    rw s t

fill_right : (fill : ℤ) (f : Slice) (a b : List (List ℕ)) → is_fill_at fill f (a ++ b) ≡ true → is_fill_at fill f b ≡ true
fill_right fill f [] b h = h
fill_right fill f (c ∷ a) b h = fill_right fill f a b (and_right (int_eq (f c) fill) (is_fill_at fill f (a ++ b)) h)

fill_map : (fill : ℤ) (f : Slice) (i : ℕ) (css : List (List ℕ)) → is_fill_at fill f (map (λ cs. i ∷ cs) css) ≡ is_fill_at fill (slice_at f i) css
fill_map fill f i [] = refl
fill_map fill f i (cs ∷ css) = ap (λ b. int_eq (f (i ∷ cs)) fill && b) (fill_map fill f i css)

fill_slice : (fill : ℤ) (f : Slice) (css : List (List ℕ)) (a n i : ℕ) → a ≤ i → i < a + n → is_fill_at fill f (flat_map (λ k. map (λ cs. k ∷ cs) css) (range_with_len a n)) ≡ true → is_fill_at fill (slice_at f i) css ≡ true
fill_slice fill f css a zero i lo hi h = absurd (omega arith)
fill_slice fill f css a (suc n) i lo hi h =
    let rest = flat_map (λ k. map (λ cs. k ∷ cs) css) (range_with_len (a + 1) n) in
    ⊎_elim
    (λ (e : i ≡ a). subst (λ (x : ℕ). is_fill_at fill (slice_at f x) css ≡ true) (sym e) (sym (fill_map fill f a css) ∙ fill_left fill f (map (λ cs. a ∷ cs) css) rest h))
    (λ ne. fill_slice fill f css (a + 1) n i (omega (arith, ne)) (omega arith) (fill_right fill f (map (λ cs. a ∷ cs) css) rest h))
    (cases_eq i a)

pub blank : (ns : List ℕ) (fill : ℤ) (f : Slice) (cs : List ℕ) → is_fill_at fill f (box ns) ≡ true → IsTrue (is_in_box ns cs) → f cs ≡ fill
blank [] fill f [] h b = same_int (f []) fill (and_left (int_eq (f []) fill) true h)
blank [] fill f (c ∷ cs) h b = cc
blank (n ∷ ns) fill f [] h b = cc
blank (n ∷ ns) fill f (c ∷ cs) h b =
    let lt : c < n = ltb-true c n (and_left (nat_lt c n) (is_in_box ns cs) b) in
    blank ns fill (slice_at f c) cs (fill_slice fill f (box ns) 0 n c (omega arith) (omega arith) h) (and_right (nat_lt c n) (is_in_box ns cs) b)

-- ---- what a level keeps of one slice
abbrev pub IsBlankAt : ℤ → List ℕ → Slice → ℕ → Type 0
IsBlankAt fill ns f i = (cs : List ℕ) → IsTrue (is_in_box ns cs) → f (i ∷ cs) ≡ fill

not_true : (b : Bool) → not b ≡ false → b ≡ true
not_true true h = refl
not_true false h = cc

pub keys_have : (fill : ℤ) (n : ℕ) (ns : List ℕ) (f : Slice) (i : ℕ) → i < n → Place (filter (has_value fill ns f) (range_with_len 0 n)) i ⊎ IsBlankAt fill ns f i
keys_have fill n ns f i lt = elim (has_value fill ns f i) as (λ b. has_value fill ns f i ≡ b → Place (filter (has_value fill ns f) (range_with_len 0 n)) i ⊎ IsBlankAt fill ns f i) [
  | true ↦ λ e. inl (filter_has (has_value fill ns f) 0 n i (omega arith) (omega arith) e)
  | false ↦ λ e. inr (λ cs b. blank ns fill (slice_at f i) cs (not_true (is_fill_at fill (slice_at f i) (box ns)) e) b)
] refl
