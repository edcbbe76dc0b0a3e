-- Coordinates in lexicographic order, by their first ones.
use Rattle.std.proofs.Common.{◌≡◌, ◌<◌, ◌≤◌, ◌+◌, ℕ, zero, suc, Bool, true, false, List, [], ◌∷◌, ◌++◌, Option, Some, None, refl, sym, ap, ◌∙◌, subst, arith, length, take}
use Rattle.std.specs.Prelude.{not}
use Rattle.std.specs.Ordering.{nat_cmp, ordering_then}
use Rattle.std.specs.Cmp.{nat_cmp_is}
use Rattle.std.specs.Cmp.Lexicographic.{slice_cmp}
use Rattle.std.specs.declared.cmp.Ordering.{Ordering}
use Rattle.std.specs.declared.cmp.Ordering.TheVariants.{Less, Equal, Greater}
use Rattle.fin_tensor.specs.Building.{is_less, comes_behind}

-- ---- two numbers
data Compared (x y : ℕ) : Type 0 where
  less : x < y → nat_cmp x y ≡ Less → nat_cmp y x ≡ Greater → Compared x y
  same : x ≡ y → nat_cmp x y ≡ Equal → nat_cmp y x ≡ Equal → Compared x y
  more : y < x → nat_cmp x y ≡ Greater → nat_cmp y x ≡ Less → Compared x y

compared : (x y : ℕ) → Compared x y
compared zero zero = Compared.same refl refl refl
compared zero (suc y) = Compared.less (omega arith) (sym (nat_cmp_is zero (suc y) Less (omega arith))) (sym (nat_cmp_is (suc y) zero Greater (omega arith)))
compared (suc x) zero = Compared.more (omega arith) (sym (nat_cmp_is (suc x) zero Greater (omega arith))) (sym (nat_cmp_is zero (suc x) Less (omega arith)))
compared (suc x) (suc y) = elim (compared x y) [
  | less h a b ↦ Compared.less (omega (arith, h)) (sym (nat_cmp_is (suc x) (suc y) Less (omega (arith, h)))) (sym (nat_cmp_is (suc y) (suc x) Greater (omega (arith, h))))
  | same h a b ↦ Compared.same (ap suc h) (sym (nat_cmp_is (suc x) (suc y) Equal (ap suc h))) (sym (nat_cmp_is (suc y) (suc x) Equal (sym (ap suc h))))
  | more h a b ↦ Compared.more (omega (arith, h)) (sym (nat_cmp_is (suc x) (suc y) Greater (omega (arith, h)))) (sym (nat_cmp_is (suc y) (suc x) Less (omega (arith, h))))
]

-- ---- two lists
abbrev Before : List ℕ → List ℕ → Type 0
Before xs ys = is_less (slice_cmp nat_cmp xs ys) ≡ true

abbrev NotBefore : List ℕ → List ℕ → Type 0
NotBefore xs ys = not (is_less (slice_cmp nat_cmp xs ys)) ≡ true

-- by the first numbers
by_first : (x y : ℕ) (o p : Ordering) → nat_cmp x y ≡ o → is_less (ordering_then (nat_cmp x y) p) ≡ is_less (ordering_then o p)
by_first x y o p e = ap (λ (q : Ordering). is_less (ordering_then q p)) e

before_more : (xs cs : List ℕ) (v : ℕ) → Before (take (length xs) cs) xs → Before (take (suc (length xs)) cs) (xs ++ v ∷ [])
before_more [] cs v h = let e : ◌≡◌ {A = Bool} false true = h in cc
before_more (x ∷ xs) [] v h = refl
before_more (x ∷ xs) (c ∷ cs) v h = elim (compared c x) [
  | less _ a b ↦ by_first c x Less (slice_cmp nat_cmp (take (suc (length xs)) cs) (xs ++ v ∷ [])) a
  | same _ a b ↦ by_first c x Equal (slice_cmp nat_cmp (take (suc (length xs)) cs) (xs ++ v ∷ [])) a ∙ before_more xs cs v (sym (by_first c x Equal (slice_cmp nat_cmp (take (length xs) cs) xs) a) ∙ h)
  | more _ a b ↦ absurd (let e : ◌≡◌ {A = Bool} false true = sym (by_first c x Greater (slice_cmp nat_cmp (take (length xs) cs) xs) a) ∙ h in cc)
]

before_next : (xs ys : List ℕ) (v : ℕ) → length ys ≤ length xs + 1 → NotBefore (xs ++ v ∷ []) ys → Before ys (xs ++ (v + 1) ∷ [])
before_next [] [] v l h = refl
before_next [] (y ∷ []) v l h = elim (compared v y) [
  | less _ a b ↦ absurd (let e : ◌≡◌ {A = Bool} false true = sym (ap not (by_first v y Less Equal a)) ∙ h in cc)
  | same lt a b ↦ by_first y (v + 1) Less Equal (sym (nat_cmp_is y (v + 1) Less (omega (arith, lt))))
  | more lt a b ↦ by_first y (v + 1) Less Equal (sym (nat_cmp_is y (v + 1) Less (omega (arith, lt))))
]
before_next [] (y ∷ z ∷ ys) v l h = absurd (omega (arith, l))
before_next (x ∷ xs) [] v l h = refl
before_next (x ∷ xs) (y ∷ ys) v l h = elim (compared x y) [
  | less _ a b ↦ absurd (let e : ◌≡◌ {A = Bool} false true = sym (ap not (by_first x y Less (slice_cmp nat_cmp (xs ++ v ∷ []) ys) a)) ∙ h in cc)
  | same _ a b ↦ by_first y x Equal (slice_cmp nat_cmp ys (xs ++ (v + 1) ∷ [])) b ∙ before_next xs ys v (omega (arith, l)) (sym (ap not (by_first x y Equal (slice_cmp nat_cmp (xs ++ v ∷ []) ys) a)) ∙ h)
  | more _ a b ↦ by_first y x Less (slice_cmp nat_cmp ys (xs ++ (v + 1) ∷ [])) b
]

behind_fewer : (k : ℕ) (xs ys : List ℕ) → NotBefore (take (suc k) xs) (take (suc k) ys) → NotBefore (take k xs) (take k ys)
behind_fewer zero xs ys h = refl
behind_fewer (suc k) [] [] h = refl
behind_fewer (suc k) [] (y ∷ ys) h = let e : ◌≡◌ {A = Bool} false true = h in cc
behind_fewer (suc k) (x ∷ xs) [] h = refl
behind_fewer (suc k) (x ∷ xs) (y ∷ ys) h = elim (compared x y) [
  | less _ a b ↦ absurd (let e : ◌≡◌ {A = Bool} false true = sym (ap not (by_first x y Less (slice_cmp nat_cmp (take (suc k) xs) (take (suc k) ys)) a)) ∙ h in cc)
  | same _ a b ↦ ap not (by_first x y Equal (slice_cmp nat_cmp (take k xs) (take k ys)) a) ∙ behind_fewer k xs ys (sym (ap not (by_first x y Equal (slice_cmp nat_cmp (take (suc k) xs) (take (suc k) ys)) a)) ∙ h)
  | more _ a b ↦ ap not (by_first x y Greater (slice_cmp nat_cmp (take k xs) (take k ys)) a)
]

not_after : (xs ys : List ℕ) → Before xs ys → NotBefore ys xs
not_after [] [] h = let e : ◌≡◌ {A = Bool} false true = h in cc
not_after [] (y ∷ ys) h = refl
not_after (x ∷ xs) [] h = let e : ◌≡◌ {A = Bool} false true = h in cc
not_after (x ∷ xs) (y ∷ ys) h = elim (compared x y) [
  | less _ a b ↦ ap not (by_first y x Greater (slice_cmp nat_cmp ys xs) b)
  | same _ a b ↦ ap not (by_first y x Equal (slice_cmp nat_cmp ys xs) b) ∙ not_after xs ys (sym (by_first x y Equal (slice_cmp nat_cmp xs ys) a) ∙ h)
  | more _ a b ↦ absurd (let e : ◌≡◌ {A = Bool} false true = sym (by_first x y Greater (slice_cmp nat_cmp xs ys) a) ∙ h in cc)
]

not_before_itself : (xs : List ℕ) → NotBefore xs xs
not_before_itself [] = refl
not_before_itself (x ∷ xs) = elim (compared x x) [
  | less lt a b ↦ absurd (omega (arith, lt))
  | same _ a b ↦ ap not (by_first x x Equal (slice_cmp nat_cmp xs xs) a) ∙ not_before_itself xs
  | more lt a b ↦ absurd (omega (arith, lt))
]

take_whole : (xs : List ℕ) → take (length xs) xs ≡ xs
take_whole [] = refl
take_whole (x ∷ xs) = ap (λ (ys : List ℕ). x ∷ ys) (take_whole xs)

take_short : (k : ℕ) (xs : List ℕ) → length (take k xs) ≤ k
take_short zero xs = omega arith
take_short (suc k) [] = omega arith
take_short (suc k) (x ∷ xs) = omega (arith, take_short k xs)

take_more : (xs : List ℕ) (v : ℕ) → take (suc (length xs)) (xs ++ v ∷ []) ≡ xs ++ v ∷ []
take_more [] v = refl
take_more (x ∷ xs) v = ap (λ (ys : List ℕ). x ∷ ys) (take_more xs v)

-- ---- the last update against the values of loops
-- it comes before them by all of these, if there is one
abbrev pub Strict : Option (List ℕ) → List ℕ → Type 0
Strict None vals = Unit {0}
Strict (Some cs) vals = Before (take (length vals) cs) vals

-- it doesn't come behind them, by the first k
abbrev pub Weak : ℕ → Option (List ℕ) → List ℕ → Type 0
Weak k last vals = comes_behind k last vals ≡ true

pub strict_inside : (last : Option (List ℕ)) (vals : List ℕ) (v : ℕ) → Strict last vals → Strict last (vals ++ v ∷ [])
strict_inside None vals v h = tt
strict_inside (Some cs) vals v h = subst (λ (k : ℕ). Before (take k cs) (vals ++ v ∷ [])) (sym (long vals)) (before_more vals cs v h) where
  long : (xs : List ℕ) → length (xs ++ v ∷ []) ≡ suc (length xs)
  long [] = refl
  long (x ∷ xs) = ap suc (long xs)

pub weak_turns_strict : (last : Option (List ℕ)) (vals : List ℕ) (v : ℕ) → Weak (suc (length vals)) last (vals ++ v ∷ []) → Strict last (vals ++ (v + 1) ∷ [])
weak_turns_strict None vals v h = tt
weak_turns_strict (Some cs) vals v h =
    let short : length (take (suc (length vals)) cs) ≤ suc (length vals) = take_short (suc (length vals)) cs in
    let h' : NotBefore (vals ++ v ∷ []) (take (suc (length vals)) cs) = subst (λ (xs : List ℕ). NotBefore xs (take (suc (length vals)) cs)) (take_more vals v) h in
    subst (λ (k : ℕ). Before (take k cs) (vals ++ (v + 1) ∷ [])) (sym (long vals)) (before_next vals (take (suc (length vals)) cs) v (omega (arith, short)) h') where
      long : (xs : List ℕ) → length (xs ++ (v + 1) ∷ []) ≡ suc (length xs)
      long [] = refl
      long (x ∷ xs) = ap suc (long xs)

pub strict_is_weak : (last : Option (List ℕ)) (vals : List ℕ) → Strict last vals → Weak (length vals) last vals
strict_is_weak None vals h = refl
strict_is_weak (Some cs) vals h = subst (λ (xs : List ℕ). NotBefore xs (take (length vals) cs)) (sym (take_whole vals)) (not_after (take (length vals) cs) vals h)

pub weak_fewer : (k : ℕ) (last : Option (List ℕ)) (vals : List ℕ) → Weak (suc k) last vals → Weak k last vals
weak_fewer k None vals h = refl
weak_fewer k (Some cs) vals h = behind_fewer k vals cs h

-- of a longer list of values only the first count
pub weak_prefix : (k : ℕ) (last : Option (List ℕ)) (xs ys : List ℕ) → take k xs ≡ take k ys → Weak k last xs → Weak k last ys
weak_prefix k None xs ys e h = refl
weak_prefix k (Some cs) xs ys e h = subst (λ (zs : List ℕ). NotBefore zs (take k cs)) e h

pub weak_at_update : (k : ℕ) (cs vals : List ℕ) → take k cs ≡ take k vals → Weak k (Some cs) vals
weak_at_update k cs vals e = subst (λ (zs : List ℕ). NotBefore (take k vals) zs) (sym e) (not_before_itself (take k vals))

-- coordinates that begin with the values follow
pub follows_by : (k : ℕ) (last : Option (List ℕ)) (cs vals : List ℕ) → take k cs ≡ take k vals → Weak k last vals → comes_behind k last cs ≡ true
follows_by k None cs vals e h = refl
follows_by k (Some ls) cs vals e h = subst (λ (zs : List ℕ). NotBefore zs (take k ls)) (sym e) h
