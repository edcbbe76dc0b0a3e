-- Counts of kept prefixes.
use Rattle.std.proofs.Common.{◌≡◌, ◌≢◌, ℕ, zero, suc, ◌+◌, ◌-◌, ◌*◌, ◌^◌, ◌<◌, ◌≤◌, min, List, [], ◌∷◌, ◌++◌, length, refl, sym, ap, ◌∙◌, subst, ⊎_elim, arith, ℤ, Bool, true, false, cond, map}
use Rattle.std.specs.Prelude.{slice_index, filter, not, nat_eq, ◌||◌}
use Rattle.std.specs.List.{range_with_len}
use Rattle.std.proofs.lemmas.Bool.{cases_lt, cases_eq}
use Rattle.std.proofs.lemmas.Bool.Decides.{nat_tests}
use Rattle.fin_tensor.specs.declared.format.Level.{Level}
use Rattle.fin_tensor.specs.declared.format.Level.TheVariants as level
use Rattle.fin_tensor.specs.TensorFunction.{box}
use Rattle.fin_tensor.specs.Canon.{Slice, slice_at, has_value, ends_run, span_of, kept, next, IsAllowed}
use Rattle.fin_canon.specs.Counts.{total, count, empty_kept, empty_count}
use Rattle.fin_canon.proofs.Kept.{IsRising, Place}
use Rattle.fin_canon.proofs.Standing.{rising_lt}
use Rattle.fin_canon.proofs.Rising.{all_fill, all_box, rest_place}
use Rattle.fin_canon.proofs.Running.{agree}

abbrev pub Limit : ℕ
Limit = 1099511627777

-- ---- sums
pub total_push : (T : ℕ → ℕ) (ks : List ℕ) (i : ℕ) → total T (ks ++ i ∷ []) ≡ total T ks + T i
total_push T [] i = omega arith
total_push T (k ∷ ks) i = omega (arith, total_push T ks i)

pub total_same : (T : ℕ → ℕ) (E : ℕ) (a m : ℕ) → ((i : ℕ) → a ≤ i → i < a + m → T i ≡ E) → total T (range_with_len a m) ≡ m * E
total_same T E a zero h = omega arith
total_same T E a (suc m) h =
    let s : suc m * E ≡ E + m * E = grind arith in
    omega (arith, s, h a (omega arith) (omega arith), total_same T E (a + 1) m (λ i x y. h i (omega arith) (omega arith)))

rising_up : (a m k : ℕ) (ks : List ℕ) → k ≢ a → IsRising a (a + m) (k ∷ ks) → IsRising (a + 1) (a + 1 + (m - 1)) (k ∷ ks)
rising_up a m k ks ne r = record {
  low = λ j h. ⊎_elim (λ (e : j ≡ 0). omega (arith, ne, r.low 0 (omega arith), ap (slice_index (k ∷ ks)) e)) (λ z. omega (arith, ne, z, r.low 0 (omega arith), rising_lt a (a + m) (k ∷ ks) r 0 j (omega (arith, z)) h)) (cases_eq j 0);
  high = λ j h. omega (arith, r.high j h, r.low j h);
  rises = r.rises;
}

rising_rest : (a m k : ℕ) (ks : List ℕ) → k ≡ a → IsRising a (a + m) (k ∷ ks) → IsRising (a + 1) (a + 1 + (m - 1)) ks
rising_rest a m k ks e r = record {
  low = λ j h. omega (arith, rising_lt a (a + m) (k ∷ ks) r 0 (suc j) (omega arith) (omega arith));
  high = λ j h. omega (arith, r.high (suc j) (omega arith), r.low (suc j) (omega arith));
  rises = λ j h. let o : suc j + 1 ≡ suc (j + 1) = omega arith in let s = r.rises (suc j) (omega arith) in omega (arith, s, ap (slice_index (k ∷ ks)) o);
}

-- a sum over a range, where all but some are the same
pub total_split : (T : ℕ → ℕ) (E a m : ℕ) (ks : List ℕ) → IsRising a (a + m) ks → ((i : ℕ) → a ≤ i → i < a + m → (Place ks i → ⊥) → T i ≡ E) → (length ks ≤ m) × (total T (range_with_len a m) ≡ total T ks + (m - length ks) * E)
total_split T E a m [] r h = (omega arith, (let z : m - 0 ≡ m = omega arith in omega (arith, total_same T E a m (λ i x y. h i x y (λ p. absurd (omega (arith, p.within)))), ap (λ (x : ℕ). x * E) z)))
total_split T E a zero (k ∷ ks) r h = absurd (omega (arith, r.low 0 (omega arith), r.high 0 (omega arith)))
total_split T E a (suc m) (k ∷ ks) r h =
    ⊎_elim
    (λ (e : k ≡ a).
    let r' : IsRising (a + 1) (a + 1 + m) ks = (let q = rising_rest a (suc m) k ks e r in let z : suc m - 1 ≡ m = omega arith in subst (λ (x : ℕ). IsRising (a + 1) (a + 1 + x) ks) z q) in
    let rest = total_split T E (a + 1) m ks r' (λ i x y out. h i (omega arith) (omega arith) (λ p. out (rest_place k ks i p (λ s. absurd (omega arith))))) in
    let d : suc m - length (k ∷ ks) ≡ m - length ks = omega arith in
    (omega (arith, rest.0), omega (arith, rest.1, ap T e, ap (λ (x : ℕ). x * E) d)))
    (λ ne.
    let r' : IsRising (a + 1) (a + 1 + m) (k ∷ ks) = (let q = rising_up a (suc m) k ks ne r in let z : suc m - 1 ≡ m = omega arith in subst (λ (x : ℕ). IsRising (a + 1) (a + 1 + x) (k ∷ ks)) z q) in
    let rest = total_split T E (a + 1) m (k ∷ ks) r' (λ i x y out. h i (omega arith) (omega arith) out) in
    let here : T a ≡ E = h a (omega arith) (omega arith) (λ p. absurd (omega (arith, r'.low p.j p.within, p.is))) in
    let d : suc m - length (k ∷ ks) ≡ suc (m - length (k ∷ ks)) = omega (arith, rest.0) in
    let s : suc (m - length (k ∷ ks)) * E ≡ E + (m - length (k ∷ ks)) * E = grind arith in
    (omega (arith, rest.0), omega (arith, rest.1, here, ap (λ (x : ℕ). x * E) d, s)))
    (cases_eq k a)

or_false : (t : Bool) → (t || false) ≡ t
or_false true = refl
or_false false = refl

no_filter : (p : ℕ → Bool) (a m : ℕ) → ((i : ℕ) → p i ≡ false) → filter p (range_with_len a m) ≡ []
no_filter p a zero h = refl
no_filter p a (suc m) h = ap (λ (b : Bool). cond b (a ∷ filter p (range_with_len (a + 1) m)) (filter p (range_with_len (a + 1) m))) (h a) ∙ no_filter p (a + 1) m h

-- what a level keeps of a function that is the fill everywhere
no_value : (fill : ℤ) (ns : List ℕ) (f : Slice) → ((cs : List ℕ) → f cs ≡ fill) → (n : ℕ) → filter (has_value fill ns f) (range_with_len 0 n) ≡ []
no_value fill ns f h n = no_filter (has_value fill ns f) 0 n (λ i. ap not (all_fill fill (slice_at f i) ns (box ns) (all_box ns) (λ cs _. h (i ∷ cs))))

ends_last : (n : ℕ) (fill : ℤ) (f : Slice) → ((cs : List ℕ) → f cs ≡ fill) → (i : ℕ) → ends_run n f i ≡ nat_eq (i + 1) n
ends_last n fill f h i = ap (λ (t : Bool). nat_eq (i + 1) n || t) (agree (f (i ∷ [])) (f ((i + 1) ∷ [])) (h (i ∷ []) ∙ sym (h ((i + 1) ∷ [])))) ∙ or_false (nat_eq (i + 1) n)

-- a sum over the last number of a range
total_last : (T : ℕ → ℕ) (E : ℕ) (p : ℕ → Bool) (b a m : ℕ) → a + m ≡ b → ((i : ℕ) → T i ≡ E) → ((i : ℕ) → p i ≡ nat_eq (i + 1) b) → total T (filter p (range_with_len a m)) ≡ min m 1 * E
total_last T E p b a zero e h q = omega arith
total_last T E p b a (suc zero) e h q =
    let x : nat_eq (a + 1) b ≡ true = grind (arith, nat_tests) in
    let y : total T (filter p (range_with_len a (suc zero))) ≡ T a + 0 = ap (λ (t : Bool). total T (cond t (a ∷ []) [])) (q a ∙ x) in
    let z : min (suc zero) 1 * E ≡ E = grind arith in
    omega (arith, y, h a, z)
total_last T E p b a (suc (suc m)) e h q =
    let x : nat_eq (a + 1) b ≡ false = grind (arith, nat_tests) in
    let rest = filter p (range_with_len (a + 1) (suc m)) in
    let y : total T (filter p (range_with_len a (suc (suc m)))) ≡ total T rest = ap (λ (t : Bool). total T (cond t (a ∷ rest) rest)) (q a ∙ x) in
    let w : min (suc m) 1 ≡ min (suc (suc m)) 1 = omega arith in
    y ∙ total_last T E p b (a + 1) (suc m) (omega (arith, e)) h q ∙ ap (λ (r : ℕ). r * E) w

total_none : (T : ℕ → ℕ) (ks : List ℕ) (E : ℕ) → ks ≡ [] → total T ks ≡ 0 * E
total_none T ks E e = ap (total T) e ∙ (let z : 0 ≡ 0 * E = omega arith in z)

blank_total : (l : Level) (T : ℕ → ℕ) (E : ℕ) (fill : ℤ) (n : ℕ) (ns : List ℕ) (f : Slice) → ((cs : List ℕ) → f cs ≡ fill) → ((i : ℕ) → T i ≡ E) → total T (kept l fill n ns f) ≡ empty_kept l n * E
blank_total level.Dense T E fill n ns f h t = total_same T E 0 n (λ i x y. t i)
blank_total level.List T E fill n ns f h t = total_none T (kept level.List fill n ns f) E (no_value fill ns f h n)
blank_total level.Dict T E fill n ns f h t = total_none T (kept level.Dict fill n ns f) E (no_value fill ns f h n)
blank_total level.Band T E fill n ns f h t = total_none T (kept level.Band fill n ns f) E (ap span_of (no_value fill ns f h n))
blank_total level.Runs T E fill n ns f h t = total_last T E (ends_run n f) n 0 n (omega arith) t (ends_last n fill f h)

pub count_blank : (k : ℕ) (ls : List Level) (fill : ℤ) (ns : List ℕ) (f : Slice) → ((cs : List ℕ) → f cs ≡ fill) → count ls fill ns k f ≡ empty_count ls ns k
count_blank zero ls fill ns f h = refl
count_blank (suc k) [] fill ns f h = refl
count_blank (suc k) (l ∷ ls) fill [] f h = refl
count_blank (suc k) (l ∷ ls) fill (n ∷ ns) f h = blank_total l (λ i. count ls fill ns k (slice_at f i)) (empty_count ls ns k) fill n ns f h (λ i. count_blank k ls fill ns (slice_at f i) (λ cs. h (i ∷ cs)))

-- ---- products as far as the limit
pub capped : (r e : ℕ) → min Limit (r * min Limit e) ≡ min Limit (r * e)
capped zero e = omega arith
capped (suc r) e =
    ⊎_elim
    (λ (lt : e < Limit). let s : min Limit e ≡ e = omega arith in ap (λ (x : ℕ). min Limit (suc r * x)) s)
    (λ (le : Limit ≤ e).
    let s : min Limit e ≡ Limit = omega arith in
    let a : suc r * e ≡ e + r * e = grind arith in
    let b : suc r * Limit ≡ Limit + r * Limit = grind arith in
    let c : suc r * min Limit e ≡ suc r * Limit = ap (λ (x : ℕ). suc r * x) s in
    omega (arith, a, b, c))
    (cases_lt e Limit)

-- ---- one level, in the words of the code
pub count_step : (ls0 : List Level) (l : Level) (ls : List Level) (fill : ℤ) (ns0 : List ℕ) (n : ℕ) (ns : List ℕ) (k0 k : ℕ) (f : Slice) → ls0 ≡ l ∷ ls → ns0 ≡ n ∷ ns → k0 ≡ suc k → count ls0 fill ns0 k0 f ≡ total (λ i. count ls fill ns k (slice_at f i)) (kept l fill n ns f)
count_step ls0 l ls fill ns0 n ns k0 k f a b e = ap (λ x. count x fill ns0 k0 f) a ∙ ap (λ x. count (l ∷ ls) fill x k0 f) b ∙ ap (λ x. count (l ∷ ls) fill (n ∷ ns) x f) e

pub empty_step : (ls0 : List Level) (l : Level) (ls : List Level) (ns0 : List ℕ) (n : ℕ) (ns : List ℕ) (k0 k : ℕ) → ls0 ≡ l ∷ ls → ns0 ≡ n ∷ ns → k0 ≡ suc k → empty_count ls0 ns0 k0 ≡ empty_kept l n * empty_count ls ns k
empty_step ls0 l ls ns0 n ns k0 k a b e = ap (λ x. empty_count x ns0 k0) a ∙ ap (λ x. empty_count (l ∷ ls) x k0) b ∙ ap (λ x. empty_count (l ∷ ls) (n ∷ ns) x) e

-- ---- the sizes of all levels
abbrev pub slices_at : List Level → ℤ → List ℕ → ℕ → List Slice → List Slice
slices_at ls fill ns zero fs = fs
slices_at (l ∷ ls) fill (n ∷ ns) (suc k) fs = slices_at ls fill ns k (next (kept l fill n ns) fs)
slices_at ls fill ns (suc k) fs = []

abbrev pub totals : (Slice → ℕ) → List Slice → ℕ
totals T [] = 0
totals T (f ∷ fs) = T f + totals T fs

totals_append : (T : Slice → ℕ) (fs gs : List Slice) → totals T (fs ++ gs) ≡ totals T fs + totals T gs
totals_append T [] gs = omega arith
totals_append T (f ∷ fs) gs = omega (arith, totals_append T fs gs)

totals_map : (T : Slice → ℕ) (f : Slice) (ks : List ℕ) → totals T (map (slice_at f) ks) ≡ total (λ i. T (slice_at f i)) ks
totals_map T f [] = refl
totals_map T f (k ∷ ks) = omega (arith, totals_map T f ks)

totals_next : (T : Slice → ℕ) (K : Slice → List ℕ) (fs : List Slice) → totals T (next K fs) ≡ totals (λ f. total (λ i. T (slice_at f i)) (K f)) fs
totals_next T K [] = refl
totals_next T K (f ∷ fs) = omega (arith, totals_append T (map (slice_at f) (K f)) (next K fs), totals_map T f (K f), totals_next T K fs)

totals_one : (fs : List Slice) → totals (λ _. 1) fs ≡ length fs
totals_one [] = refl
totals_one (f ∷ fs) = omega (arith, totals_one fs)

totals_none : (fs : List Slice) → totals (λ _. 0) fs ≡ 0
totals_none [] = refl
totals_none (f ∷ fs) = omega (arith, totals_none fs)

size_is : (k : ℕ) (ls : List Level) (fill : ℤ) (ns : List ℕ) (fs : List Slice) → length (slices_at ls fill ns k fs) ≡ totals (count ls fill ns k) fs
size_is zero ls fill ns fs = sym (totals_one fs)
size_is (suc k) (l ∷ ls) fill (n ∷ ns) fs = size_is k ls fill ns (next (kept l fill n ns) fs) ∙ totals_next (count ls fill ns k) (kept l fill n ns) fs
size_is (suc k) [] fill ns fs = sym (totals_none fs)
size_is (suc k) (l ∷ ls) fill [] fs = sym (totals_none fs)

allowed_at : (k : ℕ) (ls : List Level) (fill : ℤ) (ns : List ℕ) (fs : List Slice) → k ≤ length ls → IsAllowed ls fill ns fs → length (slices_at ls fill ns k fs) ≤ 2 ^ 40
allowed_at zero [] fill ns fs h a = a
allowed_at zero (l ∷ ls) fill [] fs h a = absurd a
allowed_at zero (l ∷ ls) fill (n ∷ ns) fs h a = a.0
allowed_at (suc k) [] fill ns fs h a = absurd (omega arith)
allowed_at (suc k) (l ∷ ls) fill [] fs h a = absurd a
allowed_at (suc k) (l ∷ ls) fill (n ∷ ns) fs h a = allowed_at k ls fill ns (next (kept l fill n ns) fs) (omega arith) a.1

allowed_by : (ls : List Level) (fill : ℤ) (ns : List ℕ) (fs : List Slice) → length ns ≡ length ls → ((k : ℕ) → k ≤ length ls → length (slices_at ls fill ns k fs) ≤ 2 ^ 40) → IsAllowed ls fill ns fs
allowed_by [] fill ns fs e h = h 0 (omega arith)
allowed_by (l ∷ ls) fill [] fs e h = absurd (omega arith)
allowed_by (l ∷ ls) fill (n ∷ ns) fs e h = (h 0 (omega arith), allowed_by ls fill ns (next (kept l fill n ns) fs) (omega arith) (λ k x. h (suc k) (omega arith)))

pub count_allowed : (k : ℕ) (ls : List Level) (fill : ℤ) (ns : List ℕ) (f : Slice) → k ≤ length ls → IsAllowed ls fill ns (f ∷ []) → count ls fill ns k f ≤ 2 ^ 40
count_allowed k ls fill ns f h a = omega (arith, allowed_at k ls fill ns (f ∷ []) h a, size_is k ls fill ns (f ∷ []))

pub allowed_counts : (ls : List Level) (fill : ℤ) (ns : List ℕ) (f : Slice) → length ns ≡ length ls → ((k : ℕ) → k ≤ length ls → count ls fill ns k f ≤ 2 ^ 40) → IsAllowed ls fill ns (f ∷ [])
allowed_counts ls fill ns f e h = allowed_by ls fill ns (f ∷ []) e (λ k x. omega (arith, size_is k ls fill ns (f ∷ []), h k x))
