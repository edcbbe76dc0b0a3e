-- Lists that rise, and the coordinates of a box.
use Rattle.std.proofs.Common.{◌≡◌, ◌≢◌, ℕ, zero, suc, ◌+◌, ◌<◌, ◌≤◌, List, [], ◌∷◌, ◌++◌, length, drop, drop-cons, refl, sym, ap, ◌∙◌, subst, inl, inr, ◌⊎◌, ⊎_elim, arith, cond, ℤ, IsTrue, map, Bool, true, false}
use Rattle.std.specs.Prelude.{slice_index, nat_lt, ◌&&◌, filter, flat_map}
use Rattle.std.specs.List.{range_with_len}
use Rattle.std.specs.Ordering.{int_eq}
use Rattle.std.proofs.lemmas.Int.{ints}
use Rattle.std.proofs.lemmas.Bool.{cases_lt, cases_eq, ltb-true, lt-ltb}
use Rattle.std.proofs.lemmas.List.{drop_all}
use Rattle.fin_tensor.specs.TensorFunction.{is_in_box, box}
use Rattle.fin_tensor.specs.Canon.{Slice, is_fill_at}
use Rattle.fin_canon.proofs.Kept.{IsRising, Place, place_cons, and_left, and_right}

-- ---- two lists that rise and have the same elements
above : (a b x : ℕ) (xs : List ℕ) → IsRising a b (x ∷ xs) → (j : ℕ) → j < length xs → x < slice_index xs j
above a b x xs r zero h = r.rises 0 (omega arith)
above a b x xs r (suc j) h = let o : suc j + 1 ≡ suc (suc j) = omega arith in omega (arith, above a b x xs r j (omega arith), r.rises (suc j) (omega arith), ap (slice_index (x ∷ xs)) o)

by_place : (x i : ℕ) (xs : List ℕ) → x < i → (j : ℕ) → j < length (x ∷ xs) → slice_index (x ∷ xs) j ≡ i → Place xs i
by_place x i xs lt zero h e = absurd (omega arith)
by_place x i xs lt (suc j) h e = record { j = j; within = omega arith; is = e }

least_at : (a b x : ℕ) (xs : List ℕ) → IsRising a b (x ∷ xs) → (j : ℕ) → j < length (x ∷ xs) → x ≤ slice_index (x ∷ xs) j
least_at a b x xs r zero h = omega arith
least_at a b x xs r (suc j) h = omega (arith, above a b x xs r j (omega arith))

pub first_least : (a b x : ℕ) (xs : List ℕ) → IsRising a b (x ∷ xs) → (i : ℕ) → Place (x ∷ xs) i → x ≤ i
first_least a b x xs r i p = omega (arith, least_at a b x xs r p.j p.within, p.is)

rising_tail : (a b x : ℕ) (xs : List ℕ) → IsRising a b (x ∷ xs) → IsRising (x + 1) b xs
rising_tail a b x xs r = record {
  low = λ j h. omega (arith, above a b x xs r j h);
  high = λ j h. r.high (suc j) (omega arith);
  rises = λ j h. let o : suc j + 1 ≡ suc (j + 1) = omega arith in let s = r.rises (suc j) (omega arith) in omega (arith, s, ap (slice_index (x ∷ xs)) o);
}

in_tail : (a b x i : ℕ) (xs : List ℕ) → x < i → Place (x ∷ xs) i → Place xs i
in_tail a b x i xs lt p = by_place x i xs lt p.j p.within p.is

pub same_rising : (a b : ℕ) (xs ys : List ℕ) → IsRising a b xs → IsRising a b ys → ((i : ℕ) → Place xs i → Place ys i) → ((i : ℕ) → Place ys i → Place xs i) → xs ≡ ys
same_rising a b [] [] r s f g = refl
same_rising a b [] (y ∷ ys) r s f g = absurd (omega (arith, (g y (record { j = 0; within = omega arith; is = refl })).within))
same_rising a b (x ∷ xs) [] r s f g = absurd (omega (arith, (f x (record { j = 0; within = omega arith; is = refl })).within))
same_rising a b (x ∷ xs) (y ∷ ys) r s f g =
    let p = first_least a b y ys s x (f x (record { j = 0; within = omega arith; is = refl })) in
    let q = first_least a b x xs r y (g y (record { j = 0; within = omega arith; is = refl })) in
    let e : x ≡ y = omega arith in
    let s' : IsRising (x + 1) b ys = subst (λ (z : ℕ). IsRising (z + 1) b ys) (sym e) (rising_tail a b y ys s) in
    let t = rising_tail a b x xs r in
    let rest : xs ≡ ys = same_rising (x + 1) b xs ys t s'
    (λ i h. in_tail a b y i ys (omega (arith, t.low h.j h.within, h.is)) (f i (place_cons x xs i h)))
    (λ i h. in_tail a b x i xs (omega (arith, s'.low h.j h.within, h.is)) (g i (place_cons y ys i h))) in
    ap (λ (z : ℕ). z ∷ xs) e ∙ ap (λ (zs : List ℕ). y ∷ zs) rest

equal_int : (v w : ℤ) → v ≡ w → int_eq v w ≡ true
equal_int v w e = grind (arith, ints)

rest_by : (x : ℕ) (ks : List ℕ) (i : ℕ) → i ≢ x → (j : ℕ) → j < length (x ∷ ks) → slice_index (x ∷ ks) j ≡ i → Place ks i
rest_by x ks i ne zero h e = absurd (ne (sym e))
rest_by x ks i ne (suc j) h e = record { j = j; within = omega arith; is = e }

pub rest_place : (x : ℕ) (ks : List ℕ) (i : ℕ) → Place (x ∷ ks) i → i ≢ x → Place ks i
rest_place x ks i p ne = rest_by x ks i ne p.j p.within p.is

-- each of these lies in the box
abbrev pub AllIn : List ℕ → List (List ℕ) → Type 0
AllIn shape [] = Unit {0}
AllIn shape (c ∷ css) = IsTrue (is_in_box shape c) × AllIn shape css

all_append : (shape : List ℕ) (a b : List (List ℕ)) → AllIn shape a → AllIn shape b → AllIn shape (a ++ b)
all_append shape [] b x y = y
all_append shape (c ∷ a) b x y = (x.0, all_append shape a b x.1 y)

all_map : (n i : ℕ) (ns : List ℕ) (css : List (List ℕ)) → i < n → AllIn ns css → AllIn (n ∷ ns) (map (λ ds. i ∷ ds) css)
all_map n i ns [] lt a = tt
all_map n i ns (c ∷ css) lt a = (let x = lt-ltb i n lt in let y = a.0 in rw (x, y) refl, all_map n i ns css lt a.1)

all_slices : (n : ℕ) (ns : List ℕ) (css : List (List ℕ)) (a m : ℕ) → a + m ≤ n → AllIn ns css → AllIn (n ∷ ns) (flat_map (λ k. map (λ ds. k ∷ ds) css) (range_with_len a m))
all_slices n ns css a zero h x = tt
all_slices n ns css a (suc m) h x = all_append (n ∷ ns) (map (λ ds. a ∷ ds) css) (flat_map (λ k. map (λ ds. k ∷ ds) css) (range_with_len (a + 1) m)) (all_map n a ns css (omega arith) x) (all_slices n ns css (a + 1) m (omega arith) x)

pub all_box : (ns : List ℕ) → AllIn ns (box ns)
all_box [] = (refl, tt)
all_box (n ∷ ns) = all_slices n ns (box ns) 0 n (omega arith) (all_box ns)

pub filter_sound : (p : ℕ → Bool) (a n i : ℕ) → Place (filter p (range_with_len a n)) i → p i ≡ true
filter_sound p a zero i h = absurd (omega (arith, h.within))
filter_sound p a (suc n) i h =
    let ks = filter p (range_with_len (a + 1) n) in
    elim (p a) as (λ t. p a ≡ t → Place (cond t (a ∷ ks) ks) i → p i ≡ true) [
      | true ↦ λ t q. ⊎_elim (λ (e : i ≡ a). ap p e ∙ t) (λ ne. filter_sound p (a + 1) n i (rest_place a ks i q ne)) (cases_eq i a)
      | false ↦ λ _ q. filter_sound p (a + 1) n i q
    ] refl h

pub all_fill : (fill : ℤ) (f : Slice) (ns : List ℕ) (css : List (List ℕ)) → AllIn ns css → ((cs : List ℕ) → IsTrue (is_in_box ns cs) → f cs ≡ fill) → is_fill_at fill f css ≡ true
all_fill fill f ns [] a h = refl
all_fill fill f ns (c ∷ css) a h =
    let x : int_eq (f c) fill ≡ true = equal_int (f c) fill (h c a.0) in
    let y = all_fill fill f ns css a.1 h in
    rw (x, y) refl

-- the first coordinates of an entry
pub split_entry : (n : ℕ) (ns : List ℕ) (d : ℕ) (cs : List ℕ) → IsTrue (is_in_box (n ∷ ns) (drop d cs)) → (d < length cs) × (drop d cs ≡ slice_index cs d ∷ drop (d + 1) cs) × (slice_index cs d < n) × IsTrue (is_in_box ns (drop (d + 1) cs))
split_entry n ns d cs h =
    let lt : d < length cs = ⊎_elim (λ (l : d < length cs). l) (λ (l : length cs ≤ d). let e = drop_all d cs l in let x : false ≡ true = subst (λ (l : List ℕ). is_in_box (n ∷ ns) l ≡ true) e h in cc) (cases_lt d (length cs)) in
    let o : suc d ≡ d + 1 = omega arith in
    let e : drop d cs ≡ slice_index cs d ∷ drop (d + 1) cs = drop-cons cs d 0 lt ∙ ap (λ (x : ℕ). slice_index cs d ∷ drop x cs) o in
    let t : (nat_lt (slice_index cs d) n && is_in_box ns (drop (d + 1) cs)) ≡ true = subst (λ (l : List ℕ). is_in_box (n ∷ ns) l ≡ true) e h in
    (lt, e, ltb-true (slice_index cs d) n (and_left (nat_lt (slice_index cs d) n) (is_in_box ns (drop (d + 1) cs)) t), and_right (nat_lt (slice_index cs d) n) (is_in_box ns (drop (d + 1) cs)) t)

pub place_or_not : (ks : List ℕ) (i : ℕ) → Place ks i ⊎ (Place ks i → ⊥)
place_or_not [] i = inr (λ p. absurd (omega (arith, p.within)))
place_or_not (x ∷ ks) i =
    ⊎_elim
    (λ (e : x ≡ i). inl (record { j = 0; within = omega arith; is = e }))
    (λ ne. ⊎_elim (λ (p : Place ks i). inl (place_cons x ks i p)) (λ (out : Place ks i → ⊥). inr (λ p. out (rest_place x ks i p (λ e. ne (sym e))))) (place_or_not ks i))
    (cases_eq x i)
