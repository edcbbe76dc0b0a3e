-- A canonical storage stands for its function.
use Rattle.std.proofs.Common.{◌≡◌, ℕ, zero, suc, ◌+◌, ◌-◌, ◌*◌, ◌<◌, ◌≤◌, List, [], ◌∷◌, ◌++◌, length, length-append, take, drop, refl, sym, ap, ◌∙◌, subst, inl, inr, ◌⊎◌, ⊎_elim, arith, cond, ℤ, IsTrue, map, Bool, true, false, Option, Some, None}
use Rattle.std.specs.Prelude.{slice_index, slice_index_or, nat_lt, nat_eq, ◌&&◌, ◌||◌, not, filter, flat_map, if◌then◌else◌}
use Rattle.std.specs.List.{range_with_len}
use Rattle.std.specs.Ordering.{int_eq}
use Rattle.std.proofs.lemmas.Bool.{cases_lt, cases_eq, ltb-true}
use Rattle.std.proofs.lemmas.Bool.Decides.{nat_tests}
use Rattle.std.proofs.lemmas.Int.{ints}
use Rattle.std.proofs.lemmas.List.{append-nil, take_more, take-append-drop, length-map, get_or-map}
use Rattle.std.proofs.lemmas.List.Concat.{flat_map-append, get_or-flat_map}
use Rattle.std.proofs.lemmas.List.FromFn.{length-range_with_len, get_or-range_with_len}
use Rattle.fin_tensor.specs.declared.format.Level.{Level}
use Rattle.fin_tensor.specs.declared.format.Level.TheVariants as level
use Rattle.fin_tensor.specs.declared.part.Part.TheVariants as part
use Rattle.fin_tensor.specs.Levels.{first_from, key_in, block_in, child_in, below, value_from}
use Rattle.fin_tensor.proofs.Fibres.{first_is, first_place, fibre_rises}
use Rattle.fin_tensor.specs.Canon.{Slice, slice_at, has_value, ends_run, last_of, span_of, kept, next, starts, part_of, canon_parts, canon_values}
use Rattle.fin_tensor.specs.TensorFunction.{is_in_box}
use Rattle.fin_canon.proofs.Placed.{IsPlacedOver, placed_rest, no_shape}
use Rattle.fin_canon.proofs.Kept.{IsRising, Place, IsNext, IsBlankAt, filter_rising, filter_next, keys_have}

-- ---- where the kept coordinates of a slice stand
abbrev pub off : (Slice → List ℕ) → List Slice → ℕ → ℕ
off K fs p = length (flat_map K (take p fs))

abbrev pub nth : List Slice → ℕ → ℤ → Slice
nth fs p fill = slice_index_or fs p (λ _. fill)

pub starts_at : (K : Slice → List ℕ) (fs : List Slice) (a p : ℕ) → p ≤ length fs → slice_index (starts K a fs) p ≡ a + off K fs p
starts_at K [] a zero h = omega arith
starts_at K (f ∷ fs) a zero h = omega arith
starts_at K [] a (suc p) h = absurd (omega arith)
starts_at K (f ∷ fs) a (suc p) h = omega (arith, starts_at K fs (a + length (K f)) p (omega arith), length-append (K f) (flat_map K (take p fs)))

pub off_more : (K : Slice → List ℕ) (fs : List Slice) (p : ℕ) (fill : ℤ) → p < length fs → off K fs (p + 1) ≡ off K fs p + length (K (nth fs p fill))
off_more K fs p fill h =
    let g = nth fs p fill in
    let a = ap (λ (l : List Slice). length (flat_map K l)) (take_more fs p (λ _. fill) h) in
    let b = ap (λ (l : List ℕ). length l) (flat_map-append K (take p fs) (g ∷ [])) in
    let c = length-append (flat_map K (take p fs)) (flat_map K (g ∷ [])) in
    let d = length-append (K g) [] in
    omega (arith, a, b, c, d)

pub next_length : (K : Slice → List ℕ) (fs : List Slice) → length (next K fs) ≡ length (flat_map K fs)
next_length K [] = refl
next_length K (f ∷ fs) = omega (arith, length-append (map (slice_at f) (K f)) (next K fs), length-append (K f) (flat_map K fs), length-map (K f) (slice_at f), next_length K fs)

pub next_at : (K : Slice → List ℕ) (fs : List Slice) (p j : ℕ) (fill : ℤ) → p < length fs → j < length (K (nth fs p fill)) → nth (next K fs) (off K fs p + j) fill ≡ slice_at (nth fs p fill) (slice_index (K (nth fs p fill)) j)
next_at K fs p j fill a b =
    let g = nth fs p fill in
    let o : length (next K (take p fs)) ≡ off K fs p = next_length K (take p fs) in
    let l : j < length (map (slice_at g) (K g)) = omega (arith, length-map (K g) (slice_at g)) in
    ap (λ (x : ℕ). nth (next K fs) (x + j) fill) (sym o)
    ∙ get_or-flat_map (λ f. map (slice_at f) (K f)) fs p j (λ _. fill) (λ _. fill) a l
    ∙ get_or-map (slice_at g) (K g) j 0 (λ _. fill) b

-- one slice more
pub kept_push : (K : Slice → List ℕ) (fs : List Slice) (i : ℕ) (fill : ℤ) → i < length fs → flat_map K (take (i + 1) fs) ≡ flat_map K (take i fs) ++ K (nth fs i fill)
kept_push K fs i fill lt =
    ap (flat_map K) (take_more fs i (λ _. fill) lt) ∙ flat_map-append K (take i fs) (nth fs i fill ∷ []) ∙ ap (λ (l : List ℕ). flat_map K (take i fs) ++ l) (append-nil (K (nth fs i fill)))

-- ---- the child of a position
pub record Reached (ns : List ℕ) (g : Slice) (ks : List ℕ) (from i q : ℕ) : Type 0 where
  pub j : ℕ
  pub within : j < length ks
  pub place : q ≡ from + j
  pub same : (cs : List ℕ) → IsTrue (is_in_box ns cs) → g (slice_index ks j ∷ cs) ≡ g (i ∷ cs)

abbrev pub ChildIs : ℤ → List ℕ → Slice → List ℕ → ℕ → ℕ → Option ℕ → Type 0
ChildIs fill ns g ks from i None = IsBlankAt fill ns g i
ChildIs fill ns g ks from i (Some q) = Reached ns g ks from i q

reached : (ns : List ℕ) (g : Slice) (ks : List ℕ) (from i j q : ℕ) → j < length ks → q ≡ from + j → slice_index ks j ≡ i → Reached ns g ks from i q
reached ns g ks from i j q l p e = record { j = j; within = l; place = p; same = λ cs b. ap (λ (x : ℕ). g (x ∷ cs)) e }

pub rising_lt : (a b : ℕ) (ks : List ℕ) → IsRising a b ks → (m j : ℕ) → m < j → j < length ks → slice_index ks m < slice_index ks j
rising_lt a b ks r m j lt l = omega (arith, fibre_rises ks 0 (length ks) (λ k x y. r.rises k y) m j (omega arith) (omega arith) l)

-- what the list of a fibre holds
pub record Holds (xs ks : List ℕ) (from to by : ℕ) : Type 0 where
  pub ends : to ≡ from + length ks
  pub at : (j : ℕ) → j < length ks → slice_index xs (from + j) ≡ slice_index ks j + by

holds_at : (xs ks : List ℕ) (from to by k : ℕ) → Holds xs ks from to by → from ≤ k → k < to → slice_index xs k ≡ slice_index ks (k - from) + by
holds_at xs ks from to by k h lo hi = let e : from + (k - from) ≡ k = omega arith in ap (slice_index xs) (sym e) ∙ h.at (k - from) (omega (arith, h.ends))

first_at : (xs ks : List ℕ) (from to by n key j : ℕ) → Holds xs ks from to by → IsRising 0 n ks → j < length ks → ((m : ℕ) → m < j → slice_index ks m + by < key) → key ≤ slice_index ks j + by → first_from xs key from (to - from) ≡ from + j
first_at xs ks from to by n key j h r l before here =
    first_is xs key from to (from + j) (omega arith) (omega (arith, h.ends))
    (λ k lo hi. omega (arith, holds_at xs ks from to by k h lo (omega (arith, h.ends)), before (k - from) (omega arith)))
    (λ lt. omega (arith, h.at j l))

pub key_found : (xs : List ℕ) (from to key r : ℕ) → first_from xs key from (to - from) ≡ r → r < to → slice_index xs r ≡ key → key_in xs from to key ≡ Some r
key_found xs from to key r e lt is =
    let a : nat_lt r to ≡ true = grind (arith, nat_tests) in
    let b : nat_eq (slice_index xs r) key ≡ true = grind (arith, nat_tests) in
    rw (e, a, b) refl

both_left : (a b : Bool) → (a && b) ≡ true → a ≡ true
both_left true b h = refl
both_left false b h = h

both_right : (a b : Bool) → (a && b) ≡ true → b ≡ true
both_right true b h = h
both_right false b h = cc

eq_is : (a b : ℕ) → nat_eq a b ≡ true → a ≡ b
eq_is a b h = grind (arith, nat_tests)

pub keys_child : (fill : ℤ) (n : ℕ) (ns : List ℕ) (g : Slice) (xs ks : List ℕ) (from to i : ℕ) → Holds xs ks from to 0 → IsRising 0 n ks → Place ks i ⊎ IsBlankAt fill ns g i → ChildIs fill ns g ks from i (key_in xs from to i)
keys_child fill n ns g xs ks from to i h r (inl p) =
    let f : first_from xs i from (to - from) ≡ from + p.j = first_at xs ks from to 0 n i p.j h r p.within (λ m l. omega (arith, rising_lt 0 n ks r m p.j l p.within, p.is)) (omega (arith, p.is)) in
    let is : slice_index xs (from + p.j) ≡ i = omega (arith, h.at p.j p.within, p.is) in
    subst (ChildIs fill ns g ks from i) (sym (key_found xs from to i (from + p.j) f (omega (arith, h.ends, p.within)) is))
    (reached ns g ks from i p.j (from + p.j) p.within refl p.is)
keys_child fill n ns g xs ks from to i h r (inr blank) =
    let q = first_from xs i from (to - from) in
    let place = first_place xs i from to (omega (arith, h.ends)) in
    let t = nat_lt q to && nat_eq (slice_index xs q) i in
    elim t as (λ b. t ≡ b → ChildIs fill ns g ks from i (cond b (Some q) None)) [
      | true ↦ λ e.
          let lt : q < to = ltb-true q to (both_left (nat_lt q to) (nat_eq (slice_index xs q) i) e) in
          let is : slice_index xs q ≡ i = eq_is (slice_index xs q) i (both_right (nat_lt q to) (nat_eq (slice_index xs q) i) e) in
          reached ns g ks from i (q - from) q (omega (arith, h.ends, place.low)) (omega (arith, place.low)) (omega (arith, holds_at xs ks from to 0 q h place.low lt))
      | false ↦ λ _. blank
    ] refl

-- runs
or_right : (a b : Bool) → (a || not b) ≡ false → b ≡ true
or_right true b h = cc
or_right false true h = refl
or_right false false h = cc

same_int : (v w : ℤ) → int_eq v w ≡ true → v ≡ w
same_int v w e = grind (arith, ints)

run_goes : (n : ℕ) (g : Slice) (i d : ℕ) → ((m : ℕ) → i ≤ m → m < i + d → ends_run n g m ≡ false) → g ((i + d) ∷ []) ≡ g (i ∷ [])
run_goes n g i zero h = let e : i + 0 ≡ i = omega arith in ap (λ (x : ℕ). g (x ∷ [])) e
run_goes n g i (suc d) h =
    let e : i + suc d ≡ (i + d) + 1 = omega arith in
    let s = same_int (g ((i + d) ∷ [])) (g ((i + d + 1) ∷ [])) (or_right (nat_eq (i + d + 1) n) (int_eq (g ((i + d) ∷ [])) (g ((i + d + 1) ∷ []))) (h (i + d) (omega arith) (omega arith))) in
    ap (λ (x : ℕ). g (x ∷ [])) e ∙ sym s ∙ run_goes n g i d (λ m a b. h m a (omega arith))

run_same : (n : ℕ) (g : Slice) (i k : ℕ) → i ≤ k → ((m : ℕ) → i ≤ m → m < k → ends_run n g m ≡ false) → (cs : List ℕ) → IsTrue (is_in_box [] cs) → g (k ∷ cs) ≡ g (i ∷ cs)
run_same n g i k le h [] b = let e : i + (k - i) ≡ k = omega arith in ap (λ (x : ℕ). g (x ∷ [])) (sym e) ∙ run_goes n g i (k - i) (λ m a l. h m a (omega arith))
run_same n g i k le h (c ∷ cs) b = cc

pub runs_child : (fill : ℤ) (n : ℕ) (g : Slice) (xs ks : List ℕ) (from to i : ℕ) → Holds xs ks from to 1 → IsRising 0 n ks → IsNext (ends_run n g) ks i → ChildIs fill [] g ks from i (Some (first_from xs (i + 1) from (to - from)))
runs_child fill n g xs ks from to i h r p = record {
  j = p.j;
  within = p.within;
  place = first_at xs ks from to 1 n (i + 1) p.j h r p.within (λ m l. omega (arith, p.before m l)) (omega (arith, p.up));
  same = run_same n g i (slice_index ks p.j) p.up p.skipped;
}

-- a block
pub block_child : (fill : ℤ) (ns : List ℕ) (g : Slice) (ks : List ℕ) (from to start i : ℕ) → to ≡ from + length ks → ((j : ℕ) → j < length ks → slice_index ks j ≡ start + j) → Place ks i ⊎ IsBlankAt fill ns g i → ChildIs fill ns g ks from i (block_in from to start i)
block_child fill ns g ks from to start i e at (inl p) =
    let is : i ≡ start + p.j = omega (arith, at p.j p.within, p.is) in
    let a : nat_lt i start ≡ false = grind (arith, nat_tests) in
    let lt : i - start < to - from = omega (arith, p.within) in
    let b : nat_lt (i - start) (to - from) ≡ true = grind (arith, nat_tests) in
    let k : block_in from to start i ≡ Some (from + (i - start)) = rw (a, b) refl in
    subst (ChildIs fill ns g ks from i) (sym k) (reached ns g ks from i p.j (from + (i - start)) p.within (omega arith) p.is)
block_child fill ns g ks from to start i e at (inr blank) =
    elim (nat_lt i start) as (λ b. nat_lt i start ≡ b → ChildIs fill ns g ks from i (if b then None else (if nat_lt (i - start) (to - from) then Some (from + (i - start)) else None))) [
      | true ↦ λ _. blank
      | false ↦ λ up.
          elim (nat_lt (i - start) (to - from)) as (λ b. nat_lt (i - start) (to - from) ≡ b → ChildIs fill ns g ks from i (if b then Some (from + (i - start)) else None)) [
            | true ↦ λ t.
                let lt : i - start < to - from = ltb-true (i - start) (to - from) t in
                let le : start ≤ i = grind (arith, nat_tests) in
                reached ns g ks from i (i - start) (from + (i - start)) (omega arith) refl (omega (arith, at (i - start) (omega arith)))
            | false ↦ λ _. blank
          ] refl
    ] refl

-- ---- one level
module _ (K : Slice → List ℕ) (fs : List Slice) (pos : ℕ) (fill : ℤ) (lt : pos < length fs) where
  pub from_is : slice_index (starts K 0 fs) pos ≡ off K fs pos
  from_is = omega (arith, starts_at K fs 0 pos (omega arith))

  pub to_is : slice_index (starts K 0 fs) (pos + 1) ≡ off K fs (pos + 1)
  to_is = omega (arith, starts_at K fs 0 (pos + 1) (omega arith))

  pub ends_is : off K fs (pos + 1) ≡ off K fs pos + length (K (nth fs pos fill))
  ends_is = off_more K fs pos fill lt

  pub all_at : (j : ℕ) → j < length (K (nth fs pos fill)) → slice_index (flat_map K fs) (off K fs pos + j) ≡ slice_index (K (nth fs pos fill)) j
  all_at j h = get_or-flat_map K fs pos j (λ _. fill) 0 lt h

  keys_hold : Holds (flat_map K fs) (K (nth fs pos fill)) (off K fs pos) (off K fs (pos + 1)) 0
  keys_hold = record { ends = ends_is; at = λ j h. omega (arith, all_at j h) }

  pub total_more : off K fs (pos + 1) ≤ length (flat_map K fs)
  total_more =
      let a = ap (λ (l : List ℕ). length l) (flat_map-append K (take (pos + 1) fs) (drop (pos + 1) fs)) in
      let b = ap (λ (l : List Slice). length (flat_map K l)) (take-append-drop (pos + 1) fs) in
      omega (arith, a, b, length-append (flat_map K (take (pos + 1) fs)) (flat_map K (drop (pos + 1) fs)))

  stops_hold : Holds (map (λ i. i + 1) (flat_map K fs)) (K (nth fs pos fill)) (off K fs pos) (off K fs (pos + 1)) 1
  stops_hold = record { ends = ends_is; at = λ j h. get_or-map (λ i. i + 1) (flat_map K fs) (off K fs pos + j) 0 0 (omega (arith, total_more, ends_is)) ∙ ap (λ x. x + 1) (all_at j h) }

  child_keys : (n : ℕ) (ns : List ℕ) (i : ℕ) → IsRising 0 n (K (nth fs pos fill)) → Place (K (nth fs pos fill)) i ⊎ IsBlankAt fill ns (nth fs pos fill) i →
      ChildIs fill ns (nth fs pos fill) (K (nth fs pos fill)) (off K fs pos) i (key_in (flat_map K fs) (slice_index (starts K 0 fs) pos) (slice_index (starts K 0 fs) (pos + 1)) i)
  child_keys n ns i r p =
      let g = nth fs pos fill in
      subst (λ (x : ℕ). ChildIs fill ns g (K g) (off K fs pos) i (key_in (flat_map K fs) x (slice_index (starts K 0 fs) (pos + 1)) i)) (sym from_is)
      (subst (λ (y : ℕ). ChildIs fill ns g (K g) (off K fs pos) i (key_in (flat_map K fs) (off K fs pos) y i)) (sym to_is)
      (keys_child fill n ns g (flat_map K fs) (K g) (off K fs pos) (off K fs (pos + 1)) i keys_hold r p))

  child_runs : (n i : ℕ) → IsRising 0 n (K (nth fs pos fill)) → IsNext (ends_run n (nth fs pos fill)) (K (nth fs pos fill)) i →
      ChildIs fill [] (nth fs pos fill) (K (nth fs pos fill)) (off K fs pos) i (child_in n (part.Runs (starts K 0 fs) (map (λ k. k + 1) (flat_map K fs))) pos i)
  child_runs n i r p =
      let g = nth fs pos fill in
      let stop = map (λ k. k + 1) (flat_map K fs) in
      subst (λ (x : ℕ). ChildIs fill [] g (K g) (off K fs pos) i (Some (first_from stop (i + 1) x (slice_index (starts K 0 fs) (pos + 1) - x)))) (sym from_is)
      (subst (λ (y : ℕ). ChildIs fill [] g (K g) (off K fs pos) i (Some (first_from stop (i + 1) (off K fs pos) (y - off K fs pos)))) (sym to_is)
      (runs_child fill n g stop (K g) (off K fs pos) (off K fs (pos + 1)) i stops_hold r p))

  child_block : (ns : List ℕ) (i : ℕ) → ((j : ℕ) → j < length (K (nth fs pos fill)) → slice_index (K (nth fs pos fill)) j ≡ slice_index (K (nth fs pos fill)) 0 + j) → Place (K (nth fs pos fill)) i ⊎ IsBlankAt fill ns (nth fs pos fill) i →
      ChildIs fill ns (nth fs pos fill) (K (nth fs pos fill)) (off K fs pos) i (block_in (slice_index (starts K 0 fs) pos) (slice_index (starts K 0 fs) (pos + 1)) (slice_index (map (λ f. slice_index (K f) 0) fs) pos) i)
  child_block ns i at p =
      let g = nth fs pos fill in
      let s : slice_index (map (λ f. slice_index (K f) 0) fs) pos ≡ slice_index (K g) 0 = get_or-map (λ f. slice_index (K f) 0) fs pos (λ _. fill) 0 lt in
      subst (λ (x : ℕ). ChildIs fill ns g (K g) (off K fs pos) i (block_in x (slice_index (starts K 0 fs) (pos + 1)) (slice_index (map (λ f. slice_index (K f) 0) fs) pos) i)) (sym from_is)
      (subst (λ (y : ℕ). ChildIs fill ns g (K g) (off K fs pos) i (block_in (off K fs pos) y (slice_index (map (λ f. slice_index (K f) 0) fs) pos) i)) (sym to_is)
      (subst (λ (z : ℕ). ChildIs fill ns g (K g) (off K fs pos) i (block_in (off K fs pos) (off K fs (pos + 1)) z i)) (sym s)
      (block_child fill ns g (K g) (off K fs pos) (off K fs (pos + 1)) (slice_index (K g) 0) i ends_is at p)))

-- dense levels
pub off_dense : (n : ℕ) (fs : List Slice) (p : ℕ) → p ≤ length fs → off (λ _. range_with_len 0 n) fs p ≡ p * n
off_dense n fs zero h = omega arith
off_dense n [] (suc p) h = absurd (omega arith)
off_dense n (f ∷ fs) (suc p) h =
    let a = length-append (range_with_len 0 n) (flat_map (λ (_ : Slice). range_with_len 0 n) (take p fs)) in
    let b = off_dense n fs p (omega arith) in
    let d : suc p * n ≡ n + p * n = grind arith in
    omega (arith, a, b, d, length-range_with_len 0 n)

child_dense : (fill : ℤ) (n : ℕ) (ns : List ℕ) (fs : List Slice) (pos i : ℕ) → pos < length fs → i < n → ChildIs fill ns (nth fs pos fill) (range_with_len 0 n) (off (λ _. range_with_len 0 n) fs pos) i (Some (pos * n + i))
child_dense fill n ns fs pos i lt h =
    reached ns (nth fs pos fill) (range_with_len 0 n) (off (λ _. range_with_len 0 n) fs pos) i i (pos * n + i) (omega (arith, length-range_with_len 0 n)) (omega (arith, off_dense n fs pos (omega arith))) (omega (arith, get_or-range_with_len 0 n i 0 h))

-- bands
pub last_is : (x : ℕ) (ks : List ℕ) → last_of x ks ≡ slice_index (x ∷ ks) (length ks)
last_is x [] = refl
last_is x (y ∷ ys) = last_is y ys

span_has : (a b : ℕ) (ks : List ℕ) (i : ℕ) → IsRising a b ks → Place ks i → Place (span_of ks) i
span_has a b [] i r p = absurd (omega (arith, p.within))
span_has a b (x ∷ ks) i r p =
    let n = last_of x ks + 1 - x in
    let low : x ≤ i = ⊎_elim (λ (e : p.j ≡ 0). let s : slice_index (x ∷ ks) p.j ≡ x = ap (slice_index (x ∷ ks)) e in omega (arith, p.is)) (λ ne. omega (arith, rising_lt a b (x ∷ ks) r 0 p.j (omega (arith, ne)) p.within, p.is)) (cases_eq p.j 0) in
    let high : i ≤ last_of x ks = ⊎_elim (λ (l : p.j < length ks). omega (arith, rising_lt a b (x ∷ ks) r p.j (length ks) l (omega arith), p.is, last_is x ks)) (λ (l : length ks ≤ p.j). let e : p.j ≡ length ks = omega (arith, p.within) in let s : slice_index (x ∷ ks) p.j ≡ last_of x ks = ap (slice_index (x ∷ ks)) e ∙ sym (last_is x ks) in omega (arith, p.is)) (cases_lt p.j (length ks)) in
    record { j = i - x; within = omega (arith, length-range_with_len x n); is = get_or-range_with_len x n (i - x) 0 (omega arith) ∙ (let e : x + (i - x) ≡ i = omega arith in e) }

pub span_steps : (ks : List ℕ) (j : ℕ) → j < length (span_of ks) → slice_index (span_of ks) j ≡ slice_index (span_of ks) 0 + j
span_steps [] j h = absurd (omega arith)
span_steps (x ∷ ks) j h =
    let n = last_of x ks + 1 - x in
    let l = length-range_with_len x n in
    omega (arith, get_or-range_with_len x n j 0 (omega arith), get_or-range_with_len x n 0 0 (omega arith))

pub span_rising : (a b : ℕ) (ks : List ℕ) → IsRising a b ks → IsRising a b (span_of ks)
span_rising a b [] r = r
span_rising a b (x ∷ ks) r =
    let n = last_of x ks + 1 - x in
    let l = length-range_with_len x n in
    record {
      low = λ j h. omega (arith, get_or-range_with_len x n j 0 (omega arith), r.low 0 (omega arith));
      high = λ j h. omega (arith, get_or-range_with_len x n j 0 (omega arith), r.high (length ks) (omega arith), last_is x ks);
      rises = λ j h. omega (arith, get_or-range_with_len x n j 0 (omega arith), get_or-range_with_len x n (j + 1) 0 (omega arith));
    }

pub last_ends : (n : ℕ) (g : Slice) (m : ℕ) → m + 1 ≡ 0 + n → ends_run n g m ≡ true
last_ends n g m e = let t : nat_eq (m + 1) n ≡ true = grind (arith, nat_tests) in rw t refl

-- the child, whatever the level
pub child_is : (l : Level) (fill : ℤ) (n : ℕ) (ns : List ℕ) (fs : List Slice) (pos i : ℕ) → (l ≡ level.Runs → ns ≡ []) → pos < length fs → i < n →
    ChildIs fill ns (nth fs pos fill) (kept l fill n ns (nth fs pos fill)) (off (kept l fill n ns) fs pos) i (child_in n (part_of l (kept l fill n ns) fs) pos i)
child_is level.Dense fill n ns fs pos i last lt h = child_dense fill n ns fs pos i lt h
child_is level.List fill n ns fs pos i last lt h =
    child_keys (kept level.List fill n ns) fs pos fill lt n ns i (filter_rising (has_value fill ns (nth fs pos fill)) 0 n n (omega arith)) (keys_have fill n ns (nth fs pos fill) i h)
child_is level.Dict fill n ns fs pos i last lt h =
    child_keys (kept level.Dict fill n ns) fs pos fill lt n ns i (filter_rising (has_value fill ns (nth fs pos fill)) 0 n n (omega arith)) (keys_have fill n ns (nth fs pos fill) i h)
child_is level.Band fill n ns fs pos i last lt h =
    let g = nth fs pos fill in
    let ks = filter (has_value fill ns g) (range_with_len 0 n) in
    child_block (kept level.Band fill n ns) fs pos fill lt ns i (span_steps ks)
    (⊎_elim (λ (p : Place ks i). inl (span_has 0 n ks i (filter_rising (has_value fill ns g) 0 n n (omega arith)) p)) (λ b. inr b) (keys_have fill n ns g i h))
child_is level.Runs fill n ns fs pos i last lt h =
    let g = nth fs pos fill in
    subst (λ (m : List ℕ). ChildIs fill m g (kept level.Runs fill n ns g) (off (kept level.Runs fill n ns) fs pos) i (child_in n (part_of level.Runs (kept level.Runs fill n ns) fs) pos i)) (sym (last refl))
    (child_runs (kept level.Runs fill n ns) fs pos fill lt n i (filter_rising (ends_run n g) 0 n n (omega arith)) (filter_next (ends_run n g) 0 n i (omega arith) (omega arith) (last_ends n g)))

-- ---- all levels
value_below : (fill : ℤ) (n : ℕ) (ns : List ℕ) (K : Slice → List ℕ) (fs : List Slice) (pos i : ℕ) (F : ℕ → ℤ) (cs : List ℕ) → pos < length fs → IsTrue (is_in_box ns cs) →
    ((q : ℕ) → q < length (next K fs) → F q ≡ nth (next K fs) q fill cs) →
    (o : Option ℕ) → ChildIs fill ns (nth fs pos fill) (K (nth fs pos fill)) (off K fs pos) i o → below o F fill ≡ nth fs pos fill (i ∷ cs)
value_below fill n ns K fs pos i F cs lt b rest None h = sym (h cs b)
value_below fill n ns K fs pos i F cs lt b rest (Some q) r =
    let within : off K fs pos + r.j < length (next K fs) = omega (arith, next_length K fs, total_more K fs pos fill lt, ends_is K fs pos fill lt, r.within) in
    ap F r.place ∙ rest (off K fs pos + r.j) within ∙ ap (λ (s : Slice). s cs) (next_at K fs pos r.j fill lt r.within) ∙ r.same cs b

pub slices_stand : (ls : List Level) (fill : ℤ) (ns : List ℕ) (fs : List Slice) → IsPlacedOver ls ns → (pos : ℕ) (cs : List ℕ) → pos < length fs → IsTrue (is_in_box ns cs) →
    value_from ns (canon_parts ls fill ns fs) (canon_values ls fill ns fs) fill pos cs ≡ slice_index_or fs pos (λ _. fill) cs
slices_stand [] fill [] fs placed pos [] lt b = get_or-map (λ (f : Slice). f []) fs pos (λ _. fill) fill lt
slices_stand [] fill [] fs placed pos (c ∷ cs) lt b = cc
slices_stand [] fill (n ∷ ns) fs placed pos cs lt b = absurd placed
slices_stand (l ∷ ls) fill [] fs placed pos [] lt b = absurd (no_shape l ls placed)
slices_stand (l ∷ ls) fill [] fs placed pos (c ∷ cs) lt b = cc
slices_stand (l ∷ ls) fill (n ∷ ns) fs placed pos [] lt b = cc
slices_stand (l ∷ ls) fill (n ∷ ns) fs placed pos (i ∷ cs) lt b =
    let K = kept l fill n ns in
    let p = placed_rest l ls n ns placed in
    let h : i < n = ltb-true i n (both_left (nat_lt i n) (is_in_box ns cs) b) in
    let inner : IsTrue (is_in_box ns cs) = both_right (nat_lt i n) (is_in_box ns cs) b in
    value_below fill n ns K fs pos i (λ q. value_from ns (canon_parts ls fill ns (next K fs)) (canon_values ls fill ns (next K fs)) fill q cs) cs lt inner
    (λ q within. slices_stand ls fill ns (next K fs) p.0 q cs within inner)
    (child_in n (part_of l K fs) pos i) (child_is l fill n ns fs pos i p.1 lt h)
