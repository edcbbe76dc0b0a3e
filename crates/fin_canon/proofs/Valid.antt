-- A canonical storage is valid where its sizes allow.
use Rattle.std.proofs.Common.{◌≡◌, ℕ, zero, suc, ◌+◌, ◌-◌, ◌^◌, ◌<◌, ◌≤◌, List, [], ◌∷◌, ◌++◌, length, length-append, refl, sym, ap, ◌∙◌, subst, ⊎_elim, arith, ℤ, pos, map, Bool}
use Rattle.std.specs.Prelude.{slice_index, filter, flat_map}
use Rattle.std.specs.List.{range_with_len}
use Rattle.std.proofs.lemmas.Bool.{cases_lt}
use Rattle.std.proofs.lemmas.List.{take_all, length-map, get_or-map, get_or_append_left, get_or-append-add, get_or_past}
use Rattle.fin_tensor.specs.declared.format.Level.{Level}
use Rattle.fin_tensor.specs.declared.format.Level.TheVariants as level
use Rattle.fin_tensor.specs.Levels.{AreSmall, IsPtr, IsIdx, IsStop, IsStart, IsLevel, IsStored, positions}
use Rattle.fin_tensor.specs.Canon.{Slice, has_value, ends_run, kept, next, starts, part_of, canon_parts, canon_values, IsAllowed}
use Rattle.fin_canon.proofs.Placed.{IsPlacedOver, placed_rest, no_shape}
use Rattle.fin_canon.proofs.Kept.{IsRising, filter_rising, filter_next}
use Rattle.fin_canon.proofs.Standing.{off, nth, starts_at, next_length, off_dense, from_is, to_is, ends_is, all_at, total_more, span_rising, span_steps, last_ends, rising_lt}

pub off_all : (K : Slice → List ℕ) (fs : List Slice) → off K fs (length fs) ≡ length (next K fs)
off_all K fs = ap (λ (l : List Slice). length (flat_map K l)) (take_all (length fs) fs (omega arith)) ∙ sym (next_length K fs)

pub starts_length : (K : Slice → List ℕ) (fs : List Slice) (a : ℕ) → length (starts K a fs) ≡ length fs + 1
starts_length K [] a = omega arith
starts_length K (f ∷ fs) a = omega (arith, starts_length K fs (a + length (K f)))

-- what is true of each kept coordinate
pub each_kept : (P : ℕ → Type 0) (K : Slice → List ℕ) → ((f : Slice) (j : ℕ) → j < length (K f) → P (slice_index (K f) j)) → (fs : List Slice) (k : ℕ) → k < length (flat_map K fs) → P (slice_index (flat_map K fs) k)
each_kept P K h [] k lt = absurd (omega arith)
each_kept P K h (f ∷ fs) k lt =
    ⊎_elim
    (λ (l : k < length (K f)). subst P (sym (get_or_append_left (K f) (flat_map K fs) 0 k l)) (h f k l))
    (λ (l : length (K f) ≤ k).
    let e : length (K f) + (k - length (K f)) ≡ k = omega arith in
    let s : slice_index (K f ++ flat_map K fs) k ≡ slice_index (flat_map K fs) (k - length (K f)) = ap (slice_index (K f ++ flat_map K fs)) (sym e) ∙ get_or-append-add (K f) (flat_map K fs) (k - length (K f)) 0 in
    subst P (sym s) (each_kept P K h fs (k - length (K f)) (omega (arith, length-append (K f) (flat_map K fs)))))
    (cases_lt k (length (K f)))

module _ (K : Slice → List ℕ) (fs : List Slice) (allowed : length (next K fs) ≤ 2 ^ 40) where
  off_small : (p : ℕ) → p ≤ length fs → off K fs p ≤ 2 ^ 40
  off_small p h =
      ⊎_elim
      (λ (l : p < length fs). omega (arith, total_more K fs p (pos 0) l, ends_is K fs p (pos 0) l, next_length K fs))
      (λ (l : length fs ≤ p). let e : p ≡ length fs = omega arith in omega (arith, ap (off K fs) e, off_all K fs))
      (cases_lt p (length fs))

  ptr_valid : IsPtr (length fs) (starts K 0 fs)
  ptr_valid = record {
    small = λ k h. let le : k ≤ length fs = omega (arith, starts_length K fs 0) in omega (arith, starts_at K fs 0 k le, off_small k le);
    long = starts_length K fs 0;
    first = omega (arith, starts_at K fs 0 0 (omega arith));
    rises = λ p h. omega (arith, from_is K fs p (pos 0) h, to_is K fs p (pos 0) h, ends_is K fs p (pos 0) h);
  }

  last_place : slice_index (starts K 0 fs) (length fs) ≡ length (flat_map K fs)
  last_place = omega (arith, starts_at K fs 0 (length fs) (omega arith), off_all K fs, next_length K fs)

  last_next : slice_index (starts K 0 fs) (length fs) ≡ length (next K fs)
  last_next = omega (arith, last_place, next_length K fs)

  -- neighbours in a fibre
  rise_within : (n : ℕ) → ((f : Slice) → IsRising 0 n (K f)) → (p k : ℕ) → p < length fs → slice_index (starts K 0 fs) p ≤ k → k + 1 < slice_index (starts K 0 fs) (p + 1) → slice_index (flat_map K fs) k < slice_index (flat_map K fs) (k + 1)
  rise_within n rising p k h lo hi =
      let a = from_is K fs p (pos 0) h in
      let b = to_is K fs p (pos 0) h in
      let c = ends_is K fs p (pos 0) h in
      let g = nth fs p (pos 0) in
      let j = k - off K fs p in
      let e : off K fs p + j ≡ k = omega arith in
      let e' : off K fs p + (j + 1) ≡ k + 1 = omega arith in
      let x = ap (slice_index (flat_map K fs)) (sym e) ∙ all_at K fs p (pos 0) h j (omega arith) in
      let y = ap (slice_index (flat_map K fs)) (sym e') ∙ all_at K fs p (pos 0) h (j + 1) (omega arith) in
      omega (arith, x, y, (rising g).rises j (omega arith))

  idx_valid : (n : ℕ) → n ≤ 2 ^ 40 → ((f : Slice) → IsRising 0 n (K f)) → IsIdx n (length fs) (starts K 0 fs) (flat_map K fs)
  idx_valid n small rising = record {
    small = λ k h. omega (arith, each_kept (λ x. x < n) K (λ f j l. (rising f).high j l) fs k h);
    long = sym last_place;
    rises = rise_within n rising;
    below = λ k h. each_kept (λ x. x < n) K (λ f j l. (rising f).high j l) fs k h;
  }

  stop_at : (k : ℕ) → k < length (flat_map K fs) → slice_index (map (λ i. i + 1) (flat_map K fs)) k ≡ slice_index (flat_map K fs) k + 1
  stop_at k h = get_or-map (λ i. i + 1) (flat_map K fs) k 0 0 h

  stop_valid : (n : ℕ) → n ≤ 2 ^ 40 → ((f : Slice) → IsRising 0 n (K f)) → ((f : Slice) → 0 < n → (0 < length (K f)) × (slice_index (K f) (length (K f) - 1) + 1 ≡ n)) → (n ≡ 0 → length (flat_map K fs) ≡ 0) →
      IsStop n (length fs) (starts K 0 fs) (map (λ i. i + 1) (flat_map K fs))
  stop_valid n small rising ends none =
      let l = length-map (flat_map K fs) (λ i. i + 1) in
      record {
        small = λ k h. omega (arith, stop_at k (omega (arith, l)), each_kept (λ x. x < n) K (λ f j m. (rising f).high j m) fs k (omega (arith, l)));
        long = omega (arith, l, last_place);
        rises = λ p k h lo hi. omega (arith, rise_within n rising p k h lo hi, stop_at k (omega (arith, to_is K fs p (pos 0) h, total_more K fs p (pos 0) h)), stop_at (k + 1) (omega (arith, to_is K fs p (pos 0) h, total_more K fs p (pos 0) h)));
        first = λ k h. omega (arith, stop_at k (omega (arith, l)));
        last = λ p h some.
            let a = from_is K fs p (pos 0) h in
            let b = to_is K fs p (pos 0) h in
            let c = ends_is K fs p (pos 0) h in
            let t = total_more K fs p (pos 0) h in
            let e = ends (nth fs p (pos 0)) some in
            let len = length (K (nth fs p (pos 0))) in
            let x : slice_index (starts K 0 fs) (p + 1) - 1 ≡ off K fs p + (len - 1) = omega (arith, e.0) in
            let y = all_at K fs p (pos 0) h (len - 1) (omega (arith, e.0)) in
            (omega (arith, e.0), ap (slice_index (map (λ i. i + 1) (flat_map K fs))) x ∙ stop_at (off K fs p + (len - 1)) (omega (arith, e.0)) ∙ ap (λ z. z + 1) y ∙ e.1);
        none = λ z. omega (arith, l, none z);
      }

  start_valid : (n : ℕ) → n ≤ 2 ^ 40 → ((f : Slice) → IsRising 0 n (K f)) → ((f : Slice) (j : ℕ) → j < length (K f) → slice_index (K f) j ≡ slice_index (K f) 0 + j) → IsStart n (length fs) (starts K 0 fs) (map (λ f. slice_index (K f) 0) fs)
  start_valid n small rising steps =
      let at : (p : ℕ) → p < length fs → slice_index (map (λ f. slice_index (K f) 0) fs) p ≡ slice_index (K (nth fs p (pos 0))) 0 = (λ p h. get_or-map (λ f. slice_index (K f) 0) fs p (λ _. pos 0) 0 h) in
      let l = length-map fs (λ f. slice_index (K f) 0) in
      let fits : (f : Slice) → slice_index (K f) 0 + length (K f) ≤ n = (λ f. ⊎_elim
      (λ (some : 0 < length (K f)). omega (arith, steps f (length (K f) - 1) (omega arith), (rising f).high (length (K f) - 1) (omega arith)))
      (λ (none : length (K f) ≤ 0). omega (arith, get_or_past (K f) 0 0 none))
      (cases_lt 0 (length (K f)))) in
      record {
        small = λ p h. omega (arith, at p (omega (arith, l)), fits (nth fs p (pos 0)));
        long = l;
        fits = λ p h. omega (arith, at p h, fits (nth fs p (pos 0)), from_is K fs p (pos 0) h, to_is K fs p (pos 0) h, ends_is K fs p (pos 0) h);
      }

-- runs
run_ends : (n : ℕ) (g : Slice) → 0 < n → (0 < length (filter (ends_run n g) (range_with_len 0 n))) × (slice_index (filter (ends_run n g) (range_with_len 0 n)) (length (filter (ends_run n g) (range_with_len 0 n)) - 1) + 1 ≡ n)
run_ends n g some =
    let ks = filter (ends_run n g) (range_with_len 0 n) in
    let r = filter_rising (ends_run n g) 0 n n (omega arith) in
    let p = filter_next (ends_run n g) 0 n (n - 1) (omega arith) (omega arith) (last_ends n g) in
    let last : p.j ≡ length ks - 1 = ⊎_elim (λ (l : p.j < length ks - 1). absurd (omega (arith, p.up, rising_lt 0 n ks r p.j (length ks - 1) l (omega arith), r.high (length ks - 1) (omega arith)))) (λ (l : length ks - 1 ≤ p.j). omega (arith, p.within)) (cases_lt p.j (length ks - 1)) in
    (omega (arith, p.within), omega (arith, p.up, r.high p.j p.within, ap (slice_index ks) last))

no_runs : (K : Slice → List ℕ) (fs : List Slice) → ((f : Slice) → length (K f) ≡ 0) → length (flat_map K fs) ≡ 0
no_runs K [] h = refl
no_runs K (f ∷ fs) h = omega (arith, length-append (K f) (flat_map K fs), h f, no_runs K fs h)

no_place : (p : ℕ → Bool) (n : ℕ) → n ≡ 0 → length (filter p (range_with_len 0 n)) ≡ 0
no_place p zero e = refl
no_place p (suc n) e = absurd (omega arith)

pub level_valid : (l : Level) (fill : ℤ) (n : ℕ) (ns : List ℕ) (fs : List Slice) → n ≤ 2 ^ 40 → length (next (kept l fill n ns) fs) ≤ 2 ^ 40 → IsLevel l n (length fs) (part_of l (kept l fill n ns) fs)
level_valid level.Dense fill n ns fs small a = tt
level_valid level.List fill n ns fs small a =
    let K = kept level.List fill n ns in
    (ptr_valid K fs a, idx_valid K fs a n small (λ f. filter_rising (has_value fill ns f) 0 n n (omega arith)))
level_valid level.Dict fill n ns fs small a =
    let K = kept level.Dict fill n ns in
    (ptr_valid K fs a, idx_valid K fs a n small (λ f. filter_rising (has_value fill ns f) 0 n n (omega arith)))
level_valid level.Runs fill n ns fs small a =
    let K = kept level.Runs fill n ns in
    (ptr_valid K fs a, stop_valid K fs a n small (λ f. filter_rising (ends_run n f) 0 n n (omega arith)) (λ f some. run_ends n f some) (λ z. no_runs K fs (λ f. no_place (ends_run n f) n z)))
level_valid level.Band fill n ns fs small a =
    let K = kept level.Band fill n ns in
    (ptr_valid K fs a, start_valid K fs a n small (λ f. span_rising 0 n (filter (has_value fill ns f) (range_with_len 0 n)) (filter_rising (has_value fill ns f) 0 n n (omega arith))) (λ f j h. span_steps (filter (has_value fill ns f) (range_with_len 0 n)) j h))

pub positions_are : (l : Level) (fill : ℤ) (n : ℕ) (ns : List ℕ) (fs : List Slice) → length (next (kept l fill n ns) fs) ≤ 2 ^ 40 → positions n (length fs) (part_of l (kept l fill n ns) fs) ≡ length (next (kept l fill n ns) fs)
positions_are level.Dense fill n ns fs a = sym (off_dense n fs (length fs) (omega arith)) ∙ off_all (kept level.Dense fill n ns) fs
positions_are level.List fill n ns fs a = last_next (kept level.List fill n ns) fs a
positions_are level.Dict fill n ns fs a = last_next (kept level.Dict fill n ns) fs a
positions_are level.Runs fill n ns fs a = last_next (kept level.Runs fill n ns) fs a
positions_are level.Band fill n ns fs a = last_next (kept level.Band fill n ns) fs a

allowed_small : (ls : List Level) (fill : ℤ) (ns : List ℕ) (fs : List Slice) → IsAllowed ls fill ns fs → length fs ≤ 2 ^ 40
allowed_small [] fill ns fs h = h
allowed_small (l ∷ ls) fill [] fs h = absurd h
allowed_small (l ∷ ls) fill (n ∷ ns) fs h = h.0

pub slices_are_valid : (ls : List Level) (fill : ℤ) (ns : List ℕ) (fs : List Slice) → IsPlacedOver ls ns → AreSmall ns → IsAllowed ls fill ns fs →
    IsStored (length fs) ls ns (canon_parts ls fill ns fs) (canon_values ls fill ns fs)
slices_are_valid [] fill [] fs placed small a = (a, length-map fs (λ (f : Slice). f []))
slices_are_valid [] fill (n ∷ ns) fs placed small a = absurd placed
slices_are_valid (l ∷ ls) fill [] fs placed small a = absurd (no_shape l ls placed)
slices_are_valid (l ∷ ls) fill (n ∷ ns) fs placed small a =
    let K = kept l fill n ns in
    let t : length (next K fs) ≤ 2 ^ 40 = allowed_small ls fill ns (next K fs) a.1 in
    let rest = slices_are_valid ls fill ns (next K fs) (placed_rest l ls n ns placed).0 (λ k h. small (suc k) (omega arith)) a.1 in (
      a.0,
      small 0 (omega arith),
      level_valid l fill n ns fs (small 0 (omega arith)) t,
      subst (λ (m : ℕ). IsStored m ls ns (canon_parts ls fill ns (next K fs)) (canon_values ls fill ns (next K fs))) (sym (positions_are l fill n ns fs t)) rest,
    )
