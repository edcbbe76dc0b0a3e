-- A canonical storage has its form.
use Rattle.std.proofs.Common.{◌≡◌, ℕ, zero, suc, ◌+◌, ◌-◌, ◌<◌, List, [], ◌∷◌, length, take, drop, refl, ap, ◌∙◌, arith, ℤ, map}
use Rattle.std.specs.Prelude.{slice_index, filter, flat_map}
use Rattle.std.specs.List.{range_with_len}
use Rattle.std.proofs.lemmas.List.{ext_get_or, length-map, get_or-map, get_or-take, get_or-drop, get_or_past}
use Rattle.std.proofs.lemmas.List.FromFn.{length-range_with_len}
use Rattle.fin_tensor.specs.declared.format.Level.{Level}
use Rattle.fin_tensor.specs.declared.format.Level.TheVariants as level
use Rattle.fin_tensor.specs.Canon.{Slice, has_value, last_of, span_of, kept, next, starts, part_of, canon_parts, canon_values, told_in, EmptyAtZero, HasForm}
use Rattle.fin_canon.proofs.Standing.{off, nth, from_is, to_is, ends_is, all_at, total_more}
use Rattle.fin_canon.proofs.Unique.{piece_length}

module _ (K : Slice → List ℕ) (fs : List Slice) (q : ℕ) (fill : ℤ) (lt : q < length fs) where
  -- the piece of a list between the beginnings of two fibres
  abbrev piece : List ℕ → List ℕ
  piece xs = take (slice_index (starts K 0 fs) (q + 1) - slice_index (starts K 0 fs) q) (drop (slice_index (starts K 0 fs) q) xs)

  piece_long : (xs : List ℕ) → length xs ≡ length (flat_map K fs) → length (piece xs) ≡ length (K (nth fs q fill))
  piece_long xs e =
      let a = from_is K fs q fill lt in
      let b = to_is K fs q fill lt in
      let c = ends_is K fs q fill lt in
      omega (arith, a, b, c, piece_length xs (slice_index (starts K 0 fs) q) (slice_index (starts K 0 fs) (q + 1)) (omega (arith, a, b, c)) (omega (arith, b, e, total_more K fs q fill lt)))

  piece_at : (xs : List ℕ) (j : ℕ) → j < length (K (nth fs q fill)) → slice_index (piece xs) j ≡ slice_index xs (off K fs q + j)
  piece_at xs j h =
      let a = from_is K fs q fill lt in
      let b = to_is K fs q fill lt in
      let c = ends_is K fs q fill lt in
      get_or-take (slice_index (starts K 0 fs) (q + 1) - slice_index (starts K 0 fs) q) (drop (slice_index (starts K 0 fs) q) xs) j 0 (omega (arith, a, b, c, h))
      ∙ get_or-drop (slice_index (starts K 0 fs) q) xs j 0 ∙ ap (λ (x : ℕ). slice_index xs (x + j)) a

  keys_told : piece (flat_map K fs) ≡ K (nth fs q fill)
  keys_told =
      let long = piece_long (flat_map K fs) refl in
      ext_get_or 0 (piece (flat_map K fs)) (K (nth fs q fill)) long (λ j h. piece_at (flat_map K fs) j (omega (arith, h, long)) ∙ all_at K fs q fill lt j (omega (arith, h, long)))

  stops_told : map (λ s. s - 1) (piece (map (λ i. i + 1) (flat_map K fs))) ≡ K (nth fs q fill)
  stops_told =
      let xs = map (λ i. i + 1) (flat_map K fs) in
      let long = piece_long xs (length-map (flat_map K fs) (λ i. i + 1)) in
      let all = length-map (piece xs) (λ s. s - 1) in
      ext_get_or 0 (map (λ s. s - 1) (piece xs)) (K (nth fs q fill)) (omega (arith, all, long)) (λ j h.
      let l : j < length (K (nth fs q fill)) = omega (arith, h, all, long) in
      let top : off K fs q + j < length (flat_map K fs) = omega (arith, l, total_more K fs q fill lt, ends_is K fs q fill lt) in
      let a = get_or-map (λ s. s - 1) (piece xs) j 0 0 (omega (arith, l, long)) in
      let b = piece_at xs j l in
      let c = get_or-map (λ i. i + 1) (flat_map K fs) (off K fs q + j) 0 0 top in
      let d = all_at K fs q fill lt j l in
      omega (arith, a, b, c, d))

  start_is : slice_index (map (λ f. slice_index (K f) 0) fs) q ≡ slice_index (K (nth fs q fill)) 0
  start_is = get_or-map (λ f. slice_index (K f) 0) fs q (λ _. fill) 0 lt

  fibre_is : slice_index (starts K 0 fs) (q + 1) - slice_index (starts K 0 fs) q ≡ length (K (nth fs q fill))
  fibre_is = omega (arith, from_is K fs q fill lt, to_is K fs q fill lt, ends_is K fs q fill lt)

span_from : (x n : ℕ) → range_with_len (slice_index (range_with_len x n) 0) (length (range_with_len x n)) ≡ range_with_len x n
span_from x zero = refl
span_from x (suc n) = ap (λ (m : ℕ). range_with_len x m) (length-range_with_len x (suc n))

span_is : (ks : List ℕ) → range_with_len (slice_index (span_of ks) 0) (length (span_of ks)) ≡ span_of ks
span_is [] = refl
span_is (x ∷ ks) = span_from x (last_of x ks + 1 - x)

level_told : (l : Level) (fill : ℤ) (n : ℕ) (ns : List ℕ) (fs : List Slice) (q : ℕ) → q < length fs → told_in n (part_of l (kept l fill n ns) fs) q ≡ kept l fill n ns (nth fs q fill)
level_told level.Dense fill n ns fs q lt = refl
level_told level.List fill n ns fs q lt = keys_told (kept level.List fill n ns) fs q fill lt
level_told level.Dict fill n ns fs q lt = keys_told (kept level.Dict fill n ns) fs q fill lt
level_told level.Runs fill n ns fs q lt = stops_told (kept level.Runs fill n ns) fs q fill lt
level_told level.Band fill n ns fs q lt =
    let K = kept level.Band fill n ns in
    let ks = filter (has_value fill ns (nth fs q fill)) (range_with_len 0 n) in
    ap (λ (x : ℕ). range_with_len x (slice_index (starts K 0 fs) (q + 1) - slice_index (starts K 0 fs) q)) (start_is K fs q fill lt)
    ∙ ap (λ (m : ℕ). range_with_len (slice_index (K (nth fs q fill)) 0) m) (fibre_is K fs q fill lt)
    ∙ span_is ks

empty_at_zero : (l : Level) (fill : ℤ) (n : ℕ) (ns : List ℕ) (fs : List Slice) → EmptyAtZero (length fs) (part_of l (kept l fill n ns) fs)
empty_at_zero level.Dense fill n ns fs = tt
empty_at_zero level.List fill n ns fs = tt
empty_at_zero level.Dict fill n ns fs = tt
empty_at_zero level.Runs fill n ns fs = tt
empty_at_zero level.Band fill n ns fs = λ q lt e.
    let K = kept level.Band fill n ns in
    omega (arith, start_is K fs q fill lt, get_or_past (K (nth fs q fill)) 0 0 (omega (arith, fibre_is K fs q fill lt, e)))

pub canonical_has_form : (ls : List Level) (fill : ℤ) (ns : List ℕ) (fs : List Slice) → length ns ≡ length ls → HasForm ls fill ns (canon_parts ls fill ns fs) (canon_values ls fill ns fs) fs
canonical_has_form [] fill ns fs e = refl
canonical_has_form (l ∷ ls) fill [] fs e = absurd (omega arith)
canonical_has_form (l ∷ ls) fill (n ∷ ns) fs e = (λ q lt. level_told l fill n ns fs q lt, empty_at_zero l fill n ns fs, canonical_has_form ls fill ns (next (kept l fill n ns) fs) (omega arith))
