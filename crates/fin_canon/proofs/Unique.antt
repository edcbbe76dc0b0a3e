-- A valid storage of the canonical form is the canonical one.
use Rattle.std.proofs.Common.{◌≡◌, ℕ, zero, suc, ◌+◌, ◌-◌, ◌<◌, ◌≤◌, List, [], ◌∷◌, ◌++◌, length, take, drop, refl, sym, ap, ◌∙◌, subst, ⊎_elim, arith, ℤ, pos, map}
use Rattle.std.specs.Prelude.{slice_index, flat_map}
use Rattle.std.specs.List.{range_with_len}
use Rattle.std.proofs.lemmas.Bool.{cases_lt}
use Rattle.std.proofs.lemmas.List.{take_all, ext_get_or, length-take, length-drop, length-map, map-append, get_or-map, get_or-take, get_or-drop, get_or_past, get_or_default}
use Rattle.std.proofs.lemmas.List.FromFn.{length-range_with_len, get_or-range_with_len}
use Rattle.fin_tensor.specs.declared.format.Level.{Level}
use Rattle.fin_tensor.specs.declared.format.Level.TheVariants as level
use Rattle.fin_tensor.specs.declared.part.Part.{Part}
use Rattle.fin_tensor.specs.declared.part.Part.TheVariants as part
use Rattle.fin_tensor.specs.Levels.{IsPtr, IsLevel, IsStored, positions}
use Rattle.fin_tensor.proofs.Fibres.{ptr_rises}
use Rattle.fin_tensor.specs.Canon.{Slice, kept, next, starts, part_of, told_in, EmptyAtZero, HasForm, canon_parts, canon_values}
use Rattle.fin_canon.proofs.Standing.{kept_push, off, nth, starts_at, off_more, off_dense}
use Rattle.fin_canon.proofs.Valid.{off_all, starts_length}

take_nil : (n : ℕ) → take {A = ℕ} n [] ≡ []
take_nil zero = refl
take_nil (suc n) = refl

take_add : (a b : ℕ) (xs : List ℕ) → take (a + b) xs ≡ take a xs ++ take b (drop a xs)
take_add zero b xs = let e : 0 + b ≡ b = omega arith in ap (λ (n : ℕ). take n xs) e
take_add (suc a) b [] = take_nil (suc a + b) ∙ sym (take_nil b)
take_add (suc a) b (x ∷ xs) = let e : suc a + b ≡ suc (a + b) = omega arith in ap (λ (n : ℕ). take n (x ∷ xs)) e ∙ ap (λ (l : List ℕ). x ∷ l) (take_add a b xs)

-- lists that are told fibre by fibre
module _ (K : Slice → List ℕ) (fs : List Slice) (ptr : List ℕ) (valid : IsPtr (length fs) ptr) (lens : (p : ℕ) → p < length fs → slice_index ptr (p + 1) ≡ slice_index ptr p + length (K (nth fs p (pos 0)))) where
  ptr_at : (p : ℕ) → p ≤ length fs → slice_index ptr p ≡ off K fs p
  ptr_at zero h = omega (arith, valid.first)
  ptr_at (suc p) h =
      let e : p + 1 ≡ suc p = omega arith in
      omega (arith, ap (slice_index ptr) e, ap (off K fs) e, lens p (omega arith), off_more K fs p (pos 0) (omega arith), ptr_at p (omega arith))

  ptr_is : ptr ≡ starts K 0 fs
  ptr_is = ext_get_or 0 ptr (starts K 0 fs) (omega (arith, valid.long, starts_length K fs 0)) (λ i h. omega (arith, ptr_at i (omega (arith, valid.long)), starts_at K fs 0 i (omega (arith, valid.long))))

  upto : (xs : List ℕ) (M : Slice → List ℕ) → ((p : ℕ) → p < length fs → take (slice_index ptr (p + 1) - slice_index ptr p) (drop (slice_index ptr p) xs) ≡ M (nth fs p (pos 0))) → (i : ℕ) → i ≤ length fs → take (slice_index ptr i) xs ≡ flat_map M (take i fs)
  upto xs M pieces zero h = ap (λ (n : ℕ). take n xs) valid.first
  upto xs M pieces (suc i) h =
      let e : suc i ≡ i + 1 = omega arith in
      let a = slice_index ptr i in
      let b = slice_index ptr (i + 1) - slice_index ptr i in
      let s : slice_index ptr (suc i) ≡ a + b = omega (arith, ap (slice_index ptr) e, valid.rises i (omega arith)) in
      ap (λ (n : ℕ). take n xs) s ∙ take_add a b xs ∙ ap (λ (l : List ℕ). l ++ take b (drop a xs)) (upto xs M pieces i (omega arith)) ∙ ap (λ (l : List ℕ). flat_map M (take i fs) ++ l) (pieces i (omega arith))
      ∙ sym (kept_push M fs i (pos 0) (omega arith)) ∙ ap (λ (n : ℕ). flat_map M (take n fs)) (sym e)

  all_is : (xs : List ℕ) (M : Slice → List ℕ) → length xs ≡ slice_index ptr (length fs) → ((p : ℕ) → p < length fs → take (slice_index ptr (p + 1) - slice_index ptr p) (drop (slice_index ptr p) xs) ≡ M (nth fs p (pos 0))) → xs ≡ flat_map M fs
  all_is xs M long pieces =
      sym (take_all (slice_index ptr (length fs)) xs (omega (arith, long))) ∙ upto xs M pieces (length fs) (omega arith) ∙ ap (flat_map M) (take_all (length fs) fs (omega arith))

map_flat : (K : Slice → List ℕ) (fs : List Slice) → flat_map (λ f. map (λ i. i + 1) (K f)) fs ≡ map (λ i. i + 1) (flat_map K fs)
map_flat K [] = refl
map_flat K (f ∷ fs) = ap (λ (l : List ℕ). map (λ i. i + 1) (K f) ++ l) (map_flat K fs) ∙ sym (map-append (λ i. i + 1) (K f) (flat_map K fs))

back : (xs : List ℕ) → ((k : ℕ) → k < length xs → 0 < slice_index xs k) → map (λ i. i + 1) (map (λ s. s - 1) xs) ≡ xs
back [] h = refl
back (x ∷ xs) h =
    let e : x - 1 + 1 ≡ x = omega (arith, h 0 (omega arith)) in
    ap (λ (y : ℕ). y ∷ map (λ i. i + 1) (map (λ s. s - 1) xs)) e ∙ ap (λ (l : List ℕ). x ∷ l) (back xs (λ k l. h (suc k) (omega arith)))

pub piece_length : (xs : List ℕ) (a b : ℕ) → a ≤ b → b ≤ length xs → length (take (b - a) (drop a xs)) ≡ b - a
piece_length xs a b le h = simp (length-take, length-drop) (omega arith)

-- how many coordinates a fibre tells
fibre_length : (l : Level) (n count : ℕ) (ptr xs : List ℕ) (p : ℕ) → IsPtr count ptr → length xs ≡ slice_index ptr count → p < count → length (take (slice_index ptr (p + 1) - slice_index ptr p) (drop (slice_index ptr p) xs)) ≡ slice_index ptr (p + 1) - slice_index ptr p
fibre_length l n count ptr xs p v long h = piece_length xs (slice_index ptr p) (slice_index ptr (p + 1)) (v.rises p h) (omega (arith, long, ptr_rises count ptr v (p + 1) count (omega arith) (omega arith)))

same_default : (K : Slice → List ℕ) (fs : List Slice) (q : ℕ) (fill : ℤ) → q < length fs → K (nth fs q fill) ≡ K (nth fs q (pos 0))
same_default K fs q fill h = ap K (get_or_default fs q (λ _. fill) (λ _. pos 0) h)

keys_are : (K : Slice → List ℕ) (n : ℕ) (fs : List Slice) (ptr idx : List ℕ) → IsPtr (length fs) ptr → length idx ≡ slice_index ptr (length fs) → ((q : ℕ) → q < length fs → take (slice_index ptr (q + 1) - slice_index ptr q) (drop (slice_index ptr q) idx) ≡ K (nth fs q (pos 0))) → part.Keys ptr idx ≡ part.Keys (starts K 0 fs) (flat_map K fs)
keys_are K n fs ptr idx v long K_is =
    let lens : (q : ℕ) → q < length fs → slice_index ptr (q + 1) ≡ slice_index ptr q + length (K (nth fs q (pos 0))) = (λ q h. omega (arith, ap (λ (l : List ℕ). length l) (K_is q h), fibre_length level.List n (length fs) ptr idx q v long h, v.rises q h)) in
    ap (λ (l : List ℕ). part.Keys l idx) (ptr_is K fs ptr v lens) ∙ ap (part.Keys (starts K 0 fs)) (all_is K fs ptr v lens idx K long K_is)

level_is : (l : Level) (fill : ℤ) (n : ℕ) (ns : List ℕ) (p : Part) (fs : List Slice) → IsLevel l n (length fs) p → ((q : ℕ) → q < length fs → told_in n p q ≡ kept l fill n ns (nth fs q fill)) → EmptyAtZero (length fs) p → p ≡ part_of l (kept l fill n ns) fs
level_is level.Dense fill n ns part.Dense fs v told z = refl
level_is level.List fill n ns (part.Keys ptr idx) fs v told z = keys_are (kept level.List fill n ns) n fs ptr idx v.0 v.1.long (λ q h. told q h ∙ same_default (kept level.List fill n ns) fs q fill h)
level_is level.Dict fill n ns (part.Keys ptr idx) fs v told z = keys_are (kept level.Dict fill n ns) n fs ptr idx v.0 v.1.long (λ q h. told q h ∙ same_default (kept level.Dict fill n ns) fs q fill h)
level_is level.Runs fill n ns (part.Runs ptr stop) fs v told z =
    let K = kept level.Runs fill n ns in
    let K_is : (q : ℕ) → q < length fs → map (λ s. s - 1) (take (slice_index ptr (q + 1) - slice_index ptr q) (drop (slice_index ptr q) stop)) ≡ K (nth fs q (pos 0)) = (λ q h. told q h ∙ same_default K fs q fill h) in
    let piece : ℕ → List ℕ = λ q. take (slice_index ptr (q + 1) - slice_index ptr q) (drop (slice_index ptr q) stop) in
    let lens : (q : ℕ) → q < length fs → slice_index ptr (q + 1) ≡ slice_index ptr q + length (K (nth fs q (pos 0))) = (λ q h. omega (arith, ap (λ (l : List ℕ). length l) (K_is q h), length-map (piece q) (λ s. s - 1), fibre_length level.Runs n (length fs) ptr stop q v.0 v.1.long h, v.0.rises q h)) in
    let above : (q : ℕ) → q < length fs → (k : ℕ) → k < length (piece q) → 0 < slice_index (piece q) k = (λ q h k l.
    let len = fibre_length level.Runs n (length fs) ptr stop q v.0 v.1.long h in
    let e : slice_index (piece q) k ≡ slice_index stop (slice_index ptr q + k) = get_or-take (slice_index ptr (q + 1) - slice_index ptr q) (drop (slice_index ptr q) stop) k 0 (omega arith) ∙ get_or-drop (slice_index ptr q) stop k 0 in
    omega (arith, e, v.1.first (slice_index ptr q + k) (omega (arith, v.1.long, ptr_rises (length fs) ptr v.0 (q + 1) (length fs) (omega arith) (omega arith))))) in
    let ptrs = ptr_is K fs ptr v.0 lens in
    let stops = all_is K fs ptr v.0 lens stop (λ f. map (λ i. i + 1) (K f)) v.1.long (λ q h. sym (back (piece q) (above q h)) ∙ ap (map (λ i. i + 1)) (K_is q h)) ∙ map_flat K fs in
    ap (λ (l : List ℕ). part.Runs l stop) ptrs ∙ ap (part.Runs (starts K 0 fs)) stops
level_is level.Band fill n ns (part.Band ptr start) fs v told z =
    let K = kept level.Band fill n ns in
    let K_is : (q : ℕ) → q < length fs → range_with_len (slice_index start q) (slice_index ptr (q + 1) - slice_index ptr q) ≡ K (nth fs q (pos 0)) = (λ q h. told q h ∙ same_default K fs q fill h) in
    let lens : (q : ℕ) → q < length fs → slice_index ptr (q + 1) ≡ slice_index ptr q + length (K (nth fs q (pos 0))) = (λ q h. omega (arith, ap (λ (l : List ℕ). length l) (K_is q h), length-range_with_len (slice_index start q) (slice_index ptr (q + 1) - slice_index ptr q), v.0.rises q h)) in
    let ptrs = ptr_is K fs ptr v.0 lens in
    let first : (q : ℕ) → q < length fs → slice_index start q ≡ slice_index (K (nth fs q (pos 0))) 0 = (λ q h.
    let len = slice_index ptr (q + 1) - slice_index ptr q in
    ⊎_elim
    (λ (some : 0 < len). omega (arith, get_or-range_with_len (slice_index start q) len 0 0 some, ap (λ (l : List ℕ). slice_index l 0) (K_is q h)))
    (λ (none : len ≤ 0). omega (arith, z q h (omega (arith, v.0.rises q h)), get_or_past (range_with_len (slice_index start q) len) 0 0 (omega (arith, length-range_with_len (slice_index start q) len)), ap (λ (l : List ℕ). slice_index l 0) (K_is q h)))
    (cases_lt 0 len)) in
    let begins = ext_get_or 0 start (map (λ f. slice_index (K f) 0) fs) (omega (arith, v.1.long, length-map fs (λ f. slice_index (K f) 0))) (λ q h. first q (omega (arith, v.1.long)) ∙ sym (get_or-map (λ f. slice_index (K f) 0) fs q (λ _. pos 0) 0 (omega (arith, v.1.long)))) in
    ap (λ (l : List ℕ). part.Band l start) ptrs ∙ ap (part.Band (starts K 0 fs)) begins
level_is l fill n ns p fs v told z = absurd v

pub next_count : (l : Level) (fill : ℤ) (n : ℕ) (ns : List ℕ) (fs : List Slice) → positions n (length fs) (part_of l (kept l fill n ns) fs) ≡ length (next (kept l fill n ns) fs)
next_count level.Dense fill n ns fs = sym (off_dense n fs (length fs) (omega arith)) ∙ off_all (kept level.Dense fill n ns) fs
next_count level.List fill n ns fs = omega (arith, starts_at (kept level.List fill n ns) fs 0 (length fs) (omega arith), off_all (kept level.List fill n ns) fs)
next_count level.Dict fill n ns fs = omega (arith, starts_at (kept level.Dict fill n ns) fs 0 (length fs) (omega arith), off_all (kept level.Dict fill n ns) fs)
next_count level.Runs fill n ns fs = omega (arith, starts_at (kept level.Runs fill n ns) fs 0 (length fs) (omega arith), off_all (kept level.Runs fill n ns) fs)
next_count level.Band fill n ns fs = omega (arith, starts_at (kept level.Band fill n ns) fs 0 (length fs) (omega arith), off_all (kept level.Band fill n ns) fs)

pub form_is_unique : (ls : List Level) (fill : ℤ) (ns : List ℕ) (ps : List Part) (val : List ℤ) (fs : List Slice) → IsStored (length fs) ls ns ps val → HasForm ls fill ns ps val fs →
    (ps ≡ canon_parts ls fill ns fs) × (val ≡ canon_values ls fill ns fs)
form_is_unique [] fill [] [] val fs v h = (refl, h)
form_is_unique [] fill [] (p ∷ ps) val fs v h = absurd v
form_is_unique [] fill (n ∷ ns) ps val fs v h = absurd v
form_is_unique (l ∷ ls) fill [] ps val fs v h = absurd v
form_is_unique (l ∷ ls) fill (n ∷ ns) [] val fs v h = absurd v
form_is_unique (l ∷ ls) fill (n ∷ ns) (p ∷ ps) val fs v h =
    let K = kept l fill n ns in
    let here : p ≡ part_of l K fs = level_is l fill n ns p fs v.2 h.0 h.1 in
    let m : positions n (length fs) p ≡ length (next K fs) = ap (positions n (length fs)) here ∙ next_count l fill n ns fs in
    let rest = form_is_unique ls fill ns ps val (next K fs) (subst (λ (k : ℕ). IsStored k ls ns ps val) m v.3) h.2 in
    (ap (λ (q : Part). q ∷ ps) here ∙ ap (λ (qs : List Part). part_of l K fs ∷ qs) rest.0, rest.1)
