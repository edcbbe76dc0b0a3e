-- How far a walk over a storage has come.
use Rattle.std.proofs.Common.{◌≡◌, ◌≢◌, ℕ, suc, ◌+◌, ◌-◌, ◌*◌, ◌<◌, ◌≤◌, List, [], ◌∷◌, ◌++◌, length, take, drop, refl, sym, ap, ◌∙◌, subst, ⊎_elim, arith, ℤ, IsTrue, Bool, true, false, Option, Some, None, drop-cons}
use Rattle.std.specs.Prelude.{slice_index, slice_index_or, nat_lt, nat_eq, ◌&&◌, ◌||◌, if◌then◌else◌}
use Rattle.std.proofs.lemmas.Bool.{cases_eq, ltb-true, lt-ltb}
use Rattle.std.proofs.lemmas.Bool.Decides.{nat_tests}
use Rattle.fin_tensor.specs.declared.format.Level.{Level}
use Rattle.fin_tensor.specs.declared.format.Level.TheVariants as level
use Rattle.fin_tensor.specs.declared.part.Part.{Part}
use Rattle.fin_tensor.specs.declared.part.Part.TheVariants as part
use Rattle.fin_tensor.specs.declared.storage.Storage.{Storage}
use Rattle.fin_tensor.specs.TensorFunction.{TensorFunction, is_in_box}
use Rattle.fin_tensor.specs.Levels.{IsLevel, fibres, positions, fibre_from, fibre_to, first_from, child_in, below}
use Rattle.fin_tensor.proofs.Fibres.{first_place}
use Rattle.fin_tensor.proofs.Walk.{run_below, kind_at, fibres_more, stored_lengths, value_end, drop_length}
use Rattle.fin_canon.proofs.Fewer.{key_place, in_block, some_is, fibre_next, fibre_all, fibres_climb}
use Rattle.fin_freeze.specs.Thawing.{values_below, child_at, values_of, values_before, blank, Holds, IsSpan}

-- the children at the places before one, and those at it whose coordinates are before i
abbrev pub until : ℕ → ℕ → ℕ → ℕ → Bool
until place i c q = nat_lt q place || (nat_eq q place && nat_lt c i)

-- ---- the places of a fibre
pub record IsInFibre (n : ℕ) (p : Part) (pos q : ℕ) : Type 0 where
  pub low : fibre_from n p pos ≤ q
  pub high : q < fibre_to n p pos

pub child_in_fibre : (l : Level) (n count : ℕ) (p : Part) (pos i q : ℕ) → IsLevel l n count p → pos < count → i < n → child_in n p pos i ≡ Some q → IsInFibre n p pos q
child_in_fibre level.Dense n count part.Dense pos i q h lt within e = let s = some_is (pos * n + i) q e in record { low = omega arith; high = omega arith }
child_in_fibre level.List n count (part.Keys ptr idx) pos i q h lt within e = let k = key_place idx (slice_index ptr pos) (slice_index ptr (pos + 1)) i q (h.0.rises pos lt) e in record { low = k.low; high = k.high }
child_in_fibre level.Dict n count (part.Keys ptr idx) pos i q h lt within e = let k = key_place idx (slice_index ptr pos) (slice_index ptr (pos + 1)) i q (h.0.rises pos lt) e in record { low = k.low; high = k.high }
child_in_fibre level.Runs n count (part.Runs ptr stop) pos i q h lt within e =
    let from = slice_index ptr pos in
    let to = slice_index ptr (pos + 1) in
    let s = some_is (first_from stop (i + 1) from (to - from)) q e in
    let f = first_place stop (i + 1) from to (h.0.rises pos lt) in
    let b = run_below n count ptr stop pos i h.0 h.1 lt within in
    record { low = omega (arith, f.low, s); high = omega (arith, b, s) }
child_in_fibre level.Band n count (part.Band ptr start) pos i q h lt within e = let k = in_block (slice_index ptr pos) (slice_index ptr (pos + 1)) (slice_index start pos) i q e in record { low = omega (arith, k.is); high = omega (arith, k.is, k.high) }
child_in_fibre l n count p pos i q h lt within e = absurd h

pub fibre_ends : (l : Level) (n count : ℕ) (p : Part) (pos : ℕ) → IsLevel l n count p → pos < count → fibre_to n p pos ≤ positions n count p
fibre_ends l n count p pos h lt = omega (arith, fibre_next n p pos, fibre_all n p count, fibres_climb l n count p h (pos + 1) count (omega arith) (omega arith))

pub fibre_order : (l : Level) (n count : ℕ) (p : Part) (pos : ℕ) → IsLevel l n count p → pos < count → fibre_from n p pos ≤ fibre_to n p pos
fibre_order l n count p pos h lt = omega (arith, fibre_next n p pos, fibres_climb l n count p h pos (pos + 1) (omega arith) (omega arith))

-- ---- tests
or_false : (a b : Bool) → b ≡ false → (a || b) ≡ a
or_false true b h = refl
or_false false b h = h

or_left : (a b : Bool) → a ≡ true → (a || b) ≡ true
or_left true b h = refl
or_left false b h = cc

and_right : (a b : Bool) → b ≡ false → (a && b) ≡ false
and_right true b h = h
and_right false b h = refl

and_left : (a b : Bool) → a ≡ false → (a && b) ≡ false
and_left true b h = cc
and_left false b h = refl

not_below : (a b : ℕ) → b ≤ a → nat_lt a b ≡ false
not_below a b h = grind (arith, nat_tests)

until_start : (place i c q : ℕ) → (q ≡ place → i ≤ c) → until place i c q ≡ nat_lt q place
until_start place i c q h = or_false (nat_lt q place) (nat_eq q place && nat_lt c i) (⊎_elim
    (λ (e : q ≡ place). and_right (nat_eq q place) (nat_lt c i) (not_below c i (h e)))
    (λ ne. and_left (nat_eq q place) (nat_lt c i) (let n : q ≢ place = ne in grind (arith, nat_tests)))
    (cases_eq q place))

until_end : (place i c q : ℕ) → (q ≡ place → c < i) → until place i c q ≡ nat_lt q (place + 1)
until_end place i c q h = ⊎_elim
    (λ (e : q ≡ place). let l : c < i = h e in let a : nat_lt c i ≡ true = lt-ltb c i l in let b : nat_eq q place ≡ true = grind (arith, nat_tests) in let d : nat_lt q place ≡ false = not_below q place (omega arith) in let f : nat_lt q (place + 1) ≡ true = lt-ltb q (place + 1) (omega arith) in rw (a, b, d, f) refl)
    (λ ne. let n : q ≢ place = ne in let b : nat_eq q place ≡ false = grind (arith, nat_tests) in or_false (nat_lt q place) (nat_eq q place && nat_lt c i) (and_left (nat_eq q place) (nat_lt c i) b) ∙ grind (arith, nat_tests))
    (cases_eq q place)

pub until_more : (place i c q : ℕ) → c ≢ i → until place (i + 1) c q ≡ until place i c q
until_more place i c q h = let e : nat_lt c (i + 1) ≡ nat_lt c i = grind (arith, nat_tests) in ap (λ (b : Bool). nat_lt q place || (nat_eq q place && b)) e

pub until_here : (place i : ℕ) → until place (i + 1) i place ≡ true
until_here place i = until_end place (i + 1) i place (λ _. omega arith) ∙ lt-ltb place (place + 1) (omega arith)

pub until_not : (place i : ℕ) → until place i i place ≡ false
until_not place i = until_start place i i place (λ _. omega arith) ∙ not_below place place (omega arith)

-- ---- coordinates below a level
first : (a b : Bool) → (a && b) ≡ true → a ≡ true
first true b h = refl
first false b h = h

second : (a b : Bool) → (a && b) ≡ true → b ≡ true
second true b h = h
second false b h = cc

both : (a b : Bool) → a ≡ true → b ≡ true → (a && b) ≡ true
both true b x y = y
both false b x y = x

pub box_first : (ns : List ℕ) (k i : ℕ) (cs : List ℕ) → k < length ns → IsTrue (is_in_box (drop k ns) (i ∷ cs)) → i < slice_index ns k
box_first ns k i cs lt h =
    let e : IsTrue (is_in_box (slice_index ns k ∷ drop (suc k) ns) (i ∷ cs)) = subst (λ (xs : List ℕ). IsTrue (is_in_box xs (i ∷ cs))) (drop-cons ns k 0 lt) h in
    ltb-true i (slice_index ns k) (first (nat_lt i (slice_index ns k)) (is_in_box (drop (suc k) ns) cs) e)

pub box_rest : (ns : List ℕ) (k i : ℕ) (cs : List ℕ) → k < length ns → IsTrue (is_in_box (drop k ns) (i ∷ cs)) → IsTrue (is_in_box (drop (k + 1) ns) cs)
box_rest ns k i cs lt h =
    let o : suc k ≡ k + 1 = omega arith in
    let e : IsTrue (is_in_box (slice_index ns k ∷ drop (suc k) ns) (i ∷ cs)) = subst (λ (xs : List ℕ). IsTrue (is_in_box xs (i ∷ cs))) (drop-cons ns k 0 lt) h in
    subst (λ (j : ℕ). IsTrue (is_in_box (drop j ns) cs)) o (second (nat_lt i (slice_index ns k)) (is_in_box (drop (suc k) ns) cs) e)

pub box_joined : (ns : List ℕ) (k i : ℕ) (cs : List ℕ) → k < length ns → i < slice_index ns k → IsTrue (is_in_box (drop (k + 1) ns) cs) → IsTrue (is_in_box (drop k ns) (i ∷ cs))
box_joined ns k i cs lt l h =
    let o : k + 1 ≡ suc k = omega arith in
    subst (λ (xs : List ℕ). IsTrue (is_in_box xs (i ∷ cs))) (sym (drop-cons ns k 0 lt))
    (both (nat_lt i (slice_index ns k)) (is_in_box (drop (suc k) ns) cs) (lt-ltb i (slice_index ns k) l) (subst (λ (j : ℕ). IsTrue (is_in_box (drop j ns) cs)) o h))

pub box_some : (ns : List ℕ) (k : ℕ) → k < length ns → IsTrue (is_in_box (drop k ns) []) → ⊥
box_some ns k lt h =
    let e : false ≡ true = subst (λ (xs : List ℕ). IsTrue (is_in_box xs [])) (drop-cons ns k 0 lt) h in
    absurd (cc)

pub box_none : (ns cs : List ℕ) → length ns ≡ 0 → IsTrue (is_in_box ns cs) → cs ≡ []
box_none [] [] e h = refl
box_none [] (c ∷ cs) e h = cc
box_none (n ∷ ns) cs e h = absurd (omega arith)

-- one coordinate more
pub box_push : (ns at : List ℕ) (i : ℕ) → length at < length ns → IsTrue (is_in_box (take (length at) ns) at) → i < slice_index ns (length at) → IsTrue (is_in_box (take (suc (length at)) ns) (at ++ i ∷ []))
box_push [] at i lt h l = absurd (omega arith)
box_push (n ∷ ns) [] i lt h l = both (nat_lt i n) true (lt-ltb i n l) refl
box_push (n ∷ ns) (c ∷ at) i lt h l =
    both (nat_lt c n) (is_in_box (take (suc (length at)) ns) (at ++ i ∷ [])) (first (nat_lt c n) (is_in_box (take (length at) ns) at) h)
    (box_push ns at i (omega arith) (second (nat_lt c n) (is_in_box (take (length at) ns) at) h) l)

abbrev tail : List ℕ → List ℕ
tail [] = []
tail (x ∷ xs) = xs

pub other_branch : (at : List ℕ) (c i : ℕ) (ds cs : List ℕ) → c ≢ i → at ++ c ∷ ds ≢ (at ++ i ∷ []) ++ cs
other_branch [] c i ds cs ne e = ne (ap (λ (xs : List ℕ). slice_index xs 0) e)
other_branch (x ∷ at) c i ds cs ne e = other_branch at c i ds cs ne (ap tail e)

-- ---- children
pub below_by : (o : Option ℕ) (F G : ℕ → ℤ) (fill : ℤ) → ((q : ℕ) → o ≡ Some q → F q ≡ G q) → below o F fill ≡ below o G fill
below_by None F G fill h = refl
below_by (Some q) F G fill h = h q refl

below_fill : (o : Option ℕ) (F : ℕ → ℤ) (fill : ℤ) → ((q : ℕ) → o ≡ Some q → F q ≡ fill) → below o F fill ≡ fill
below_fill None F fill h = refl
below_fill (Some q) F fill h = h q refl

pub holds_as : (s : Storage) (at : List ℕ) (v w : List ℕ → ℤ) (f : TensorFunction) → Holds s at v f → ((cs : List ℕ) → IsTrue (is_in_box (drop (length at) s.shape) cs) → v cs ≡ w cs) → Holds s at w f
holds_as s at v w f h e = record { shape_is = h.shape_is; fill_is = h.fill_is; values_are = λ cs b. h.values_are cs b ∙ e cs b }

module _ (s : Storage) (k pos : ℕ) (deep : k < length s.parts) (within : pos < fibres s.shape s.parts 1 k) where
  abbrev n : ℕ
  n = slice_index s.shape k

  abbrev p : Part
  p = slice_index_or s.parts k part.Dense

  shaped : k < length s.shape
  shaped = omega (arith, stored_lengths 1 s.format.levels s.shape s.parts s.val s.valid, deep)

  kind : (l : Level) × IsLevel l n (fibres s.shape s.parts 1 k) p
  kind = kind_at k 1 s.format.levels s.shape s.parts s.val s.valid deep

  in_fibre : (i q : ℕ) → i < n → child_at s k pos i ≡ Some q → IsInFibre n p pos q
  in_fibre i q lt e = child_in_fibre kind.0 n (fibres s.shape s.parts 1 k) p pos i q kind.1 within lt e

  pub order : fibre_from n p pos ≤ fibre_to n p pos
  order = fibre_order kind.0 n (fibres s.shape s.parts 1 k) p pos kind.1 within

  pub place_within : (place : ℕ) → place < fibre_to n p pos → place < fibres s.shape s.parts 1 (k + 1)
  place_within place lt =
      let o : k + 1 ≡ suc k = omega arith in
      omega (arith, fibre_ends kind.0 n (fibres s.shape s.parts 1 k) p pos kind.1 within, ap (fibres s.shape s.parts 1) o, fibres_more k 1 s.shape s.parts deep shaped)

  each : (v w : List ℕ → ℤ) → ((i : ℕ) (cs : List ℕ) → i < n → IsTrue (is_in_box (drop (k + 1) s.shape) cs) → v (i ∷ cs) ≡ w (i ∷ cs)) → (cs : List ℕ) → IsTrue (is_in_box (drop k s.shape) cs) → v cs ≡ w cs
  each v w h [] b = absurd (box_some s.shape k shaped b)
  each v w h (i ∷ cs) b = h i cs (box_first s.shape k i cs shaped b) (box_rest s.shape k i cs shaped b)

  values_cons : (i : ℕ) (cs : List ℕ) → values_below s k pos (i ∷ cs) ≡ below (child_at s k pos i) (λ q. values_below s (k + 1) q cs) s.format.fill
  values_cons i cs =
      let o : k + 1 ≡ suc k = omega arith in
      let a = shaped in
      rw (o, drop-cons s.shape k 0 a, drop-cons s.parts k part.Dense deep) refl

  pub started : (cs : List ℕ) → IsTrue (is_in_box (drop k s.shape) cs) → blank s cs ≡ values_before (fibre_from n p pos) s k pos cs
  started = each (blank s) (values_before (fibre_from n p pos) s k pos) (λ i cs lt b. sym (below_fill (child_at s k pos i) _ s.format.fill (λ q e.
      ap (λ (t : Bool). if t then values_below s (k + 1) q cs else s.format.fill) (not_below q (fibre_from n p pos) (in_fibre i q lt e).low))))

  pub ended : (cs : List ℕ) → IsTrue (is_in_box (drop k s.shape) cs) → values_before (fibre_to n p pos) s k pos cs ≡ values_below s k pos cs
  ended = each (values_before (fibre_to n p pos) s k pos) (values_below s k pos) (λ i cs lt b. below_by (child_at s k pos i) _ _ s.format.fill (λ q e.
      ap (λ (t : Bool). if t then values_below s (k + 1) q cs else s.format.fill) (lt-ltb q (fibre_to n p pos) (in_fibre i q lt e).high)) ∙ sym (values_cons i cs))

  same_tests : (some other : ℕ → ℕ → Bool) → ((i q : ℕ) → i < n → child_at s k pos i ≡ Some q → some i q ≡ other i q) → (cs : List ℕ) → IsTrue (is_in_box (drop k s.shape) cs) → values_of some s k pos cs ≡ values_of other s k pos cs
  same_tests some other h = each (values_of some s k pos) (values_of other s k pos) (λ i cs lt b. below_by (child_at s k pos i) _ _ s.format.fill (λ q e.
      ap (λ (t : Bool). if t then values_below s (k + 1) q cs else s.format.fill) (h i q lt e)))

  module _ (place a b : ℕ) (span : IsSpan n p pos place a b) where
    pub place_started : (cs : List ℕ) → IsTrue (is_in_box (drop k s.shape) cs) → values_before place s k pos cs ≡ values_of (until place a) s k pos cs
    place_started = same_tests (λ i q. nat_lt q place) (until place a) (λ i q lt e. sym (until_start place a i q (λ same. (span.only i lt (e ∙ ap Some same)).0)))

    pub place_ended : (cs : List ℕ) → IsTrue (is_in_box (drop k s.shape) cs) → values_of (until place b) s k pos cs ≡ values_before (place + 1) s k pos cs
    place_ended = same_tests (until place b) (λ i q. nat_lt q (place + 1)) (λ i q lt e. until_end place b i q (λ same. (span.only i lt (e ∙ ap Some same)).1))

  pub place_skipped : (place : ℕ) → k + 1 ≡ length s.parts → slice_index_or s.val place s.format.fill ≡ s.format.fill → (cs : List ℕ) → IsTrue (is_in_box (drop k s.shape) cs) → values_before place s k pos cs ≡ values_before (place + 1) s k pos cs
  place_skipped place last is = each (values_before place s k pos) (values_before (place + 1) s k pos) (λ i cs lt b. below_by (child_at s k pos i) _ _ s.format.fill (λ q e. ⊎_elim
      (λ (same : q ≡ place).
      let x : nat_lt q place ≡ false = not_below q place (omega arith) in
      let y : nat_lt q (place + 1) ≡ true = lt-ltb q (place + 1) (omega arith) in
      let v : values_below s (k + 1) q cs ≡ s.format.fill = value_end (drop (k + 1) s.shape) (drop (k + 1) s.parts) s.val s.format.fill q cs (drop_length (k + 1) s.parts (omega arith)) ∙ ap (λ m. slice_index_or s.val m s.format.fill) same ∙ is in
      rw (x, y) (sym v))
      (λ ne. let d : q ≢ place = ne in let x : nat_lt q place ≡ nat_lt q (place + 1) = grind (arith, nat_tests) in ap (λ (t : Bool). if t then values_below s (k + 1) q cs else s.format.fill) x)
      (cases_eq q place)))
