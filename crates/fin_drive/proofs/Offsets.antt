-- Where an index points at a coordinate of its loop, and how far the coordinates of the loop lie behind.
use Rattle.std.proofs.Common.{◌≡◌, ◌≢◌, ◌⊎◌, ⊎_elim, inl, inr, ℕ, ◌+◌, ◌<◌, ◌≤◌, ◌^◌, ℤ, pos, negsuc, neg_ℤ, ◌+ℤ◌, ◌-ℤ◌, ◌≤ℤ◌, ◌<ℤ◌, w64, true, false, not, List, length, Option, Some, None, refl, sym, ap, ◌∙◌, arith, subst, if◌then◌else◌}
use Rattle.std.specs.Prelude.{nat_eq, max, int_lt, slice_set, ◌==◌}
use Rattle.std.proofs.lemmas.List.{get_or-set_same, get_or-set_other}
use Rattle.std.proofs.lemmas.Bool.Decides.{nat_tests}
use Rattle.std.proofs.lemmas.Int.{int_wrap_fits}
use borrow.Author.Differences.{up, down, same_in, sum_is_lem, neg_is, lt_out, le_out, below_in, at_most_in, lt-true, lt-false, fits_in}
use Rattle.fin_base.specs.declared.terms.Op.TheVariants as op
use Rattle.fin_ast.specs.declared.tree.Index.{Index}
use Rattle.fin_ast.specs.Value.{Numbers, number, number_if, place}
use Rattle.fin_ast.specs.Scope.{differ}
use Rattle.fin_ir.specs.declared.expression.IExpr.TheVariants.{Num, Local}
use Rattle.fin_ir.proofs.Values.{value_num, value_local}
use Rattle.fin_looplet.specs.View.{Store, value}
use Rattle.fin_unfurl.proofs.Places.{two_is}
use Rattle.fin_unfurl.proofs.Edges.{sub_of}
use Rattle.fin_simp.specs.Sights.{behind_var, behind_index}
use Rattle.fin_drive.specs.Looplets.{other, other_of, back_offset, back_from}
use Rattle.fin_drive.specs.Standing.{OtherIs, DistancesMean}

equal : (a b : ℕ) → nat_eq a b ≡ true → a ≡ b
equal a b e = grind (arith, nat_tests)

same_yes : (a b : ℕ) → a ≡ b → nat_eq a b ≡ true
same_yes a b e = grind (arith, nat_tests)

same_no : (a b : ℕ) → a ≢ b → nat_eq a b ≡ false
same_no a b e = grind (arith, nat_tests)

pub other_small : (vars : Numbers) (o : Option ℕ) (k : ℕ) → OtherIs vars o k → k < 2 ^ 40
other_small vars None k h = let e : k ≡ 0 = h in omega (arith, e)
other_small vars (Some y) k h = h.1

-- ---- where an index points

module _ (vars : Numbers) (var c k : ℕ) (bound : var < length vars) where
  abbrev here : Numbers
  here = slice_set vars var (pos c)

  own_number : (x : ℕ) → x ≡ var → number here x ≡ pos c
  own_number x e = ap (number here) e ∙ get_or-set_same vars var (pos c) (pos 0) bound

  other_number : (y : ℕ) → y ≢ var → number vars y ≡ pos k → number here y ≡ pos k
  other_number y e h = get_or-set_other vars var y (pos c) (pos 0) e ∙ h

  first_sum : pos c +ℤ pos k ≡ pos (c + k)
  first_sum = same_in (pos c +ℤ pos k) (pos (c + k)) (omega (arith, sum_is_lem (pos c) (pos k)))

  second_sum : pos k +ℤ pos c ≡ pos (c + k)
  second_sum = same_in (pos k +ℤ pos c) (pos (c + k)) (omega (arith, sum_is_lem (pos k) (pos c)))

  abbrev sums : Option ℕ → Option ℕ → ℤ
  sums a b = number_if here a +ℤ number_if here b

  two_vars : (a b : ℕ) → not (a == b) ≡ true → max (a + 1) (b + 1) ≡ var + 1 → ((a ≡ var) × (b ≢ var)) ⊎ ((b ≡ var) × (a ≢ var))
  two_vars a b d m = elim (nat_eq a var) as (λ t. nat_eq a var ≡ t → ((a ≡ var) × (b ≢ var)) ⊎ ((b ≡ var) × (a ≢ var))) [
    | true ↦ λ q. inl (equal a var q, λ e. grind (arith, nat_tests, q, e, d))
    | false ↦ λ q. inr (grind (arith, nat_tests), λ e. grind (arith, nat_tests))
  ] refl

  sum_is : (a b : Option ℕ) → differ a b ≡ true → max (behind_var a) (behind_var b) ≡ var + 1 → OtherIs vars (other_of var a b) k → sums a b ≡ pos (c + k)
  sum_is None None d m h = absurd (omega (arith, m))
  sum_is (Some a) None d m h =
      let e : a ≡ var = omega (arith, m) in
      let none : k ≡ 0 = subst (λ t. OtherIs vars (if t then None else Some a) k) (same_yes a var e) h in
      ap (λ z. z +ℤ pos 0) (own_number a e) ∙ ap (λ j. pos c +ℤ pos j) (sym none) ∙ first_sum
  sum_is None (Some b) d m h =
      let e : b ≡ var = omega (arith, m) in
      ap (λ z. pos 0 +ℤ z) (own_number b e) ∙ ap (λ j. pos j +ℤ pos c) (sym h) ∙ second_sum
  sum_is (Some a) (Some b) d m h =
      ⊎_elim
      (λ (q : (a ≡ var) × (b ≢ var)).
      let is = subst (λ t. OtherIs vars (if t then Some b else Some a) k) (same_yes a var q.0) h in
      ap (λ z. z +ℤ number here b) (own_number a q.0) ∙ ap (λ z. pos c +ℤ z) (other_number b q.1 is.0) ∙ first_sum)
      (λ (q : (b ≡ var) × (a ≢ var)).
      let is = subst (λ t. OtherIs vars (if t then Some b else Some a) k) (same_no a var q.1) h in
      ap (λ z. z +ℤ number here b) (other_number a q.1 is.0) ∙ ap (λ z. pos k +ℤ z) (own_number b q.0) ∙ second_sum)
      (two_vars a b d m)

  -- the coordinate, with the other variable's number and the offset
  pub place_is : (i : Index) → differ i.first i.second ≡ true → behind_index i ≡ var + 1 → OtherIs vars (other_of var i.first i.second) k → place here i ≡ pos (c + k) +ℤ i.offset
  place_is i d m h = ap (λ z. z +ℤ i.offset) (sum_is i.first i.second d m h)

-- ---- how far the loop lies behind

abbrev pub Near : ℤ → Type 0
Near o = (up o ≤ down o + (2 ^ 41 + 1)) × (down o ≤ up o + (2 ^ 41 + 1))

-- an offset is taken back, or is far on one side, where another one stands for it
pub back_cases : (o : ℤ) → (Near o × (back_offset o ≡ neg_ℤ o))
    ⊎ (((up o + (2 ^ 41 + 1) ≤ down o) × (back_offset o ≡ pos (2 ^ 41 + 1))) ⊎ ((down o + (2 ^ 41 + 1) ≤ up o) × (back_offset o ≡ negsuc (2 ^ 41))))
back_cases o =
    elim (int_lt o (negsuc (2 ^ 41))) as (λ a. int_lt o (negsuc (2 ^ 41)) ≡ a
    → (Near o × ((if a then pos (2 ^ 41 + 1) else (if int_lt (pos (2 ^ 41 + 1)) o then negsuc (2 ^ 41) else neg_ℤ o)) ≡ neg_ℤ o))
    ⊎ (((up o + (2 ^ 41 + 1) ≤ down o) × ((if a then pos (2 ^ 41 + 1) else (if int_lt (pos (2 ^ 41 + 1)) o then negsuc (2 ^ 41) else neg_ℤ o)) ≡ pos (2 ^ 41 + 1)))
    ⊎ ((down o + (2 ^ 41 + 1) ≤ up o) × ((if a then pos (2 ^ 41 + 1) else (if int_lt (pos (2 ^ 41 + 1)) o then negsuc (2 ^ 41) else neg_ℤ o)) ≡ negsuc (2 ^ 41))))) [
      | true ↦ (λ x. inr (inl (omega (arith, lt-true o (negsuc (2 ^ 41)) x), refl)))
      | false ↦ (λ x. elim (int_lt (pos (2 ^ 41 + 1)) o) as (λ b. int_lt (pos (2 ^ 41 + 1)) o ≡ b → (Near o × ((if b then negsuc (2 ^ 41) else neg_ℤ o) ≡ neg_ℤ o))
          ⊎ (((up o + (2 ^ 41 + 1) ≤ down o) × ((if b then negsuc (2 ^ 41) else neg_ℤ o) ≡ pos (2 ^ 41 + 1)))
          ⊎ ((down o + (2 ^ 41 + 1) ≤ up o) × ((if b then negsuc (2 ^ 41) else neg_ℤ o) ≡ negsuc (2 ^ 41))))) [
            | true ↦ (λ y. inr (inr (omega (arith, lt-true (pos (2 ^ 41 + 1)) o y), refl)))
            | false ↦ (λ y. inl ((omega (arith, lt-false (pos (2 ^ 41 + 1)) o y), omega (arith, lt-false o (negsuc (2 ^ 41)) x)), refl))
          ] refl)
    ] refl

pub back_near : (o : ℤ) → Near (back_offset o)
back_near o =
    ⊎_elim
    (λ (q : Near o × (back_offset o ≡ neg_ℤ o)). subst Near (sym q.1) (omega (arith, q.0, neg_is o), omega (arith, q.0, neg_is o)))
    (λ r. ⊎_elim
    (λ (q : (up o + (2 ^ 41 + 1) ≤ down o) × (back_offset o ≡ pos (2 ^ 41 + 1))). subst Near (sym q.1) (omega arith, omega arith))
    (λ (q : (down o + (2 ^ 41 + 1) ≤ up o) × (back_offset o ≡ negsuc (2 ^ 41))). subst Near (sym q.1) (omega arith, omega arith))
    r) (back_cases o)

back_value : (ts : Store) (ls : List ℤ) (o : Option ℕ) (k : ℕ) (offset : ℤ) → OtherIs ls o k → value ts ls (back_from (back_offset offset) o) ≡ back_offset offset -ℤ pos k
back_value ts ls None k offset h =
    let z = back_offset offset in
    value_num ts ls z ∙ same_in z (z -ℤ pos 0) (omega (arith, sub_of z (pos 0))) ∙ ap (λ j. z -ℤ pos j) (sym h)
back_value ts ls (Some y) k offset h =
    let z = back_offset offset in
    two_is ts ls op.Sub (Num z) (Local y) z (pos k) (value_num ts ls z) (value_local ts ls y ∙ h.0)
    ∙ int_wrap_fits w64 (z -ℤ pos k) (fits_in w64 (z -ℤ pos k) (omega (arith, back_near offset, sub_of z (pos k), h.1)))

pub distances_mean : DistancesMean
distances_mean ts ls r k h = back_value ts ls (other r) k r.index.offset h

-- ---- the coordinate of the level, by the code

-- the two are one number, or both are outside of the extent and don't end there
abbrev pub Meets : ℕ → ℤ → ℤ → Type 0
Meets n w z = (w ≡ z) ⊎ (((pos n ≤ℤ w) × (pos n ≤ℤ z)) ⊎ ((w <ℤ negsuc 0) × (z <ℤ negsuc 0)))

module _ (c k n : ℕ) (o : ℤ) (low : c < 2 ^ 40) (few : k < 2 ^ 40) (small : n ≤ 2 ^ 40) where
  abbrev b : ℤ
  b = back_offset o -ℤ pos k

  abbrev w : ℤ
  w = pos c -ℤ b

  abbrev z : ℤ
  z = pos (c + k) +ℤ o

  -- how far it is moved
  moves : up w + up (back_offset o) ≡ c + k + down (back_offset o) + down w
  moves = omega (arith, sub_of (pos c) b, sub_of (back_offset o) (pos k))

  points : up z + down o ≡ c + k + up o + down z
  points = omega (arith, sum_is_lem (pos (c + k)) o)

  pub near_meets : Near o → back_offset o ≡ neg_ℤ o → w ≡ z
  near_meets q e = same_in w z (omega (arith, moves, points, ap up e, ap down e, neg_is o))

  pub meets : Meets n w z
  meets =
      ⊎_elim
      (λ (q : Near o × (back_offset o ≡ neg_ℤ o)). inl (near_meets q.0 q.1))
      (λ r. ⊎_elim
      (λ (q : (up o + (2 ^ 41 + 1) ≤ down o) × (back_offset o ≡ pos (2 ^ 41 + 1))).
      inr (inr (below_in w (negsuc 0) (omega (arith, low, few, moves, ap up q.1, ap down q.1)), below_in z (negsuc 0) (omega (arith, low, few, points, q.0)))))
      (λ (q : (down o + (2 ^ 41 + 1) ≤ up o) × (back_offset o ≡ negsuc (2 ^ 41))).
      inr (inl (at_most_in (pos n) w (omega (arith, small, moves, ap up q.1, ap down q.1)), at_most_in (pos n) z (omega (arith, small, points, q.0)))))
      r) (back_cases o)

  -- a number of the extent is met
  pub within_meets : (m : ℕ) → z ≡ pos m → m < n → w ≡ pos m
  within_meets m e lt =
      ⊎_elim
      (λ (q : w ≡ z). q ∙ e)
      (λ r. ⊎_elim
      (λ (q : (pos n ≤ℤ w) × (pos n ≤ℤ z)). absurd (omega (arith, lt, le_out (pos n) z q.1, ap up e, ap down e)))
      (λ (q : (w <ℤ negsuc 0) × (z <ℤ negsuc 0)). absurd (omega (arith, lt_out z (negsuc 0) q.1, ap up e, ap down e)))
      r) meets

  pub meets_within : (m : ℕ) → w ≡ pos m → m < n → z ≡ pos m
  meets_within m e lt =
      ⊎_elim
      (λ (q : w ≡ z). sym q ∙ e)
      (λ r. ⊎_elim
      (λ (q : (pos n ≤ℤ w) × (pos n ≤ℤ z)). absurd (omega (arith, lt, le_out (pos n) w q.0, ap up e, ap down e)))
      (λ (q : (w <ℤ negsuc 0) × (z <ℤ negsuc 0)). absurd (omega (arith, lt_out w (negsuc 0) q.0, ap up e, ap down e)))
      r) meets

  -- the code moves no further than is near
  pub reaches : (up w ≤ down w + (2 ^ 42 + 2 ^ 41)) × (down w ≤ up w + (2 ^ 42 + 1))
  reaches = (omega (arith, low, few, moves, back_near o), omega (arith, moves, back_near o))
