-- The index of a read that a loop drives stays inside its extent along the range of the loop, or may leave it.
use Rattle.std.proofs.Common.{◌≡◌, ℕ, ◌+◌, ◌-◌, ◌<◌, ◌≤◌, ℤ, pos, negsuc, ◌+ℤ◌, Bool, true, false, not, ◌&&◌, ◌||◌, List, [], ◌∷◌, length, Option, Some, None, inl, inr, refl, sym, ap, ◌∙◌, arith, subst, if◌then◌else◌}
use Rattle.std.specs.Prelude.{nat_eq, nat_le, max, is_none, slice_set, slice_index_or}
use Rattle.std.proofs.lemmas.List.{get_or-set_same}
use Rattle.std.proofs.lemmas.Bool.Decides.{nat_tests}
use borrow.Author.Differences.{same_in, sum_is_lem}
use Rattle.fin_ast.specs.declared.tree.Index.{Index}
use Rattle.fin_ast.specs.Value.{Numbers, number, number_if, place}
use Rattle.fin_ast.specs.Scope.{differ}
use Rattle.fin_ast.specs.Sizes.{leaves, range_at}
use Rattle.fin_ast.specs.Dense.{Setting, range_of}
use Rattle.fin_simp.specs.Sights.{behind_var, behind_index, one_deeper, driven_index}
use Rattle.fin_simp.specs.Lasting.{IsInside}
use Rattle.fin_simp.specs.Moving.{stays, all_stay}

pub first_true : (a b : Bool) → (a && b) ≡ true → a ≡ true
first_true true b h = refl
first_true false b h = h

pub second_true : (a b : Bool) → (a && b) ≡ true → b ≡ true
second_true true b h = h
second_true false b h = let x : false ≡ true = h in cc

pub not_false : (b : Bool) → not b ≡ true → b ≡ false
not_false true h = let x : false ≡ true = h in cc
not_false false h = refl

other_true : (a b : Bool) → (a || b) ≡ true → a ≡ false → b ≡ true
other_true true b h k = let x : true ≡ false = k in cc
other_true false b h k = h

-- ---- which index it is

-- what holds of each index that the loop completes, with its level, holds of the driven one
module _ (var : ℕ) (P : ℕ → Index → Type 0) where
  abbrev Each : ℕ → List Index → Type 0
  Each k [] = Unit {0}
  Each k (i ∷ is) = (behind_index i ≡ var + 1 → P k i) × Each (k + 1) is

  deeper : (k : ℕ) (later : Option (ℕ × Index)) (d : ℕ × Index) → ((x : ℕ × Index) → later ≡ Some x → P (k + 1 + x.0) x.1) → one_deeper later ≡ Some d → P (k + d.0) d.1
  deeper k None d h e = let x : ◌≡◌ {A = Option (ℕ × Index)} None (Some d) = e in cc
  deeper k (Some x) d h e =
      let y : ◌≡◌ {A = Option (ℕ × Index)} (Some (x.0 + 1, x.1)) (Some d) = e in
      let same : (x.0 + 1, x.1) ≡ d = cc in
      let far : k + 1 + x.0 ≡ k + (x.0 + 1) = omega arith in
      subst (λ (z : ℕ × Index). P (k + z.0) z.1) same (subst (λ (j : ℕ). P j x.1) far (h x refl))

  here : (k : ℕ) (i : Index) (later : Option (ℕ × Index)) (d : ℕ × Index) → (behind_index i ≡ var + 1 → P k i) → ((x : ℕ × Index) → later ≡ Some x → P (k + 1 + x.0) x.1) → (a b : Bool)
      → nat_eq (behind_index i) (var + 1) ≡ b
      → (if a then one_deeper later else (if b then Some (0, i) else None)) ≡ Some d → P (k + d.0) d.1
  here k i later d p h true b t e = deeper k later d h e
  here k i later d p h false true t e =
      let y : ◌≡◌ {A = Option (ℕ × Index)} (Some (0, i)) (Some d) = e in
      let same : (0, i) ≡ d = cc in
      let none : k ≡ k + 0 = omega arith in
      let last : behind_index i ≡ var + 1 = grind (arith, nat_tests) in
      subst (λ (z : ℕ × Index). P (k + z.0) z.1) same (subst (λ (j : ℕ). P j i) none (p last))
  here k i later d p h false false t e = let x : ◌≡◌ {A = Option (ℕ × Index)} None (Some d) = e in cc

  driven_has : (k : ℕ) (is : List Index) (d : ℕ × Index) → Each k is → driven_index var is ≡ Some d → P (k + d.0) d.1
  driven_has k [] d each e = let x : ◌≡◌ {A = Option (ℕ × Index)} None (Some d) = e in cc
  driven_has k (i ∷ is) d each e =
      here k i (driven_index var is) d each.0 (λ x. driven_has (k + 1) is x each.1) (nat_le (behind_index i) var) (nat_eq (behind_index i) (var + 1)) refl e

module _ (var : ℕ) where
  abbrev IsLast : ℕ → Index → Type 0
  IsLast k i = behind_index i ≡ var + 1

  each_last : (k : ℕ) (is : List Index) → Each var IsLast k is
  each_last k [] = tt
  each_last k (i ∷ is) = (λ x. x, each_last (k + 1) is)

  -- its last variable is the loop's
  pub driven_last : (is : List Index) (d : ℕ × Index) → driven_index var is ≡ Some d → behind_index d.1 ≡ var + 1
  driven_last is d e = driven_has var IsLast 0 is d (each_last 0 is) e

module _ (w : Setting) (shape : List ℕ) (var : ℕ) where
  abbrev Stays : ℕ → Index → Type 0
  Stays k i = stays w (slice_index_or shape k 0) i ≡ true

  each_stays : (k : ℕ) (is : List Index) → all_stay w shape k is ≡ true → Each var Stays k is
  each_stays k [] h = tt
  each_stays k (i ∷ is) h =
      let one = stays w (slice_index_or shape k 0) i in
      let later = all_stay w shape (k + 1) is in
      (λ x. first_true one later h, each_stays (k + 1) is (second_true one later h))

  pub driven_stays : (is : List Index) (d : ℕ × Index) → all_stay w shape 0 is ≡ true → driven_index var is ≡ Some d → stays w (slice_index_or shape d.0 0) d.1 ≡ true
  driven_stays is d h e =
      let none : 0 + d.0 ≡ d.0 = omega arith in
      subst (λ (k : ℕ). Stays k d.1) none (driven_has var Stays 0 is d (each_stays 0 is h) e)

pub stays_differ : (w : Setting) (n : ℕ) (i : Index) → stays w n i ≡ true → differ i.first i.second ≡ true
stays_differ w n i h = first_true (differ i.first i.second) (i.loose || (is_none i.second && not (leaves i.offset (range_at w.dims.ranges i.first) n))) h

-- ---- where it points

-- one variable and an offset, over a range along which the sum doesn't leave the extent
lands : (o : ℤ) (lo hi n c : ℕ) → leaves o (lo, hi) n ≡ false → lo ≤ c → c < hi → (x : ℕ) × ((pos c +ℤ pos 0) +ℤ o ≡ pos x) × (x < n)
lands (pos k) lo hi n c q low high = (c + k, same_in ((pos c +ℤ pos 0) +ℤ pos k) (pos (c + k)) (omega (arith, sum_is_lem (pos c +ℤ pos 0) (pos k), sum_is_lem (pos c) (pos 0))), small) where
  small : c + k < n
  small = grind (arith, nat_tests)
lands (negsuc k) lo hi n c q low high = (
  c - (k + 1),
  same_in ((pos c +ℤ pos 0) +ℤ negsuc k) (pos (c - (k + 1))) (omega (
    arith,
    far,
    sum_is_lem (pos c +ℤ pos 0) (negsuc k),
    sum_is_lem (pos c) (pos 0),
  )),
  small,
) where
  far : k + 1 ≤ lo
  far = grind (arith, nat_tests)

  small : c - (k + 1) < n
  small = grind (arith, nat_tests)

module _ (w : Setting) (vars : Numbers) (var c : ℕ) (bound : var < length vars) (low : (range_of w var).0 ≤ c) (high : c < (range_of w var).1) where
  abbrev inner : Numbers
  inner = slice_set vars var (pos c)

  plain_lands : (a b : Option ℕ) (o : ℤ) (n : ℕ) → max (behind_var a) (behind_var b) ≡ var + 1 → (is_none b && not (leaves o (range_at w.dims.ranges a) n)) ≡ true
      → (x : ℕ) × ((number_if inner a +ℤ number_if inner b) +ℤ o ≡ pos x) × (x < n)
  plain_lands a (Some b) o n m q = let z : false ≡ true = q in cc
  plain_lands None None o n m q = absurd (omega (arith, m))
  plain_lands (Some a) None o n m q =
      let same : a ≡ var = omega (arith, m) in
      let kept : leaves o (range_of w var) n ≡ false = ap (λ k. leaves o (range_at w.dims.ranges (Some k)) n) (sym same) ∙ not_false (leaves o (range_at w.dims.ranges (Some a)) n) q in
      let got = lands o (range_of w var).0 (range_of w var).1 n c kept low high in
      let own : number inner a ≡ pos c = ap (number inner) same ∙ get_or-set_same vars var (pos c) (pos 0) bound in
      (got.0, ap (λ z. (z +ℤ pos 0) +ℤ o) own ∙ got.1, got.2)

  inside_by : (i : Index) (n : ℕ) (l : Bool) → i.loose ≡ l → stays w n i ≡ true → behind_index i ≡ var + 1 → IsInside i n (place inner i)
  inside_by i n true e h m = inl e
  inside_by i n false e h m =
      let rest = is_none i.second && not (leaves i.offset (range_at w.dims.ranges i.first) n) in
      inr (plain_lands i.first i.second i.offset n m (other_true i.loose rest (second_true (differ i.first i.second) (i.loose || rest) h) e))

  pub stays_inside : (i : Index) (n : ℕ) → stays w n i ≡ true → behind_index i ≡ var + 1 → IsInside i n (place inner i)
  stays_inside i n = inside_by i n i.loose refl
