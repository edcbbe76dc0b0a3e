-- Driven indices move by one with the variable of their loop, inside the extent.
use Rattle.std.proofs.Common.{◌≡◌, ◌≢◌, ◌⊎◌, inl, inr, ℕ, suc, ◌+◌, ◌-◌, ◌<◌, ◌≤◌, ℤ, pos, negsuc, ◌+ℤ◌, Bool, true, false, not, ◌&&◌, ◌||◌, List, [], ◌∷◌, length, Option, Some, None, refl, sym, ap, ◌∙◌, arith, subst, if◌then◌else◌}
use Rattle.std.proofs.Math.IntN.{+ℤ_assoc, +ℤ_comm, +ℤ_idr}
use Rattle.std.specs.Prelude.{cond, nat_eq, nat_lt, nat_le, max, slice_set, slice_index_or, is_none, filter_map, option_map, ◌==◌}
use Rattle.std.specs.List.{list_all, cons_option}
use Rattle.std.proofs.lemmas.Int.{ints}
use Rattle.std.proofs.lemmas.List.{get_or-set_same, get_or-set_other}
use Rattle.std.proofs.lemmas.Bool.Decides.{nat_tests}
use Rattle.fin_ast.specs.declared.tree.Index.{Index}
use Rattle.fin_ast.specs.Value.{Numbers, number, number_if, place}
use Rattle.fin_ast.specs.Scope.{differ}
use Rattle.fin_ast.specs.Sizes.{leaves, range_at}
use Rattle.fin_ast.specs.Dense.{Setting, range_of, shape_at}
use Rattle.fin_stage.specs.Staged.{Run}
use Rattle.fin_simp.specs.Rest.{Access}
use Rattle.fin_simp.specs.Sights.{behind_var, behind_index, one_deeper, driven_index}
use Rattle.fin_simp.specs.Work.{World, Driven, driven_at}
use Rattle.fin_simp.specs.Lasting.{IsInside, MovesInside, AllMove}
use Rattle.fin_simp.specs.Moving.{stays, all_stay, access_stays}

left_true : (a b : Bool) → (a && b) ≡ true → a ≡ true
left_true true b h = refl
left_true false b h = h

right_true : (a b : Bool) → (a && b) ≡ true → b ≡ true
right_true true b h = h
right_true false b h = let x : false ≡ true = h in cc

equal : (a b : ℕ) → nat_eq a b ≡ true → a ≡ b
equal a b e = grind (arith, nat_tests)

swapped : (x y k : ℤ) → (x +ℤ y) +ℤ k ≡ (x +ℤ k) +ℤ y
swapped x y k = +ℤ_assoc x y k ∙ ap (λ z. x +ℤ z) (+ℤ_comm y k) ∙ sym (+ℤ_assoc x k y)

-- ---- the number of a variable at two coordinates
module _ (vars : Numbers) (var c : ℕ) (bound : var < length vars) where
  abbrev here : Numbers
  here = slice_set vars var (pos c)

  abbrev next : Numbers
  next = slice_set vars var (pos (c + 1))

  set_number : (k x : ℕ) → k ≡ var → number (slice_set vars var (pos x)) k ≡ pos x
  set_number k x e = ap (number (slice_set vars var (pos x))) e ∙ get_or-set_same vars var (pos x) (pos 0) bound

  other_number : (k : ℕ) → k ≢ var → number next k ≡ number here k
  other_number k e = get_or-set_other vars var k (pos (c + 1)) (pos 0) e ∙ sym (get_or-set_other vars var k (pos c) (pos 0) e)

  one_more : pos (c + 1) ≡ pos c +ℤ pos 1
  one_more = grind (arith, ints)

  first_moves : (k : ℕ) (b o : ℤ) → k ≡ var → (number next k +ℤ b) +ℤ o ≡ ((number here k +ℤ b) +ℤ o) +ℤ pos 1
  first_moves k b o e =
      let z = number here k in
      ap (λ y. (y +ℤ b) +ℤ o) (set_number k (c + 1) e ∙ one_more ∙ ap (λ y. y +ℤ pos 1) (sym (set_number k c e))) ∙ ap (λ y. y +ℤ o) (swapped z (pos 1) b) ∙ swapped (z +ℤ b) (pos 1) o

  second_moves : (k : ℕ) (a o : ℤ) → k ≡ var → (a +ℤ number next k) +ℤ o ≡ ((a +ℤ number here k) +ℤ o) +ℤ pos 1
  second_moves k a o e =
      let z = number here k in
      ap (λ y. (a +ℤ y) +ℤ o) (set_number k (c + 1) e ∙ one_more ∙ ap (λ y. y +ℤ pos 1) (sym (set_number k c e))) ∙ ap (λ y. y +ℤ o) (sym (+ℤ_assoc a z (pos 1))) ∙ swapped (a +ℤ z) (pos 1) o

  abbrev sums : Option ℕ → Option ℕ → ℤ → Numbers → ℤ
  sums a b o ns = (number_if ns a +ℤ number_if ns b) +ℤ o

  two_vars : (a b : ℕ) → not (a == b) ≡ true → max (a + 1) (b + 1) ≡ var + 1 → ((a ≡ var) × (b ≢ var)) ⊎ ((b ≡ var) × (a ≢ var))
  two_vars a b d m = elim (nat_eq a var) as (λ t. nat_eq a var ≡ t → ((a ≡ var) × (b ≢ var)) ⊎ ((b ≡ var) × (a ≢ var))) [
    | true ↦ λ q. inl (equal a var q, λ e. grind (arith, nat_tests, q, e, d))
    | false ↦ λ q. inr (grind (arith, nat_tests), λ e. grind (arith, nat_tests))
  ] refl

  both_move : (a b : ℕ) (o : ℤ) → ((a ≡ var) × (b ≢ var)) ⊎ ((b ≡ var) × (a ≢ var)) → sums (Some a) (Some b) o next ≡ sums (Some a) (Some b) o here +ℤ pos 1
  both_move a b o (inl q) = ap (λ z. (number next a +ℤ z) +ℤ o) (other_number b q.1) ∙ first_moves a (number here b) o q.0
  both_move a b o (inr q) = ap (λ z. (z +ℤ number next b) +ℤ o) (other_number a q.1) ∙ second_moves b (number here a) o q.0

  moves : (a b : Option ℕ) (o : ℤ) → differ a b ≡ true → max (behind_var a) (behind_var b) ≡ var + 1 → sums a b o next ≡ sums a b o here +ℤ pos 1
  moves None None o d m = absurd (omega (arith, m))
  moves (Some a) None o d m = first_moves a (pos 0) o (omega (arith, m))
  moves None (Some b) o d m = second_moves b (pos 0) o (omega (arith, m))
  moves (Some a) (Some b) o d m = both_move a b o (two_vars a b d m)

-- ---- a plain index stays inside
lands : (o : ℤ) (lo hi n c : ℕ) → leaves o (lo, hi) n ≡ false → lo ≤ c → c < hi → (x : ℕ) × ((pos c +ℤ pos 0) +ℤ o ≡ pos x) × (x < n)
lands (pos k) lo hi n c q le lt = (c + k, grind (arith, ints), low) where
  low : c + k < n
  low = grind (arith, nat_tests)
lands (negsuc k) lo hi n c q le lt = (c - (k + 1), down, low) where
  far : k + 1 ≤ lo
  far = grind (arith, nat_tests)

  low : c - (k + 1) < n
  low = grind (arith, nat_tests)

  down : (pos c +ℤ pos 0) +ℤ negsuc k ≡ pos (c - (k + 1))
  down =
      let reach : nat_lt c (suc k) ≡ false = grind (arith, nat_tests) in
      let same : c - suc k ≡ c - (k + 1) = omega arith in
      ap (λ z. z +ℤ negsuc k) (+ℤ_idr (pos c)) ∙ ap (λ b. cond b (negsuc (suc k - suc c)) (pos (c - suc k))) reach ∙ ap pos same

-- ---- one driven read
false_or : (a b : Bool) → (a || b) ≡ true → a ≡ false → b ≡ true
false_or true b h k = let x : true ≡ false = k in cc
false_or false b h k = h

not_true : (b : Bool) → not b ≡ true → b ≡ false
not_true false h = refl
not_true true h = let x : false ≡ true = h in cc

module _ (w : Setting) (vars : Numbers) (var c : ℕ) (bound : var < length vars) (from : (range_of w var).0 ≤ c) (to : c + 1 < (range_of w var).1) where
  -- a plain index names the loop's variable alone
  plain_lands : (a b : Option ℕ) (o : ℤ) (n x : ℕ) → max (behind_var a) (behind_var b) ≡ var + 1 → (is_none b && not (leaves o (range_at w.dims.ranges a) n)) ≡ true → (range_of w var).0 ≤ x → x < (range_of w var).1
      → (y : ℕ) × (sums vars var c bound a b o (slice_set vars var (pos x)) ≡ pos y) × (y < n)
  plain_lands a (Some b) o n x m q le lt = let z : false ≡ true = q in cc
  plain_lands None None o n x m q le lt = absurd (omega (arith, m))
  plain_lands (Some a) None o n x m q le lt =
      let same : a ≡ var = omega (arith, m) in
      let kept : leaves o (range_of w var) n ≡ false = ap (λ k. leaves o (range_at w.dims.ranges (Some k)) n) (sym same) ∙ not_true (leaves o (range_at w.dims.ranges (Some a)) n) q in
      let got = lands o (range_of w var).0 (range_of w var).1 n x kept le lt in
      (got.0, ap (λ z. (z +ℤ pos 0) +ℤ o) (set_number vars var x bound a x same) ∙ got.1, got.2)

  inside_at : (i : Index) (n x : ℕ) (b : Bool) → i.loose ≡ b → stays w n i ≡ true → behind_index i ≡ var + 1 → (range_of w var).0 ≤ x → x < (range_of w var).1 → IsInside i n (place (slice_set vars var (pos x)) i)
  inside_at i n x true l s m le lt = inl l
  inside_at i n x false l s m le lt =
      inr (plain_lands i.first i.second i.offset n x m (false_or i.loose (is_none i.second && not (leaves i.offset (range_at w.dims.ranges i.first) n)) (right_true (differ i.first i.second) _ s) l) le lt)

  read_moves : (d : Driven) → stays w d.extent d.index ≡ true → behind_index d.index ≡ var + 1 → MovesInside vars var c d
  read_moves d s m =
      let step : place (slice_set vars var (pos (c + 1))) d.index ≡ place (slice_set vars var (pos c)) d.index +ℤ pos 1
      = moves vars var c bound d.index.first d.index.second d.index.offset (left_true (differ d.index.first d.index.second) _ s) m in
      record {
        step = step;
        here = inside_at d.index d.extent c d.index.loose refl s m from (omega (arith, to));
        next = subst (IsInside d.index d.extent) step (inside_at d.index d.extent (c + 1) d.index.loose refl s m (omega (arith, from)) to);
      }

  -- ---- the driven reads of a body
  abbrev Well : List ℕ → ℕ → Option (ℕ × Index) → Type 0
  Well shape k None = Unit {0}
  Well shape k (Some d) = (stays w (slice_index_or shape (k + d.0) 0) d.1 ≡ true) × (behind_index d.1 ≡ var + 1)

  deeper : (shape : List ℕ) (k : ℕ) (o : Option (ℕ × Index)) → Well shape (k + 1) o → Well shape k (one_deeper o)
  deeper shape k None h = tt
  deeper shape k (Some d) h = let far : k + 1 + d.0 ≡ k + (d.0 + 1) = omega arith in (subst (λ j. stays w (slice_index_or shape j 0) d.1 ≡ true) far h.0, h.1)

  found : (shape : List ℕ) (k : ℕ) (i : Index) (o : Option (ℕ × Index)) (a b : Bool) → nat_eq (behind_index i) (var + 1) ≡ b → stays w (slice_index_or shape k 0) i ≡ true → Well shape (k + 1) o
      → Well shape k (if a then one_deeper o else (if b then Some (0, i) else None))
  found shape k i o true b e s h = deeper shape k o h
  found shape k i o false true e s h = let same : k ≡ k + 0 = omega arith in (subst (λ j. stays w (slice_index_or shape j 0) i ≡ true) same s, equal (behind_index i) (var + 1) e)
  found shape k i o false false e s h = tt

  driven_well : (shape : List ℕ) (k : ℕ) (at : List Index) → all_stay w shape k at ≡ true → Well shape k (driven_index var at)
  driven_well shape k [] h = tt
  driven_well shape k (i ∷ is) h =
      let s = left_true (stays w (slice_index_or shape k 0) i) (all_stay w shape (k + 1) is) h in
      let rest = driven_well shape (k + 1) is (right_true (stays w (slice_index_or shape k 0) i) (all_stay w shape (k + 1) is) h) in
      found shape k i (driven_index var is) (nat_le (behind_index i) var) (nat_eq (behind_index i) (var + 1)) refl s rest

  one_moves : (wd : World) (around : Numbers) (r : Run) (changed : List ℕ) (a : Access) → wd.setting ≡ w → (o : Option (ℕ × Index)) (ds : List Driven) → Well (shape_at w a.tensor) 0 o → AllMove vars var c ds
      → AllMove vars var c (cons_option (option_map (driven_at wd around r changed a) o) ds)
  one_moves wd around r changed a e None ds h all = all
  one_moves wd around r changed a e (Some d) ds h all =
      let same : 0 + d.0 ≡ d.0 = omega arith in
      let s : stays w (slice_index_or (shape_at w a.tensor) d.0 0) d.1 ≡ true = subst (λ j. stays w (slice_index_or (shape_at w a.tensor) j 0) d.1 ≡ true) same h.0 in
      (read_moves (driven_at wd around r changed a d) (subst (λ (v : Setting). stays w (slice_index_or (shape_at v a.tensor) d.0 0) d.1 ≡ true) (sym e) s) h.1, all)

  pub driven_move : (wd : World) (around : Numbers) (r : Run) (changed : List ℕ) (reads : List Access) → wd.setting ≡ w → list_all (access_stays w) reads ≡ true
      → AllMove vars var c (filter_map (λ (a : Access). option_map (driven_at wd around r changed a) (driven_index var a.at)) reads)
  driven_move wd around r changed [] e h = tt
  driven_move wd around r changed (a ∷ reads) e h =
      one_moves wd around r changed a e (driven_index var a.at) _ (driven_well (shape_at w a.tensor) 0 a.at (left_true (access_stays w a) (list_all (access_stays w) reads) h))
      (driven_move wd around r changed reads e (right_true (access_stays w a) (list_all (access_stays w) reads) h))
