-- What the looplet of a fibre shows along the coordinates of its level, and what it shows moved and edged.
use Rattle.std.proofs.Common.{◌≡◌, ◌⊎◌, ⊎_elim, inl, inr, ℕ, zero, suc, ◌+◌, ◌<◌, ◌≤◌, ◌^◌, ℤ, pos, negsuc, ◌+ℤ◌, ◌-ℤ◌, ◌≤ℤ◌, ◌<ℤ◌, Bool, true, false, ◌&&◌, ◌||◌, List, length, Option, Some, None, refl, sym, ap, ◌∙◌, arith, subst, if◌then◌else◌}
use Rattle.std.specs.Prelude.{nat_eq, nat_lt, int_le, is_none, slice_set, slice_index_or}
use Rattle.std.proofs.lemmas.Bool.Decides.{nat_tests}
use borrow.Author.Differences.{up, down, sum_is_lem, lt_out, le_out, below_in, at_most_in, true_is_le, false_is_le}
use Rattle.fin_tensor.specs.declared.part.Part.{Part}
use Rattle.fin_tensor.specs.Levels.{child_in}
use Rattle.fin_tensor.specs.Pieces.{walked}
use Rattle.fin_ast.specs.declared.tree.Index.{Index}
use Rattle.fin_ir.specs.declared.expression.IExpr.{IExpr}
use Rattle.fin_ir.specs.declared.expression.IExpr.TheVariants.{Num}
use Rattle.fin_ir.specs.Value.{is_off}
use Rattle.fin_ir.specs.Frozen.{Frozen}
use Rattle.fin_ir.specs.Loads.{part_at}
use Rattle.fin_looplet.specs.declared.looplet.Looplet.{Looplet}
use Rattle.fin_looplet.specs.View.{Store, value, view, View, gap, word, position, absent, ended, plain}
use Rattle.fin_unfurl.specs.Fibres.{Asked, IsApart, nowhere, at, sight_of}
use Rattle.fin_unfurl.specs.Walks.{unfurl_of}
use Rattle.fin_unfurl.specs.Shifts.{edged}
use Rattle.fin_unfurl.proofs.Means.{shows}
use Rattle.fin_unfurl.proofs.Small.{natural}
use Rattle.fin_unfurl.proofs.Edges.{sub_of, Before, Inside, Behind, where_is, view_before, view_inside, view_behind}
use Rattle.fin_simp.specs.Sights as known
use Rattle.fin_simp.specs.Sights.{Stand, Nowhere, At, Unsettled, stand_sight, sight_at, empty}
use Rattle.fin_drive.specs.Turns.{fill_of}
use Rattle.fin_drive.specs.Looplets.{unknown}
use Rattle.fin_drive.specs.Watches.{Faces}
use Rattle.fin_drive.specs.Standing.{StandsFor}

-- ---- along its level

-- the fibre, or where it isn't settled a lookup that says nothing
abbrev pub fibre_by : Asked → Bool → ℕ → Looplet
fibre_by a settled coord = if settled then unfurl_of a else unknown a.tensor coord

leaf_fill : (a : Asked) (s : Frozen) (o : Option ℕ) → fill_of (sight_of a s o) ≡ (if is_none o then Some a.format.fill else None)
leaf_fill a s None = refl
leaf_fill a s (Some q) =
    elim (nat_eq (a.level + 1) (length a.format.levels)) as (λ b. fill_of (if b then word (slice_index_or s.val q (pos 0)) else position a.tensor (a.level + 1) (pos q)) ≡ None) [
      | true ↦ refl
      | false ↦ refl
    ]

no_gap : (b : Bool) (tensor : ℕ) (z : ℤ) → fill_of (if b then absent else position tensor 0 z) ≡ None
no_gap true tensor z = refl
no_gap false tensor z = refl

module _ (a : Asked) (within : a.level < length a.format.levels) (apart : IsApart a.cursor a.place) (ts : Store) (ls : List ℤ) where
  pub settled_faces : (stand : Stand) → StandsFor ts ls a true stand → (end : ℤ) (m : ℕ) → m < a.extent
      → Faces (view ts ls (unfurl_of a) end (pos m)) (stand_sight walked a.extent stand m) a.format.fill (m + 1 < a.extent)
  settled_faces Nowhere h end m lt =
      let s = shows a within apart ts ls nowhere h m end lt in
      record { gap = ap fill_of s.sight; varies = s.varies; ends = s.ends }
  settled_faces Unsettled h end m lt = absurd h
  settled_faces (At part q) h end m lt =
      let s = shows a within apart ts ls (at h.0 q) h.2 m end lt in
      subst (λ (p : Part). Faces (view ts ls (unfurl_of a) end (pos m)) (stand_sight walked a.extent (At p q) m) a.format.fill (m + 1 < a.extent)) (sym h.1)
      (record { gap = ap fill_of s.sight ∙ leaf_fill a h.0 (child_in a.extent (part_at h.0.parts a.level) q m); varies = s.varies; ends = s.ends })

  unknown_faces : (coord : ℕ) (fill : ℤ) (end : ℤ) (m : ℕ) → Faces (view ts ls (unknown a.tensor coord) end (pos m)) (stand_sight walked a.extent Unsettled m) fill (m + 1 < a.extent)
  unknown_faces coord fill end m = record {
    gap = no_gap (is_off (value ts (slice_set ls coord (pos m)) (Num (pos 1)))) a.tensor (value ts (slice_set ls coord (pos m)) (Num (pos 0)));
    varies = refl;
    ends = λ i. refl;
  }

  pub fibre_faces : (settled : Bool) (coord : ℕ) (stand : Stand) → StandsFor ts ls a settled stand → (end : ℤ) (m : ℕ) → m < a.extent
      → Faces (view ts ls (fibre_by a settled coord) end (pos m)) (stand_sight walked a.extent stand m) a.format.fill (m + 1 < a.extent)
  fibre_faces true coord stand h end m lt = settled_faces stand h end m lt
  fibre_faces false coord Nowhere h end m lt = absurd h
  fibre_faces false coord (At part q) h end m lt = absurd h
  fibre_faces false coord Unsettled h end m lt = unknown_faces coord a.format.fill end m

-- ---- outside of the extent

behind_empty : (i : Index) (n : ℕ) (stand : Stand) (w : ℤ) → pos n ≤ℤ w → sight_at i n stand w ≡ empty
behind_empty i n stand (pos m) h =
    let le : n ≤ m = omega (arith, le_out (pos n) (pos m) h) in
    let out : nat_lt m n ≡ false = grind (arith, nat_tests) in
    ap (λ b. if b then known.edged (i.loose && nat_eq (m + 1) n) (stand_sight walked n stand m) else empty) out
behind_empty i n stand (negsuc m) h = absurd (omega (arith, le_out (pos n) (negsuc m) h))

before_empty : (i : Index) (n : ℕ) (stand : Stand) (w : ℤ) → w <ℤ negsuc 0 → sight_at i n stand w ≡ empty
before_empty i n stand (pos m) h = absurd (omega (arith, lt_out (pos m) (negsuc 0) h))
before_empty i n stand (negsuc zero) h = absurd (omega (arith, lt_out (negsuc 0) (negsuc 0) h))
before_empty i n stand (negsuc (suc m)) h = refl

-- two numbers outside are seen alike
pub outside_same : (i : Index) (n : ℕ) (stand : Stand) (w z : ℤ) → (w ≡ z) ⊎ (((pos n ≤ℤ w) × (pos n ≤ℤ z)) ⊎ ((w <ℤ negsuc 0) × (z <ℤ negsuc 0))) → sight_at i n stand w ≡ sight_at i n stand z
outside_same i n stand w z (inl e) = ap (sight_at i n stand) e
outside_same i n stand w z (inr (inl h)) = behind_empty i n stand w h.0 ∙ sym (behind_empty i n stand z h.1)
outside_same i n stand w z (inr (inr h)) = before_empty i n stand w h.0 ∙ sym (before_empty i n stand z h.1)

-- ---- inside of it

pub inside_is : (i : Index) (n : ℕ) (stand : Stand) (m : ℕ) → m < n → sight_at i n stand (pos m) ≡ known.edged (i.loose && nat_eq (m + 1) n) (stand_sight walked n stand m)
inside_is i n stand m lt =
    let held : nat_lt m n ≡ true = grind (arith, nat_tests) in
    ap (λ b. if b then known.edged (i.loose && nat_eq (m + 1) n) (stand_sight walked n stand m) else empty) held

-- ---- with an edge

or_false : (x : Bool) → (x || false) ≡ x
or_false true = refl
or_false false = refl

module _ (child : Looplet) (by : IExpr) (n : ℕ) (fill : ℤ) (small : n ≤ 2 ^ 40) (ts : Store) (ls : List ℤ) (stand : Stand) (i : Index) (loose : i.loose ≡ true)
    (faces : (end : ℤ) (m : ℕ) → m < n → Faces (view ts ls child end (pos m)) (stand_sight walked n stand m) fill (m + 1 < n)) where
  abbrev b : ℤ
  b = value ts ls by

  -- a part before the box ends where that begins
  before_faces : (inside : Type 0) (w : ℤ) (e : Bool) → (w ≡ negsuc 0 → e ≡ true) → (w <ℤ negsuc 0 → e ≡ false) → w <ℤ pos 0
      → Faces (ended e false (plain false (gap fill))) (sight_at i n stand w) fill inside
  before_faces inside (pos m) e first further h = absurd (omega (arith, lt_out (pos m) (pos 0) h))
  before_faces inside (negsuc zero) e first further h = record { gap = refl; varies = refl; ends = λ x. ap (λ y. y || false) (first refl ∙ sym loose) }
  before_faces inside (negsuc (suc m)) e first further h = record { gap = refl; varies = refl; ends = λ x. or_false e ∙ further (below_in (negsuc (suc m)) (negsuc 0) (omega arith)) }

  inner_ends : (e q : Bool) (v s : Bool) → e ≡ q → (q ≡ false → v ≡ s) → (e || v) ≡ ((true && q) || s)
  inner_ends e true v s h k = ap (λ x. x || v) h
  inner_ends e false v s h k = ap (λ x. x || v) h ∙ k refl

  pub edged_faces : (c : ℕ) (end : ℤ) (inside : Type 0) → c < 2 ^ 40 → (inside → c + 1 < 2 ^ 40) → Faces (view ts ls (edged child by n fill) end (pos c)) (sight_at i n stand (pos c -ℤ b)) fill inside
  edged_faces c end inside lt next =
      let w = pos c -ℤ b in
      let sub = sub_of (pos c) b in
      ⊎_elim
      (λ (h : Before child by n fill small ts ls c).
      subst (λ (v : View). Faces v (sight_at i n stand w) fill inside) (sym (view_before child by n fill small ts ls c end lt h))
      (before_faces inside w (int_le b (pos (c + 1)))
      (λ e. sym (true_is_le b (pos (c + 1)) (omega (arith, sub, ap up e, ap down e))))
      (λ l. sym (false_is_le b (pos (c + 1)) (omega (arith, sub, lt_out w (negsuc 0) l))))
      (below_in w (pos 0) (omega (arith, sub, h)))))
      (λ r. ⊎_elim
      (λ (h : Inside child by n fill small ts ls c).
      let m = natural w (at_most_in (pos 0) w (omega (arith, sub, h))) in
      let inner : m.0 < n = omega (arith, sub, h, ap up m.1, ap down m.1) in
      let f = faces (pos n) m.0 inner in
      let same : int_le (b +ℤ pos n) (pos (c + 1)) ≡ nat_eq (m.0 + 1) n =
      elim (nat_eq (m.0 + 1) n) as (λ q. nat_eq (m.0 + 1) n ≡ q → int_le (b +ℤ pos n) (pos (c + 1)) ≡ q) [
        | true ↦ (λ q. let e : m.0 + 1 ≡ n = grind (arith, nat_tests) in sym (true_is_le (b +ℤ pos n) (pos (c + 1)) (omega (arith, e, sub, ap up m.1, ap down m.1, sum_is_lem b (pos n)))))
        | false ↦ (λ q. let e : m.0 + 1 < n = grind (arith, nat_tests) in sym (false_is_le (b +ℤ pos n) (pos (c + 1)) (omega (arith, e, sub, ap up m.1, ap down m.1, sum_is_lem b (pos n)))))
      ] refl in
      let further : nat_eq (m.0 + 1) n ≡ false → m.0 + 1 < n = (λ q. grind (arith, nat_tests)) in
      subst (λ (v : View). Faces v (sight_at i n stand w) fill inside) (sym (view_inside child by n fill small ts ls c end lt h))
      (subst (λ (y : ℤ). Faces (ended (int_le (b +ℤ pos n) (pos (c + 1))) false (view ts ls child (pos n) y)) (sight_at i n stand y) fill inside) (sym m.1)
      (subst (λ (s : known.Sight). Faces (ended (int_le (b +ℤ pos n) (pos (c + 1))) false (view ts ls child (pos n) (pos m.0))) s fill inside) (sym (inside_is i n stand m.0 inner))
      (record {
        gap = f.gap;
        varies = f.varies;
        ends = λ x. inner_ends (int_le (b +ℤ pos n) (pos (c + 1))) (nat_eq (m.0 + 1) n) (view ts ls child (pos n) (pos m.0)).ends (stand_sight walked n stand m.0).ends same (λ q. f.ends (further q))
            ∙ ap (λ y. (y && nat_eq (m.0 + 1) n) || (stand_sight walked n stand m.0).ends) (sym loose);
      }))))
      (λ (h : Behind child by n fill small ts ls c).
      subst (λ (v : View). Faces v (sight_at i n stand w) fill inside) (sym (view_behind child by n fill small ts ls c end lt h))
      (subst (λ (s : known.Sight). Faces (ended (int_le (pos (2 ^ 40)) (pos (c + 1))) false (plain false (gap fill))) s fill inside) (sym (behind_empty i n stand w (at_most_in (pos n) w (omega
      (arith, sub, h)))))
      (record { gap = refl; varies = refl; ends = λ x. or_false (int_le (pos (2 ^ 40)) (pos (c + 1))) ∙ sym (false_is_le (pos (2 ^ 40)) (pos (c + 1)) (omega (arith, next x))) })))
      r) (where_is child by n fill small ts ls c)
