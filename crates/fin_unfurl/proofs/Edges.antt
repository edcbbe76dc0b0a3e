-- A shifted looplet, with an edge and without one.
use Rattle.std.proofs.Common.{◌≡◌, ℕ, ◌+◌, ◌-◌, ◌<◌, ◌≤◌, ◌^◌, List, [], ◌∷◌, refl, sym, ap, ◌∙◌, subst, inl, inr, ◌⊎◌, ⊎_elim, Bool, true, false, T, Some, None, ℤ, pos, negsuc, neg_ℤ, ◌+ℤ◌, ◌-ℤ◌, ◌≤ℤ◌, ◌<ℤ◌, w64, arith}
use Rattle.std.specs.Prelude.{int_lt, int_le, ◌||◌, ◌&&◌, if◌then◌else◌, ◌↔◌, Option, IfSome}
use Rattle.std.specs.Int.{int_min, int_max}
use Rattle.std.proofs.lemmas.Bool.{cases_lt}
use Rattle.std.proofs.lemmas.Int.{int_wrap_fits, int_min_is, int_max_is}
use borrow.Author.Differences.{up, down, same_in, sum_is_lem, neg_is, lt_out, le_out, below_in, at_most_in, true_is_lt, false_is_lt, true_is_le, false_is_le, le-true, fits_in}
use Rattle.fin_base.specs.declared.terms.Op.TheVariants as op
use Rattle.fin_ir.specs.declared.expression.IExpr.{IExpr}
use Rattle.fin_ir.specs.declared.expression.IExpr.TheVariants.{Num, Two}
use Rattle.fin_ir.proofs.Values.{value_num}
use Rattle.fin_looplet.specs.declared.looplet.Looplet.{Looplet}
use Rattle.fin_looplet.specs.declared.looplet.Looplet.TheVariants.{Sequence, Shift}
use Rattle.fin_looplet.specs.View.{Store, value, view, View, Seen, gap, ended, plain, IsBreak, IsStop}
use Rattle.fin_looplet.specs.Sound.{Places, anywhere, SoundWithin, SoundIn}
use Rattle.fin_looplet.proofs.Bridges.{view_phase, view_shift, sound_phase, sound_shift}
use Rattle.fin_looplet.proofs.Frame.{sound_less}
use Rattle.fin_unfurl.specs.Shifts.{near, outside, boxed, edged, is_inside, MovesLeaves, MovesBreaks, MovesStops, KeepsSound, ShiftsLeaves, ShiftsBreaks, ShiftsStops, ShiftsSound, shift_of}
use Rattle.fin_unfurl.proofs.Small.{lt_yes, natural, sub_is}
use Rattle.fin_unfurl.proofs.Places.{two_is}

pub sub_of : (a b : ℤ) → up (a -ℤ b) + down a + up b ≡ down (a -ℤ b) + up a + down b
sub_of a b = omega (arith, sum_is_lem a (neg_ℤ b), neg_is b)

-- ---- without an edge

module _ (child : Looplet) (by : IExpr) where
  pub moves_leaves : MovesLeaves child by (Shift by child)
  moves_leaves ts ls end i = ap (λ (v : View). v.seen) (view_shift ts ls by child end i)

  module _ (ts : Store) (ls : List ℤ) where
    abbrev b : ℤ
    b = value ts ls by

    less : (x : ℤ) → (x -ℤ pos 1) -ℤ b ≡ (x -ℤ b) -ℤ pos 1
    less x = same_in ((x -ℤ pos 1) -ℤ b) ((x -ℤ b) -ℤ pos 1) (omega (arith, sub_of (x -ℤ pos 1) b, sub_of x (pos 1), sub_of (x -ℤ b) (pos 1), sub_of x b))

    at_moved : (hi x : ℤ) → view ts ls (Shift by child) hi (x -ℤ pos 1) ≡ view ts ls child (hi -ℤ b) ((x -ℤ b) -ℤ pos 1)
    at_moved hi x = view_shift ts ls by child hi (x -ℤ pos 1) ∙ ap (view ts ls child (hi -ℤ b)) (less x)

    lower : (x y : ℤ) → x <ℤ y → (x -ℤ b) <ℤ (y -ℤ b)
    lower x y h = below_in (x -ℤ b) (y -ℤ b) (omega (arith, sub_of x b, sub_of y b, lt_out x y h))

    raise : (x y : ℤ) → (x -ℤ b) <ℤ (y -ℤ b) → x <ℤ y
    raise x y h = below_in x y (omega (arith, sub_of x b, sub_of y b, lt_out (x -ℤ b) (y -ℤ b) h))

  pub moves_breaks : MovesBreaks child by (Shift by child)
  moves_breaks ts ls lo hi x = (
    λ h. record { after = lower ts ls lo x h.after; before = lower ts ls x hi h.before; ends = ap (λ (v : View). v.ends) (sym (at_moved ts ls hi x)) ∙ h.ends },
    λ h. record { after = raise ts ls lo x h.after; before = raise ts ls x hi h.before; ends = ap (λ (v : View). v.ends) (at_moved ts ls hi x) ∙ h.ends },
  )

  pub moves_stops : MovesStops child by (Shift by child)
  moves_stops ts ls lo hi x = (
    λ h. record { after = lower ts ls lo x h.after; before = lower ts ls x hi h.before; stops = ap (λ (v : View). v.stop) (sym (at_moved ts ls hi x)) ∙ h.stops },
    λ h. record { after = raise ts ls lo x h.after; before = raise ts ls x hi h.before; stops = ap (λ (v : View). v.stop) (at_moved ts ls hi x) ∙ h.stops },
  )

  pub keeps_sound : KeepsSound child by (Shift by child)
  keeps_sound ts ls lo hi h i low high =
      let b = value ts ls by in
      sound_shift anywhere ts ls by child (λ j. j <ℤ (hi +ℤ b)) i (
        tt,
        sound_less anywhere anywhere (λ j r. r) ts ls child (λ j. j <ℤ hi) (λ j. (j +ℤ b) <ℤ (hi +ℤ b)) (i -ℤ b)
            (λ j q. below_in j hi (omega (arith, lt_out (j +ℤ b) (hi +ℤ b) q, sum_is_lem j b, sum_is_lem hi b)))
            (h (i -ℤ b) (at_most_in lo (i -ℤ b) (omega (arith, sub_of i b, sum_is_lem lo b, le_out (lo +ℤ b) i low)))
            (below_in (i -ℤ b) hi (omega (arith, sub_of i b, sum_is_lem hi b, lt_out i (hi +ℤ b) high)))),
      )

-- ---- with an edge

module _ (child : Looplet) (by : IExpr) (n : ℕ) (fill : ℤ) (small : n ≤ 2 ^ 40) (ts : Store) (ls : List ℤ) where
  abbrev pub z : ℤ
  z = value ts ls by

  abbrev c : ℤ
  c = int_max (int_min z (pos (2 ^ 40))) (negsuc (2 ^ 41))

  stop_is : value ts ls (Two op.Add (near by) (Num (pos n))) ≡ c +ℤ pos n
  stop_is =
      two_is ts ls op.Add (near by) (Num (pos n)) c (pos n)
      (two_is ts ls op.Max (Two op.Min by (Num (pos (2 ^ 40)))) (Num (negsuc (2 ^ 41))) (int_min z (pos (2 ^ 40))) (negsuc (2 ^ 41))
      (two_is ts ls op.Min by (Num (pos (2 ^ 40))) z (pos (2 ^ 40)) refl (value_num ts ls (pos (2 ^ 40)))) (value_num ts ls (negsuc (2 ^ 41))))
      (value_num ts ls (pos n))
      ∙ int_wrap_fits w64 (c +ℤ pos n) (fits_in w64 (c +ℤ pos n) (omega (arith, sum_is_lem c (pos n), int_max_is (int_min z (pos (2 ^ 40))) (negsuc (2 ^ 41)), int_min_is z (pos (2 ^ 40)), small)))

  abbrev pub filled : View
  filled = plain false (gap fill)

  abbrev chosen : ℕ → Bool → Bool → View
  chosen i x y =
      if x then ended (int_le z (pos (i + 1))) false filled
      else (if y then ended (int_le (c +ℤ pos n) (pos (i + 1))) false (view ts ls child ((c +ℤ pos n) -ℤ z) (pos i -ℤ z)) else ended (int_le (pos (2 ^ 40)) (pos (i + 1))) false filled)

  edged_view : (i : ℕ) (end : ℤ) → i < 2 ^ 40 → view ts ls (edged child by n fill) end (pos i) ≡ chosen i (int_lt (pos i) z) (int_lt (pos i) (c +ℤ pos n))
  edged_view i end lt =
      let first = outside fill by in
      let second = boxed child by n in
      let third = outside fill (Num (pos (2 ^ 40))) in
      view_phase ts ls first (second ∷ third ∷ []) end (pos i)
      ∙ ap (λ (v : View). if int_lt (pos i) z then ended (int_le z (pos (i + 1))) false filled else v)
      (view_phase ts ls second (third ∷ []) end (pos i)
      ∙ ap (λ (x : ℤ). if int_lt (pos i) x then ended (int_le x (pos (i + 1))) false (view ts ls (Shift by child) x (pos i)) else view ts ls (Sequence (third ∷ [])) end (pos i)) stop_is
      ∙ ap (λ (v : View). if int_lt (pos i) (c +ℤ pos n) then ended (int_le (c +ℤ pos n) (pos (i + 1))) false v else view ts ls (Sequence (third ∷ [])) end (pos i))
      (view_shift ts ls by child (c +ℤ pos n) (pos i))
      ∙ ap (λ (v : View). if int_lt (pos i) (c +ℤ pos n) then ended (int_le (c +ℤ pos n) (pos (i + 1))) false (view ts ls child ((c +ℤ pos n) -ℤ z) (pos i -ℤ z)) else v)
      (view_phase ts ls third [] end (pos i)
      ∙ ap (λ (x : ℤ). if int_lt (pos i) x then ended (int_le x (pos (i + 1))) false filled else view ts ls (Sequence []) end (pos i)) (value_num ts ls (pos (2 ^ 40)))
      ∙ ap (λ x. if x then ended (int_le (pos (2 ^ 40)) (pos (i + 1))) false filled else view ts ls (Sequence []) end (pos i)) (lt_yes i (2 ^ 40) lt)))

  -- where a coordinate lies
  abbrev pub Before : ℕ → Type 0
  Before i = i + down z < up z

  abbrev pub Inside : ℕ → Type 0
  Inside i = (up z ≤ i + down z) × (i + down z < up z + n)

  abbrev pub Behind : ℕ → Type 0
  Behind i = up z + n ≤ i + down z

  pub where_is : (i : ℕ) → Before i ⊎ (Inside i ⊎ Behind i)
  where_is i =
      ⊎_elim (λ (h : i + down z < up z). inl h)
      (λ (h : up z ≤ i + down z). ⊎_elim (λ (k : i + down z < up z + n). inr (inl (h, k))) (λ (k : up z + n ≤ i + down z). inr (inr k)) (cases_lt (i + down z) (up z + n)))
      (cases_lt (i + down z) (up z))

  pub view_before : (i : ℕ) (end : ℤ) → i < 2 ^ 40 → Before i → view ts ls (edged child by n fill) end (pos i) ≡ ended (int_le z (pos (i + 1))) false filled
  view_before i end lt h = edged_view i end lt ∙ ap (λ x. chosen i x (int_lt (pos i) (c +ℤ pos n))) (sym (true_is_lt (pos i) z (omega (arith, h))))

  -- inside, where the box begins is told whole
  c_is : (i : ℕ) → i < 2 ^ 40 → Inside i → c ≡ z
  c_is i lt h = same_in c z (omega (arith, h, small, int_max_is (int_min z (pos (2 ^ 40))) (negsuc (2 ^ 41)), int_min_is z (pos (2 ^ 40))))

  pub view_inside : (i : ℕ) (end : ℤ) → i < 2 ^ 40 → Inside i → view ts ls (edged child by n fill) end (pos i) ≡ ended (int_le (z +ℤ pos n) (pos (i + 1))) false (view ts ls child (pos n) (pos i -ℤ z))
  view_inside i end lt h =
      let same = c_is i lt h in
      let whole : (z +ℤ pos n) -ℤ z ≡ pos n = same_in ((z +ℤ pos n) -ℤ z) (pos n) (omega (arith, sub_of (z +ℤ pos n) z, sum_is_lem z (pos n))) in
      edged_view i end lt
      ∙ ap (λ x. chosen i x (int_lt (pos i) (c +ℤ pos n))) (sym (false_is_lt (pos i) z (omega (arith, h))))
      ∙ ap (λ (y : ℤ). if int_lt (pos i) (y +ℤ pos n) then ended (int_le (y +ℤ pos n) (pos (i + 1))) false (view ts ls child ((y +ℤ pos n) -ℤ z) (pos i -ℤ z)) else ended
      (int_le (pos (2 ^ 40)) (pos (i + 1))) false filled) same
      ∙ ap (λ x. if x then ended (int_le (z +ℤ pos n) (pos (i + 1))) false (view ts ls child ((z +ℤ pos n) -ℤ z) (pos i -ℤ z)) else ended (int_le (pos (2 ^ 40)) (pos (i + 1))) false filled)
      (sym (true_is_lt (pos i) (z +ℤ pos n) (omega (arith, h, sum_is_lem z (pos n)))))
      ∙ ap (λ (y : ℤ). ended (int_le (z +ℤ pos n) (pos (i + 1))) false (view ts ls child y (pos i -ℤ z))) whole

  pub view_behind : (i : ℕ) (end : ℤ) → i < 2 ^ 40 → Behind i → view ts ls (edged child by n fill) end (pos i) ≡ ended (int_le (pos (2 ^ 40)) (pos (i + 1))) false filled
  view_behind i end lt h =
      edged_view i end lt
      ∙ ap (λ x. chosen i x (int_lt (pos i) (c +ℤ pos n))) (sym (false_is_lt (pos i) z (omega (arith, h))))
      ∙ ap (chosen i false)
      (sym (false_is_lt (pos i) (c +ℤ pos n) (omega (arith, h, small, sum_is_lem c (pos n), int_max_is (int_min z (pos (2 ^ 40))) (negsuc (2 ^ 41)), int_min_is z (pos (2 ^ 40))))))

  pub edges_leaves : (end : ℤ) (i : ℕ) → i < 2 ^ 40
      → (view ts ls (edged child by n fill) end (pos i)).seen ≡ (if is_inside z n (pos i) then (view ts ls child (pos n) (pos i -ℤ z)).seen else record { sight = gap fill; varies = false })
  edges_leaves end i lt =
      let inner = (view ts ls child (pos n) (pos i -ℤ z)).seen in
      let choose : Bool → Bool → Seen = λ x y. if x && y then inner else record { sight = gap fill; varies = false } in
      ⊎_elim
      (λ (h : Before i). ap (λ (v : View). v.seen) (view_before i end lt h) ∙ ap (λ x. choose x (int_lt (pos i) (z +ℤ pos n))) (false_is_le z (pos i) (omega (arith, h))))
      (λ r. ⊎_elim
      (λ (h : Inside i). ap (λ (v : View). v.seen) (view_inside i end lt h) ∙ ap (choose true) (true_is_lt (pos i) (z +ℤ pos n) (omega (arith, h, sum_is_lem z (pos n))))
      ∙ ap (λ x. choose x (int_lt (pos i) (z +ℤ pos n))) (true_is_le z (pos i) (omega (arith, h))))
      (λ (h : Behind i). ap (λ (v : View). v.seen) (view_behind i end lt h) ∙ ap (choose true) (false_is_lt (pos i) (z +ℤ pos n) (omega (arith, h, sum_is_lem z (pos n))))
      ∙ ap (λ x. choose x (int_lt (pos i) (z +ℤ pos n))) (true_is_le z (pos i) (omega (arith, h))))
      r) (where_is i)

  -- ---- at the coordinate before a number

  or_not : (x : Bool) → (x || false) ≡ true → x ≡ true
  or_not true e = refl
  or_not false e = e

  abbrev BreakIn : ℤ → Type 0
  BreakIn x = (x ≡ z) ⊎ ((x ≡ z +ℤ pos n) ⊎ IsBreak ts ls child (pos 0) (pos n) (x -ℤ z))

  minus_one : (m : ℕ) → (pos (m + 1) -ℤ z) -ℤ pos 1 ≡ pos m -ℤ z
  minus_one m = same_in ((pos (m + 1) -ℤ z) -ℤ pos 1) (pos m -ℤ z) (omega (arith, sub_of (pos (m + 1) -ℤ z) (pos 1), sub_of (pos (m + 1)) z, sub_of (pos m) z))

  break_out : (m : ℕ) (end : ℤ) → m + 1 < 2 ^ 40 → (view ts ls (edged child by n fill) end (pos m)).ends ≡ true → BreakIn (pos (m + 1))
  break_out m end lt e =
      let sum = sum_is_lem z (pos n) in
      ⊎_elim
      (λ (h : Before m).
      let on = or_not (int_le z (pos (m + 1))) (ap (λ (v : View). v.ends) (sym (view_before m end (omega arith) h)) ∙ e) in
      inl (same_in (pos (m + 1)) z (omega (arith, h, le-true z (pos (m + 1)) on))))
      (λ r. ⊎_elim
      (λ (h : Inside m).
      let inner = view ts ls child (pos n) (pos m -ℤ z) in
      let on = ap (λ (v : View). v.ends) (sym (view_inside m end (omega arith) h)) ∙ e in
      inr (⊎_elim
      (λ (further : m + 1 + down z < up z + n).
      let closed : int_le (z +ℤ pos n) (pos (m + 1)) ≡ false = sym (false_is_le (z +ℤ pos n) (pos (m + 1)) (omega (arith, further, sum))) in
      inr (record {
        after = below_in (pos 0) (pos (m + 1) -ℤ z) (omega (arith, h, sub_of (pos (m + 1)) z));
        before = below_in (pos (m + 1) -ℤ z) (pos n) (omega (arith, further, sub_of (pos (m + 1)) z));
        ends = ap (λ (y : ℤ). (view ts ls child (pos n) y).ends) (minus_one m) ∙ ap (λ x. x || inner.ends) (sym closed) ∙ on;
      }))
      (λ (stops : up z + n ≤ m + 1 + down z). inl (same_in (pos (m + 1)) (z +ℤ pos n) (omega (arith, h, stops, sum))))
      (cases_lt (m + 1 + down z) (up z + n))))
      (λ (h : Behind m).
      let on = or_not (int_le (pos (2 ^ 40)) (pos (m + 1))) (ap (λ (v : View). v.ends) (sym (view_behind m end (omega arith) h)) ∙ e) in
      absurd (omega (arith, lt, le-true (pos (2 ^ 40)) (pos (m + 1)) on)))
      r) (where_is m)

  break_in : (m : ℕ) (end : ℤ) → m + 1 < 2 ^ 40 → BreakIn (pos (m + 1)) → (view ts ls (edged child by n fill) end (pos m)).ends ≡ true
  break_in m end lt r =
      let sum = sum_is_lem z (pos n) in
      let sub = sub_of (pos (m + 1)) z in
      -- the number lies from one end of the box to the other
      let within : (up z ≤ m + 1 + down z) × (m + 1 + down z ≤ up z + n) =
      ⊎_elim
      (λ (e : pos (m + 1) ≡ z). (omega (arith, ap up e, ap down e), omega (arith, ap up e, ap down e)))
      (λ q. ⊎_elim
      (λ (e : pos (m + 1) ≡ z +ℤ pos n). (omega (arith, ap up e, ap down e, sum), omega (arith, ap up e, ap down e, sum)))
      (λ (e : IsBreak ts ls child (pos 0) (pos n) (pos (m + 1) -ℤ z)).
      (omega (arith, lt_out (pos 0) (pos (m + 1) -ℤ z) e.after, sub), omega (arith, lt_out (pos (m + 1) -ℤ z) (pos n) e.before, sub)))
      q) r in
      ⊎_elim
      (λ (h : Before m). ap (λ (v : View). v.ends) (view_before m end (omega arith) h) ∙ ap (λ x. x || false) (sym (true_is_le z (pos (m + 1)) (omega (arith, within)))))
      (λ q. ⊎_elim
      (λ (h : Inside m).
      let inner = view ts ls child (pos n) (pos m -ℤ z) in
      ap (λ (v : View). v.ends) (view_inside m end (omega arith) h)
      ∙ ⊎_elim
      (λ (further : m + 1 + down z < up z + n).
      let closed : int_le (z +ℤ pos n) (pos (m + 1)) ≡ false = sym (false_is_le (z +ℤ pos n) (pos (m + 1)) (omega (arith, further, sum))) in
      ap (λ x. x || inner.ends) closed
      ∙ ⊎_elim
      (λ (e : pos (m + 1) ≡ z). absurd (omega (arith, h, ap up e, ap down e)))
      (λ y. ⊎_elim
      (λ (e : pos (m + 1) ≡ z +ℤ pos n). absurd (omega (arith, further, ap up e, ap down e, sum)))
      (λ (e : IsBreak ts ls child (pos 0) (pos n) (pos (m + 1) -ℤ z)). ap (λ (w : ℤ). (view ts ls child (pos n) w).ends) (sym (minus_one m)) ∙ e.ends)
      y) r)
      (λ (closes : up z + n ≤ m + 1 + down z). ap (λ x. x || inner.ends) (sym (true_is_le (z +ℤ pos n) (pos (m + 1)) (omega (arith, closes, sum)))))
      (cases_lt (m + 1 + down z) (up z + n)))
      (λ (h : Behind m). absurd (omega (arith, h, within)))
      q) (where_is m)

  pub edges_break : (lo hi : ℕ) → hi ≤ 2 ^ 40 → (x : ℕ) → IsBreak ts ls (edged child by n fill) (pos lo) (pos hi) (pos x) ↔ ((lo < x) × (x < hi) × BreakIn (pos x))
  edges_break lo hi le x = (
    λ h.
        let after : lo < x = omega (arith, lt_out (pos lo) (pos x) h.after) in
        let before : x < hi = omega (arith, lt_out (pos x) (pos hi) h.before) in
        let e : x - 1 + 1 ≡ x = omega arith in
        let is = ap (λ (y : ℤ). (view ts ls (edged child by n fill) (pos hi) y).ends) (sub_is x 1 (omega arith)) in
        (after, before, subst (λ (y : ℕ). BreakIn (pos y)) e (break_out (x - 1) (pos hi) (omega arith) (sym is ∙ h.ends))),
    λ h.
        let after : lo < x = h.0 in
        let before : x < hi = h.1 in
        let e : x ≡ x - 1 + 1 = omega arith in
        let is = ap (λ (y : ℤ). (view ts ls (edged child by n fill) (pos hi) y).ends) (sub_is x 1 (omega arith)) in
        record {
          after = below_in (pos lo) (pos x) (omega arith);
          before = below_in (pos x) (pos hi) (omega arith);
          ends = is ∙ break_in (x - 1) (pos hi) (omega arith) (subst (λ (y : ℕ). BreakIn (pos y)) e h.2);
        },
  )

  -- ---- stops

  no_walker : (x s : Bool) → ((x && false) || s) ≡ s
  no_walker true s = refl
  no_walker false s = refl

  abbrev StopIn : ℤ → Type 0
  StopIn x = (z <ℤ x) × (x ≤ℤ (z +ℤ pos n)) × ((view ts ls child (pos n) ((x -ℤ z) -ℤ pos 1)).stop ≡ true)

  stop_out : (m : ℕ) (end : ℤ) → m < 2 ^ 40 → (view ts ls (edged child by n fill) end (pos m)).stop ≡ true → StopIn (pos (m + 1))
  stop_out m end lt e =
      let sum = sum_is_lem z (pos n) in
      ⊎_elim
      (λ (h : Before m). absurd (subst T (sym (sym (no_walker (int_le z (pos (m + 1))) false) ∙ ap (λ (v : View). v.stop) (sym (view_before m end lt h)) ∙ e)) tt))
      (λ r. ⊎_elim
      (λ (h : Inside m). (
        below_in z (pos (m + 1)) (omega (arith, h)),
        at_most_in (pos (m + 1)) (z +ℤ pos n) (omega (arith, h, sum)),
        ap (λ (w : ℤ). (view ts ls child (pos n) w).stop) (minus_one m) ∙ sym (no_walker (int_le (z +ℤ pos n) (pos (m + 1))) (view ts ls child (pos n) (pos m -ℤ z)).stop)
            ∙ ap (λ (v : View). v.stop) (sym (view_inside m end lt h)) ∙ e,
      ))
      (λ (h : Behind m). absurd (subst T (sym (sym (no_walker (int_le (pos (2 ^ 40)) (pos (m + 1))) false) ∙ ap (λ (v : View). v.stop) (sym (view_behind m end lt h)) ∙ e)) tt))
      r) (where_is m)

  stop_in : (m : ℕ) (end : ℤ) → m < 2 ^ 40 → StopIn (pos (m + 1)) → (view ts ls (edged child by n fill) end (pos m)).stop ≡ true
  stop_in m end lt s =
      let sum = sum_is_lem z (pos n) in
      let h : Inside m = (omega (arith, lt_out z (pos (m + 1)) s.0), omega (arith, le_out (pos (m + 1)) (z +ℤ pos n) s.1, sum)) in
      ap (λ (v : View). v.stop) (view_inside m end lt h) ∙ no_walker (int_le (z +ℤ pos n) (pos (m + 1))) (view ts ls child (pos n) (pos m -ℤ z)).stop
      ∙ ap (λ (w : ℤ). (view ts ls child (pos n) w).stop) (sym (minus_one m)) ∙ s.2

  pub edges_stop : (lo hi : ℕ) → hi ≤ 2 ^ 40 → (x : ℕ) → IsStop ts ls (edged child by n fill) (pos lo) (pos hi) (pos x)
      ↔ ((lo < x) × (x < hi) × (z <ℤ pos x) × (pos x ≤ℤ (z +ℤ pos n)) × ((view ts ls child (pos n) (pos x -ℤ z -ℤ pos 1)).stop ≡ true))
  edges_stop lo hi le x = (
    λ h.
        let after : lo < x = omega (arith, lt_out (pos lo) (pos x) h.after) in
        let before : x < hi = omega (arith, lt_out (pos x) (pos hi) h.before) in
        let e : x - 1 + 1 ≡ x = omega arith in
        let is = ap (λ (y : ℤ). (view ts ls (edged child by n fill) (pos hi) y).stop) (sub_is x 1 (omega arith)) in
        let s = subst (λ (y : ℕ). StopIn (pos y)) e (stop_out (x - 1) (pos hi) (omega arith) (sym is ∙ h.stops)) in
        (after, before, s.0, s.1, s.2),
    λ h.
        let after : lo < x = h.0 in
        let before : x < hi = h.1 in
        let e : x ≡ x - 1 + 1 = omega arith in
        let is = ap (λ (y : ℤ). (view ts ls (edged child by n fill) (pos hi) y).stop) (sub_is x 1 (omega arith)) in
        record {
          after = below_in (pos lo) (pos x) (omega arith);
          before = below_in (pos x) (pos hi) (omega arith);
          stops = is ∙ stop_in (x - 1) (pos hi) (omega arith) (subst (λ (y : ℕ). StopIn (pos y)) e (h.2, h.3, h.4));
        },
  )

  -- ---- soundness

  -- where the child is sound inside, and the shift moves there to numbers in reach
  abbrev pub InsideSound : Places → Places → ℕ → Type 0
  InsideSound reach served m = Inside m → reach (pos m -ℤ z) × SoundWithin reach ts ls child (λ j. served (j +ℤ z) × ((j +ℤ z) <ℤ value ts ls (Two op.Add (near by) (Num (pos n))))) (pos m -ℤ z)

  pub edged_sound_at : (reach served : Places) (m : ℕ) → m < 2 ^ 40 → InsideSound reach served m → SoundWithin reach ts ls (edged child by n fill) served (pos m)
  edged_sound_at reach served m lt h =
      let first = outside fill by in
      let second = boxed child by n in
      let third = outside fill (Num (pos (2 ^ 40))) in
      let sum = sum_is_lem z (pos n) in
      let stop = value ts ls (Two op.Add (near by) (Num (pos n))) in
      let last : SoundWithin reach ts ls (Sequence (third ∷ [])) served (pos m) = sound_phase reach ts ls third [] served (pos m)
      (inl (ap (int_lt (pos m)) (value_num ts ls (pos (2 ^ 40))) ∙ lt_yes m (2 ^ 40) lt, tt)) in
      ⊎_elim
      (λ (w : Before m). sound_phase reach ts ls first (second ∷ third ∷ []) served (pos m) (inl (sym (true_is_lt (pos m) z (omega (arith, w))), tt)))
      (λ r. ⊎_elim
      (λ (w : Inside m).
      let to : stop ≡ z +ℤ pos n = stop_is ∙ ap (λ (y : ℤ). y +ℤ pos n) (c_is m lt w) in
      sound_phase reach ts ls first (second ∷ third ∷ []) served (pos m) (inr (
        sym (false_is_lt (pos m) z (omega (arith, w))),
        sound_phase reach ts ls second (third ∷ []) served (pos m) (inl (
          ap (int_lt (pos m)) to ∙ sym (true_is_lt (pos m) (z +ℤ pos n) (omega (arith, w, sum))),
          sound_shift reach ts ls by child (λ j. served j × (j <ℤ stop)) (pos m) (h w),
        )),
      )))
      (λ (w : Behind m).
      sound_phase reach ts ls first (second ∷ third ∷ []) served (pos m) (inr (
        sym (false_is_lt (pos m) z (omega (arith, w))),
        sound_phase reach ts ls second (third ∷ []) served (pos m) (inr (
          ap (int_lt (pos m)) stop_is
              ∙ sym (false_is_lt (pos m) (c +ℤ pos n) (omega (arith, w, small, sum_is_lem c (pos n), int_max_is (int_min z (pos (2 ^ 40))) (negsuc (2 ^ 41)), int_min_is z (pos (2 ^ 40))))),
          last,
        )),
      )))
      r) (where_is m)

  anywhere_inside : SoundIn ts ls child (pos 0) (pos n) → (served : Places) (m : ℕ) → m < 2 ^ 40 → InsideSound anywhere served m
  anywhere_inside h served m lt w =
      let sum = sum_is_lem z (pos n) in
      let stop = value ts ls (Two op.Add (near by) (Num (pos n))) in
      let to : stop ≡ z +ℤ pos n = stop_is ∙ ap (λ (y : ℤ). y +ℤ pos n) (c_is m lt w) in (
        tt,
        sound_less anywhere anywhere (λ j x. x) ts ls child (λ j. j <ℤ pos n) (λ j. served (j +ℤ z) × ((j +ℤ z) <ℤ stop)) (pos m -ℤ z)
            (λ j q. below_in j (pos n) (omega (arith, lt_out (j +ℤ z) (z +ℤ pos n) (subst (λ (y : ℤ). (j +ℤ z) <ℤ y) to q.1), sum_is_lem j z, sum)))
            (h (pos m -ℤ z) (at_most_in (pos 0) (pos m -ℤ z) (omega (arith, w, sub_of (pos m) z))) (below_in (pos m -ℤ z) (pos n) (omega (arith, w, sub_of (pos m) z)))),
      )

  pub edges_sound : SoundIn ts ls child (pos 0) (pos n) → (lo hi : ℕ) → hi ≤ 2 ^ 40 → SoundIn ts ls (edged child by n fill) (pos lo) (pos hi)
  edges_sound h lo hi le i low high =
      let m = natural i (at_most_in (pos 0) i (omega (arith, le_out (pos lo) i low))) in
      subst (SoundWithin anywhere ts ls (edged child by n fill) (λ j. j <ℤ pos hi)) (sym m.1)
      (let lt : m.0 < 2 ^ 40 = omega (arith, le, lt_out i (pos hi) high, ap up m.1, ap down m.1) in edged_sound_at anywhere (λ j. j <ℤ pos hi) m.0 lt (anywhere_inside h (λ j. j <ℤ pos hi) m.0 lt))

-- ---- with an edge or without one

module _ (child : Looplet) (by : IExpr) where
  pub shift_leaves : (edge : Option (ℕ × ℤ)) → IfSome edge (λ e. e.0 ≤ 2 ^ 40) → ShiftsLeaves child by edge (shift_of child by edge)
  shift_leaves None h = moves_leaves child by
  shift_leaves (Some e) h = λ ts ls. edges_leaves child by e.0 e.1 h ts ls

  pub shift_breaks : (edge : Option (ℕ × ℤ)) → IfSome edge (λ e. e.0 ≤ 2 ^ 40) → ShiftsBreaks child by edge (shift_of child by edge)
  shift_breaks None h = moves_breaks child by
  shift_breaks (Some e) h = λ ts ls. edges_break child by e.0 e.1 h ts ls

  pub shift_stops : (edge : Option (ℕ × ℤ)) → IfSome edge (λ e. e.0 ≤ 2 ^ 40) → ShiftsStops child by edge (shift_of child by edge)
  shift_stops None h = moves_stops child by
  shift_stops (Some e) h = λ ts ls. edges_stop child by e.0 e.1 h ts ls

  pub shift_sound : (edge : Option (ℕ × ℤ)) → IfSome edge (λ e. e.0 ≤ 2 ^ 40) → ShiftsSound child by edge (shift_of child by edge)
  shift_sound None h = keeps_sound child by
  shift_sound (Some e) h = λ ts ls. edges_sound child by e.0 e.1 h ts ls
