-- The looplet of a comparison shows it.
use Rattle.std.proofs.Common.{◌≡◌, ℕ, ◌+◌, ◌-◌, ◌<◌, ◌≤◌, ◌^◌, List, [], ◌∷◌, refl, sym, ap, ◌∙◌, subst, inl, inr, ◌⊎◌, ⊎_elim, Bool, true, false, T, IsTrue, ℤ, pos, negsuc, ◌+ℤ◌, ◌<ℤ◌, w64, arith}
use Rattle.std.specs.Prelude.{int_lt, int_le, not, ◌||◌, if◌then◌else◌}
use Rattle.std.specs.Ordering.{int_eq}
use Rattle.std.specs.Int.{int_min, int_max}
use Rattle.std.proofs.lemmas.Bool.{cases_lt}
use Rattle.std.proofs.lemmas.Int.{int_wrap_fits, int_min_is, int_max_is}
use borrow.Author.Differences.{up, down, same_in, sum_is_lem, lt_out, below_in, true_is_lt, false_is_lt, true_is_le, false_is_le, le-true, fits_in}
use Rattle.fin_base.specs.declared.terms.Op.{Op}
use Rattle.fin_base.specs.declared.terms.Op.TheVariants as op
use Rattle.fin_base.specs.Words.{operate, truth}
use Rattle.fin_ir.specs.declared.expression.IExpr.{IExpr}
use Rattle.fin_ir.specs.declared.expression.IExpr.TheVariants.{Num, Two}
use Rattle.fin_ir.proofs.Values.{value_num}
use Rattle.fin_looplet.specs.declared.looplet.Looplet.TheVariants.{Sequence}
use Rattle.fin_looplet.specs.View.{Store, value, view, View, word, ended, plain}
use Rattle.fin_looplet.specs.Sound.{Places, anywhere, SoundWithin}
use Rattle.fin_looplet.proofs.Bridges.{view_phase, sound_phase}
use Rattle.fin_unfurl.specs.Parts.{next}
use Rattle.fin_unfurl.specs.Masks.{is_comparison, holds_before, holds_at, holds_behind, bounded, known, mask_of, Compares, BreaksAtBound, IsSoundMask, NeverStops}
use Rattle.fin_unfurl.proofs.Small.{lt_yes, sub_is}
use Rattle.fin_unfurl.proofs.Places.{two_is}

-- ---- a comparison by where the coordinate lies

eq_is : (z : ℤ) → int_eq z z ≡ true
eq_is z = grind (arith)

eq_not : (a b : ℤ) → (a ≡ b → ⊥) → int_eq a b ≡ false
eq_not a b h = grind (arith)

before_is : (o : Op) (i z : ℤ) → IsTrue (is_comparison o) → up i + down z < up z + down i → operate o i z ≡ truth (holds_before o)
before_is op.Lt i z c h = ap truth (sym (true_is_lt i z h))
before_is op.Le i z c h = ap truth (sym (true_is_le i z (omega arith)))
before_is op.Gt i z c h = ap truth (sym (false_is_lt z i (omega arith)))
before_is op.Ge i z c h = ap truth (sym (false_is_le z i h))
before_is op.Eq i z c h = ap truth (eq_not i z (λ e. omega (arith, ap up e, ap down e, h)))
before_is op.Ne i z c h = ap (λ b. truth (not b)) (eq_not i z (λ e. omega (arith, ap up e, ap down e, h)))
before_is o i z c h = absurd (subst T (sym c) tt)

at_is : (o : Op) (z : ℤ) → IsTrue (is_comparison o) → operate o z z ≡ truth (holds_at o)
at_is op.Lt z c = ap truth (sym (false_is_lt z z (omega arith)))
at_is op.Le z c = ap truth (sym (true_is_le z z (omega arith)))
at_is op.Gt z c = ap truth (sym (false_is_lt z z (omega arith)))
at_is op.Ge z c = ap truth (sym (true_is_le z z (omega arith)))
at_is op.Eq z c = ap truth (eq_is z)
at_is op.Ne z c = ap (λ b. truth (not b)) (eq_is z)
at_is o z c = absurd (subst T (sym c) tt)

behind_is : (o : Op) (i z : ℤ) → IsTrue (is_comparison o) → up z + down i < up i + down z → operate o i z ≡ truth (holds_behind o)
behind_is op.Lt i z c h = ap truth (sym (false_is_lt i z (omega arith)))
behind_is op.Le i z c h = ap truth (sym (false_is_le i z h))
behind_is op.Gt i z c h = ap truth (sym (true_is_lt z i h))
behind_is op.Ge i z c h = ap truth (sym (true_is_le z i (omega arith)))
behind_is op.Eq i z c h = ap truth (eq_not i z (λ e. omega (arith, ap up e, ap down e, h)))
behind_is op.Ne i z c h = ap (λ b. truth (not b)) (eq_not i z (λ e. omega (arith, ap up e, ap down e, h)))
behind_is o i z c h = absurd (subst T (sym c) tt)

-- ---- the looplet at a coordinate

-- what is seen at i, and whether a part ends there, for a bound z
record Shows (v : View) (o : Op) (i : ℕ) (z : ℤ) : Type 0 where
  seen : v.seen ≡ record { sight = word (operate o (pos i) z); varies = false }
  stop : v.stop ≡ false
  ends_in : i + 1 < 2 ^ 40 → v.ends ≡ true → (pos (i + 1) ≡ z) ⊎ (pos (i + 1) ≡ z +ℤ pos 1)
  ends_out : i + 1 < 2 ^ 40 → (pos (i + 1) ≡ z) ⊎ (pos (i + 1) ≡ z +ℤ pos 1) → v.ends ≡ true

module _ (o : Op) (b : IExpr) (compares : IsTrue (is_comparison o)) (ts : Store) (ls : List ℤ) where
  abbrev z : ℤ
  z = value ts ls b

  -- the bound as a stop has it
  abbrev c : ℤ
  c = int_max (int_min z (pos (2 ^ 40))) (negsuc 0)

  bounded_is : value ts ls (bounded b) ≡ c
  bounded_is = two_is ts ls op.Max (Two op.Min b (Num (pos (2 ^ 40)))) (Num (negsuc 0)) (int_min z (pos (2 ^ 40))) (negsuc 0)
      (two_is ts ls op.Min b (Num (pos (2 ^ 40))) z (pos (2 ^ 40)) refl (value_num ts ls (pos (2 ^ 40)))) (value_num ts ls (negsuc 0))

  next_is : value ts ls (next (bounded b)) ≡ c +ℤ pos 1
  next_is =
      two_is ts ls op.Add (bounded b) (Num (pos 1)) c (pos 1) bounded_is (value_num ts ls (pos 1))
      ∙ int_wrap_fits w64 (c +ℤ pos 1) (fits_in w64 (c +ℤ pos 1) (omega (arith, sum_is_lem c (pos 1), int_max_is (int_min z (pos (2 ^ 40))) (negsuc 0), int_min_is z (pos (2 ^ 40)))))

  abbrev run : Bool → View
  run holds = plain false (word (value ts ls (Num (truth holds))))

  run_seen : (holds : Bool) (i : ℕ) → operate o (pos i) z ≡ truth holds → (run holds).seen ≡ record { sight = word (operate o (pos i) z); varies = false }
  run_seen holds i e = ap (λ (x : ℤ). record { sight = word x; varies = false }) (value_num ts ls (truth holds) ∙ sym e)

  -- which run serves the coordinate
  mask_view : (i : ℕ) (end : ℤ) → i < 2 ^ 40 → view ts ls (mask_of o b) end (pos i)
      ≡ (if int_lt (pos i) c then ended (int_le c (pos (i + 1))) false (run (holds_before o))
      else (if int_lt (pos i) (c +ℤ pos 1) then ended (int_le (c +ℤ pos 1) (pos (i + 1))) false (run (holds_at o))
      else ended (int_le (pos (2 ^ 40)) (pos (i + 1))) false (run (holds_behind o))))
  mask_view i end lt =
      let first = known (holds_before o) (bounded b) in
      let second = known (holds_at o) (next (bounded b)) in
      let third = known (holds_behind o) (Num (pos (2 ^ 40))) in
      view_phase ts ls first (second ∷ third ∷ []) end (pos i)
      ∙ ap (λ (x : ℤ). if int_lt (pos i) x then ended (int_le x (pos (i + 1))) false (run (holds_before o)) else view ts ls (Sequence (second ∷ third ∷ [])) end (pos i)) bounded_is
      ∙ ap (λ (v : View). if int_lt (pos i) c then ended (int_le c (pos (i + 1))) false (run (holds_before o)) else v)
      (view_phase ts ls second (third ∷ []) end (pos i)
      ∙ ap (λ (x : ℤ). if int_lt (pos i) x then ended (int_le x (pos (i + 1))) false (run (holds_at o)) else view ts ls (Sequence (third ∷ [])) end (pos i)) next_is
      ∙ ap (λ (v : View). if int_lt (pos i) (c +ℤ pos 1) then ended (int_le (c +ℤ pos 1) (pos (i + 1))) false (run (holds_at o)) else v)
      (view_phase ts ls third [] end (pos i)
      ∙ ap (λ (x : ℤ). if int_lt (pos i) x then ended (int_le x (pos (i + 1))) false (run (holds_behind o)) else view ts ls (Sequence []) end (pos i)) (value_num ts ls (pos (2 ^ 40)))
      ∙ ap (λ x. if x then ended (int_le (pos (2 ^ 40)) (pos (i + 1))) false (run (holds_behind o)) else view ts ls (Sequence []) end (pos i)) (lt_yes i (2 ^ 40) lt)))

  abbrev chosen : ℕ → Bool → Bool → View
  chosen i x y =
      if x then ended (int_le c (pos (i + 1))) false (run (holds_before o))
      else (if y then ended (int_le (c +ℤ pos 1) (pos (i + 1))) false (run (holds_at o)) else ended (int_le (pos (2 ^ 40)) (pos (i + 1))) false (run (holds_behind o)))

  mask_shows : (i : ℕ) (end : ℤ) → i < 2 ^ 40 → Shows (view ts ls (mask_of o b) end (pos i)) o i z
  mask_shows i end lt =
      let high = int_max_is (int_min z (pos (2 ^ 40))) (negsuc 0) in
      let low = int_min_is z (pos (2 ^ 40)) in
      let sum = sum_is_lem c (pos 1) in
      subst (λ (v : View). Shows v o i z) (sym (mask_view i end lt))
      (⊎_elim
      (λ (before : i + down z < up z).
      subst (λ x. Shows (chosen i x (int_lt (pos i) (c +ℤ pos 1))) o i z) (true_is_lt (pos i) c (omega (arith, high, low)))
      (record {
        seen = run_seen (holds_before o) i (before_is o (pos i) z compares (omega arith));
        stop = elim (int_le c (pos (i + 1))) as (λ x. (ended x false (run (holds_before o))).stop ≡ false) [ true ↦ refl | false ↦ refl ];
        ends_in = λ inside e. inl (same_in (pos (i + 1)) z (omega (arith, le-true c (pos (i + 1)) (or_not (int_le c (pos (i + 1))) e), high, low, inside)));
        ends_out = λ inside e. ap (λ x. (ended x false (run (holds_before o))).ends) (sym (true_is_le c (pos (i + 1)) (omega (arith, high, low, beside i z e))));
      }))
      (λ (rest : up z ≤ i + down z).
      subst (λ x. Shows (chosen i x (int_lt (pos i) (c +ℤ pos 1))) o i z) (false_is_lt (pos i) c (omega (arith, high, low)))
      (⊎_elim
      (λ (behind : up z < i + down z).
      subst (λ x. Shows (chosen i false x) o i z) (false_is_lt (pos i) (c +ℤ pos 1) (omega (arith, high, low, sum)))
      (record {
        seen = run_seen (holds_behind o) i (behind_is o (pos i) z compares (omega arith));
        stop = elim (int_le (pos (2 ^ 40)) (pos (i + 1))) as (λ x. (ended x false (run (holds_behind o))).stop ≡ false) [ true ↦ refl | false ↦ refl ];
        ends_in = λ inside e. absurd (omega (arith, le-true (pos (2 ^ 40)) (pos (i + 1)) (or_not (int_le (pos (2 ^ 40)) (pos (i + 1))) e), inside));
        ends_out = λ inside e. absurd (omega (arith, beside i z e, behind));
      }))
      (λ (ge : i + down z ≤ up z).
      let here : pos i ≡ z = same_in (pos i) z (omega arith) in
      subst (λ x. Shows (chosen i false x) o i z) (true_is_lt (pos i) (c +ℤ pos 1) (omega (arith, high, low, sum)))
      (record {
        seen = run_seen (holds_at o) i (ap (λ (x : ℤ). operate o x z) here ∙ at_is o z compares);
        stop = elim (int_le (c +ℤ pos 1) (pos (i + 1))) as (λ x. (ended x false (run (holds_at o))).stop ≡ false) [ true ↦ refl | false ↦ refl ];
        ends_in = λ inside e. inr (ap (λ (x : ℤ). x +ℤ pos 1) here);
        ends_out = λ inside e. ap (λ x. (ended x false (run (holds_at o))).ends) (sym (true_is_le (c +ℤ pos 1) (pos (i + 1)) (omega (arith, high, low, sum))));
      }))
      (cases_lt (up z) (i + down z))))
      (cases_lt (i + down z) (up z)))
    where
      or_not : (x : Bool) → (x || false) ≡ true → x ≡ true
      or_not true e = refl
      or_not false e = e

      -- a break is at the bound or behind it
      beside : (m : ℕ) (y : ℤ) → (pos (m + 1) ≡ y) ⊎ (pos (m + 1) ≡ y +ℤ pos 1) → (up y ≤ m + 1 + down y) × (m + down y ≤ up y)
      beside m y (inl e) = (omega (arith, ap up e, ap down e), omega (arith, ap up e, ap down e))
      beside m y (inr e) = (omega (arith, ap up e, ap down e, sum_is_lem y (pos 1)), omega (arith, ap up e, ap down e, sum_is_lem y (pos 1)))

module _ (o : Op) (b : IExpr) (compares : IsTrue (is_comparison o)) where
  pub mask_compares : Compares o b (mask_of o b)
  mask_compares ts ls end i lt = (mask_shows o b compares ts ls i end lt).seen

  pub mask_breaks : BreaksAtBound b (mask_of o b)
  mask_breaks ts ls lo hi le x = (
    λ h.
        let after : lo < x = omega (arith, lt_out (pos lo) (pos x) h.after) in
        let before : x < hi = omega (arith, lt_out (pos x) (pos hi) h.before) in
        let e : x - 1 + 1 ≡ x = omega arith in
        let is = ap (λ (y : ℤ). (view ts ls (mask_of o b) (pos hi) y).ends) (sub_is x 1 (omega arith)) in
        let s = mask_shows o b compares ts ls (x - 1) (pos hi) (omega arith) in
        (after, before, subst (λ (y : ℕ). (pos y ≡ value ts ls b) ⊎ (pos y ≡ value ts ls b +ℤ pos 1)) e (s.ends_in (omega arith) (sym is ∙ h.ends))),
    λ h.
        let after : lo < x = h.0 in
        let before : x < hi = h.1 in
        let e : x ≡ x - 1 + 1 = omega arith in
        let is = ap (λ (y : ℤ). (view ts ls (mask_of o b) (pos hi) y).ends) (sub_is x 1 (omega arith)) in
        let s = mask_shows o b compares ts ls (x - 1) (pos hi) (omega arith) in
        record {
          after = below_in (pos lo) (pos x) (omega arith);
          before = below_in (pos x) (pos hi) (omega arith);
          ends = is ∙ s.ends_out (omega arith) (subst (λ (y : ℕ). (pos y ≡ value ts ls b) ⊎ (pos y ≡ value ts ls b +ℤ pos 1)) e h.2);
        },
  )

  pub mask_stops : NeverStops (mask_of o b)
  mask_stops ts ls lo hi le x h =
      let after : lo < x = omega (arith, lt_out (pos lo) (pos x) h.after) in
      let before : x < hi = omega (arith, lt_out (pos x) (pos hi) h.before) in
      let is = ap (λ (y : ℤ). (view ts ls (mask_of o b) (pos hi) y).stop) (sub_is x 1 (omega arith)) in
      let s = mask_shows o b compares ts ls (x - 1) (pos hi) (omega arith) in
      absurd (subst T (sym h.stops ∙ is ∙ s.stop) tt)

  -- it has no shift, so that any reach will do
  pub mask_sound_at : (reach served : Places) (ts : Store) (ls : List ℤ) (i : ℤ) → i <ℤ pos (2 ^ 40) → SoundWithin reach ts ls (mask_of o b) served i
  mask_sound_at reach served ts ls i high =
      let first = known (holds_before o) (bounded b) in
      let second = known (holds_at o) (next (bounded b)) in
      let third = known (holds_behind o) (Num (pos (2 ^ 40))) in
      let y = value ts ls (bounded b) in
      let y' = value ts ls (next (bounded b)) in
      let last : int_lt i (value ts ls (Num (pos (2 ^ 40)))) ≡ true = ap (int_lt i) (value_num ts ls (pos (2 ^ 40)))
      ∙ sym (true_is_lt i (pos (2 ^ 40)) (lt_out i (pos (2 ^ 40)) high)) in
      sound_phase reach ts ls first (second ∷ third ∷ []) served i
      (elim (int_lt i y) as (λ x. ((x ≡ true) × Unit {0}) ⊎ ((x ≡ false) × SoundWithin reach ts ls (Sequence (second ∷ third ∷ [])) served i)) [
        | true ↦ inl (refl, tt)
        | false ↦ inr (
          refl,
          sound_phase reach ts ls second (third ∷ []) served i
              (elim (int_lt i y') as (λ x. ((x ≡ true) × Unit {0}) ⊎ ((x ≡ false) × SoundWithin reach ts ls (Sequence (third ∷ [])) served i)) [
                | true ↦ inl (refl, tt)
                | false ↦ inr (refl, sound_phase reach ts ls third [] served i (inl (last, tt)))
              ]),
        )
      ])

  pub mask_sound : IsSoundMask (mask_of o b)
  mask_sound ts ls lo hi le i low high = mask_sound_at anywhere (λ j. j <ℤ pos hi) ts ls i (below_in i (pos (2 ^ 40)) (omega (arith, le, lt_out i (pos hi) high)))
