-- The looplet of a mask shows its test.
use Rattle.std.proofs.Common.{◌≡◌, ◌⊎◌, ⊎_elim, inl, inr, ℕ, ◌+◌, ◌-◌, ◌<◌, ◌≤◌, ◌^◌, ℤ, pos, ◌+ℤ◌, Bool, true, false, T, IsTrue, not, ◌||◌, List, refl, sym, ap, ◌∙◌, arith, subst, if◌then◌else◌}
use Rattle.std.specs.Prelude.{◌-ℤ◌, ◌<ℤ◌, Some}
use Rattle.std.specs.Ordering.{int_eq}
use borrow.Author.Differences.{up, down, same_in, sum_is_lem, below_in}
use Rattle.fin_base.specs.declared.terms.Op.{Op}
use Rattle.fin_base.specs.declared.terms.Op.TheVariants as op
use Rattle.fin_base.specs.Words.{operate, truth}
use Rattle.fin_ir.specs.declared.expression.IExpr.{IExpr}
use Rattle.fin_looplet.specs.declared.looplet.Looplet.{Looplet}
use Rattle.fin_ir.specs.Meaning.{span}
use Rattle.fin_looplet.specs.View.{Store, value, view, Seen, IsBreak, stops}
use Rattle.fin_looplet.specs.Sound.{Near}
use Rattle.fin_unfurl.specs.Masks.{is_comparison}
use Rattle.fin_unfurl.proofs.Small.{sub_is}
use Rattle.fin_unfurl.proofs.Comparisons.{mask_compares, mask_breaks, mask_stops, mask_sound_at}
use Rattle.fin_unfurl.proofs.Counts.{filter_at_most, filter_none, span_is}
use Rattle.fin_unfurl.proofs.Edges.{sub_of}
use Rattle.fin_unfurl.proofs.Moving.{mask_owns, mask_free}
use Rattle.fin_unfurl.proofs.Separation.{mask_nested, mask_shifts, mask_loads}
use Rattle.fin_simp.specs.Work.{Mask}
use Rattle.fin_drive.specs.Turns.{word_of}
use Rattle.fin_drive.specs.Looplets.{turned_round, mask_looplet}
use Rattle.fin_drive.specs.Watches.{Decides}
use Rattle.fin_drive.specs.Standing.{ShowsMask}

abbrev used : Op → Bool → Op
used o bare_first = if bare_first then o else turned_round o

still_compares : (o : Op) → IsTrue (is_comparison o) → IsTrue (is_comparison (turned_round o))
still_compares op.Lt c = c
still_compares op.Le c = c
still_compares op.Gt c = c
still_compares op.Ge c = c
still_compares op.Eq c = c
still_compares op.Ne c = c
still_compares o c = absurd (subst T (sym c) tt)

pub used_compares : (o : Op) (b : Bool) → IsTrue (is_comparison o) → IsTrue (is_comparison (used o b))
used_compares o true c = c
used_compares o false c = still_compares o c

eq_swap : (x y : ℤ) → int_eq x y ≡ int_eq y x
eq_swap x y = grind (arith)

-- with the sides exchanged it is the same
turned_is : (o : Op) (x y : ℤ) → IsTrue (is_comparison o) → operate (turned_round o) x y ≡ operate o y x
turned_is op.Lt x y c = refl
turned_is op.Le x y c = refl
turned_is op.Gt x y c = refl
turned_is op.Ge x y c = refl
turned_is op.Eq x y c = ap truth (eq_swap x y)
turned_is op.Ne x y c = ap (λ b. truth (not b)) (eq_swap x y)
turned_is o x y c = absurd (subst T (sym c) tt)

used_is : (o : Op) (b : Bool) (x y : ℤ) → IsTrue (is_comparison o) → operate (used o b) x y ≡ (if b then operate o x y else operate o y x)
used_is o true x y c = refl
used_is o false x y c = turned_is o x y c

-- a test that is true exactly where another one is
same_test : (a b : Bool) → (a ≡ true → b ≡ true) → (b ≡ true → a ≡ true) → a ≡ b
same_test true b f g = sym (f refl)
same_test false true f g = g refl
same_test false false f g = refl

or_one : (a b : Bool) → (a || b) ≡ true → (a ≡ true) ⊎ (b ≡ true)
or_one true b h = inl refl
or_one false b h = inr h

or_left : (a b : Bool) → a ≡ true → (a || b) ≡ true
or_left a b h = ap (λ x. x || b) h

or_right : (a b : Bool) → b ≡ true → (a || b) ≡ true
or_right true b h = refl
or_right false b h = h

eq_out : (x y : ℤ) → int_eq x y ≡ true → x ≡ y
eq_out x y h = grind (arith)

eq_in : (x y : ℤ) → x ≡ y → int_eq x y ≡ true
eq_in x y h = grind (arith)

module _ (o : Op) (bare_first : Bool) (bound : IExpr) (compares : IsTrue (is_comparison o)) where
  abbrev l : Looplet
  l = mask_looplet o bare_first bound

  comparing : IsTrue (is_comparison (used o bare_first))
  comparing = used_compares o bare_first compares

  module _ (ts : Store) (ls : List ℤ) (hi c : ℕ) (top : hi ≤ 2 ^ 40) (high : c < hi) where
    abbrev z : ℤ
    z = value ts ls bound

    word_is : word_of (view ts ls l (pos hi) (pos c)).seen.sight ≡ Some (if bare_first then operate o (pos c) z else operate o z (pos c))
    word_is =
        ap (λ (s : Seen). word_of s.sight) (mask_compares (used o bare_first) bound comparing ts ls (pos hi) c (omega (arith, top, high)))
        ∙ ap Some (used_is o bare_first (pos c) z compares)

    back_one : pos (c + 1) -ℤ pos 1 ≡ pos c
    back_one = let e : c + 1 - 1 ≡ c = omega arith in sub_is (c + 1) 1 (omega arith) ∙ ap pos e

    ends_is : c + 1 < hi → (view ts ls l (pos hi) (pos c)).ends ≡ (int_eq z (pos c) || int_eq z (pos (c + 1)))
    ends_is more =
        let breaks = mask_breaks (used o bare_first) bound comparing ts ls c hi top (c + 1) in
        same_test (view ts ls l (pos hi) (pos c)).ends (int_eq z (pos c) || int_eq z (pos (c + 1)))
        (λ e.
        let b : IsBreak ts ls l (pos c) (pos hi) (pos (c + 1)) = record {
          after = below_in (pos c) (pos (c + 1)) (omega arith);
          before = below_in (pos (c + 1)) (pos hi) (omega (arith, more));
          ends = ap (λ (y : ℤ). (view ts ls l (pos hi) y).ends) back_one ∙ e;
        } in
        ⊎_elim
        (λ (q : pos (c + 1) ≡ z). or_right (int_eq z (pos c)) (int_eq z (pos (c + 1))) (eq_in z (pos (c + 1)) (sym q)))
        (λ (q : pos (c + 1) ≡ z +ℤ pos 1). or_left (int_eq z (pos c)) (int_eq z (pos (c + 1))) (eq_in z (pos c) (same_in z (pos c) (omega (arith, ap up q, ap down q, sum_is_lem z (pos 1))))))
        (breaks.0 b).2)
        (λ e.
        let met : (pos (c + 1) ≡ z) ⊎ (pos (c + 1) ≡ z +ℤ pos 1) =
        ⊎_elim
        (λ (q : int_eq z (pos c) ≡ true). let s = eq_out z (pos c) q in inr (same_in (pos (c + 1)) (z +ℤ pos 1) (omega (arith, ap up s, ap down s, sum_is_lem z (pos 1)))))
        (λ (q : int_eq z (pos (c + 1)) ≡ true). inl (sym (eq_out z (pos (c + 1)) q)))
        (or_one (int_eq z (pos c)) (int_eq z (pos (c + 1))) e) in
        ap (λ (y : ℤ). (view ts ls l (pos hi) y).ends) (sym back_one) ∙ (breaks.1 (omega arith, more, met)).ends)

  mask_decides : (ts : Store) (ls : List ℤ) (k : Mask) (hi c : ℕ) → k.op ≡ o → k.bare_first ≡ bare_first → k.bound ≡ value ts ls bound → hi ≤ 2 ^ 40 → c < hi
      → Decides (view ts ls l (pos hi) (pos c)) k c (c + 1 < hi)
  mask_decides ts ls k hi c op_is first_is bound_is top high = record {
    word = word_is ts ls hi c top high
        ∙ ap (λ (f : Bool). Some (if f then operate o (pos c) (value ts ls bound) else operate o (value ts ls bound) (pos c))) (sym first_is)
        ∙ ap (λ (y : Op). Some (if k.bare_first then operate y (pos c) (value ts ls bound) else operate y (value ts ls bound) (pos c))) (sym op_is)
        ∙ ap (λ (y : ℤ). Some (if k.bare_first then operate k.op (pos c) y else operate k.op y (pos c))) (sym bound_is);
    ends = λ more. ends_is ts ls hi c top high more ∙ ap (λ (y : ℤ). int_eq y (pos c) || int_eq y (pos (c + 1))) (sym bound_is);
  }

  mask_no_stops : (ts : Store) (ls : List ℤ) (lo hi : ℕ) → hi ≤ 2 ^ 40 → stops ts ls l (pos lo) (pos hi) ≡ 0
  mask_no_stops ts ls lo hi top =
      let m = span (pos lo) (pos hi) - 1 in
      let long = span_is lo hi in
      omega (
        arith,
        filter_none 0 m,
        filter_at_most (λ k. (view ts ls l (pos hi) (pos lo +ℤ pos k)).stop) (λ k. false) 0 m (λ k low lt e.
            let sum : pos lo +ℤ pos k ≡ pos (lo + k + 1) -ℤ pos 1 = same_in (pos lo +ℤ pos k) (pos (lo + k + 1) -ℤ pos 1) (omega (
              arith,
              sum_is_lem (pos lo) (pos k),
              sub_of (pos (lo + k + 1)) (pos 1),
            )) in
            absurd (mask_stops (used o bare_first) bound comparing ts ls lo hi top (lo + k + 1) (record {
              after = below_in (pos lo) (pos (lo + k + 1)) (omega arith);
              before = below_in (pos (lo + k + 1)) (pos hi) (omega (arith, lt, long));
              stops = ap (λ (y : ℤ). (view ts ls l (pos hi) y).stop) (sym sum) ∙ e;
            }))),
      )

  pub mask_shown : ShowsMask o bare_first bound (mask_looplet o bare_first bound)
  mask_shown = record {
    shows = mask_decides;
    sound = λ ts ls hi c top high. mask_sound_at (used o bare_first) bound comparing Near (λ j. j <ℤ pos hi) ts ls (pos c) (below_in (pos c) (pos (2 ^ 40)) (omega (arith, top, high)));
    no_stops = mask_no_stops;
    owns = mask_owns (used o bare_first) bound;
    depends = mask_free (used o bare_first) bound;
    nested = mask_nested (used o bare_first) bound;
    shifts = mask_shifts (used o bare_first) bound;
    loads = mask_loads (used o bare_first) bound;
  }
