-- A looplet whose region ended at a number, in any region before it.
use Rattle.std.proofs.Common.{◌≡◌, ◌+◌, ◌<◌, ◌≤◌, ◌^◌, ◌⊎◌, inl, inr, ⊎_elim, List, [], ◌∷◌, true, false, refl, sym, ap, ◌∙◌, subst, ℤ, pos, negsuc, ◌+ℤ◌, ◌-ℤ◌, neg_ℤ, ◌<ℤ◌, w64, SFits, arith}
use Rattle.std.specs.Prelude.{int_lt, int_le, if◌then◌else◌}
use Rattle.std.specs.Int.{int_wrap, int_min}
use Rattle.std.proofs.lemmas.Bool.{cases_lt}
use Rattle.std.proofs.lemmas.Int.{int_wrap_fits, int_min_is}
use borrow.Author.Differences.{up, down, same_in, sum_is_lem, neg_is, lt_out, le_out, below_in, true_is_lt, false_is_lt, true_is_le, false_is_le, fits_in}
use Rattle.fin_base.specs.declared.terms.Op.TheVariants as op
use Rattle.fin_ir.specs.declared.expression.IExpr.{IExpr}
use Rattle.fin_ir.specs.declared.expression.IExpr.TheVariants.{Num}
use Rattle.fin_ir.specs.Value.{is_off}
use Rattle.fin_ir.proofs.Values.{value_two, value_num}
use Rattle.fin_looplet.specs.declared.looplet.Leaf.{Leaf}
use Rattle.fin_looplet.specs.declared.looplet.Phase.{Phase}
use Rattle.fin_looplet.specs.declared.looplet.Looplet.{Looplet, Row_of-Case, end_of-Case, more_of-Case, end_of-Looplet, more_of-Looplet}
use Rattle.fin_looplet.specs.declared.looplet.Looplet.TheVariants.{Run, Spike, Lookup, Sequence, Sequence', Stepper', Jumper', Switch, Switch', Shift'}
use Rattle.fin_looplet.specs.View.{Store, value, leaf_sight, View, view, view_cases, plain, ended}
use Rattle.fin_looplet.specs.Sound.{Places, SoundWithin, SoundCases, Near}
use Rattle.fin_looplet.specs.Cut.{before, minus, cap, cut, cut_cases, two_runs}
use Rattle.fin_looplet.specs.Like.{Like}
use Rattle.fin_looplet.proofs.Bridges.{view_phase, view_case, view_shift, sound_phase, sound_case, sound_shift}

-- two tests that hold together
pub le_alike : (a b c d : ℤ) → (up a + down b ≤ up b + down a → up c + down d ≤ up d + down c) → (up b + down a < up a + down b → up d + down c < up c + down d) → int_le a b ≡ int_le c d
le_alike a b c d yes' no' =
    ⊎_elim
    (λ lt. sym (false_is_le a b lt) ∙ false_is_le c d (no' lt))
    (λ le. sym (true_is_le a b le) ∙ true_is_le c d (yes' le))
    (cases_lt (up b + down a) (up a + down b))

-- the value of a capped end
pub cap_is : (ts : Store) (ls : List ℤ) (e : IExpr) → value ts ls (cap e) ≡ int_min (value ts ls e) (pos (2 ^ 43))
cap_is ts ls e = value_two ts ls op.Min e (Num (pos (2 ^ 43))) ∙ ap (int_min (value ts ls e)) (value_num ts ls (pos (2 ^ 43)))

pub like_same : {inside : Type 0} (v w : View) → v ≡ w → Like inside v w
like_same v w e = record { seen = ap (λ (x : View). x.seen) e; ends = λ i. ap (λ (x : View). x.ends) e; stop = λ i. ap (λ (x : View). x.stop) e }

module _ (ts : Store) (ls : List ℤ) (e : IExpr) (b t : Leaf) (end i : ℤ) (near : Near i) (under : i <ℤ value ts ls e) where
  abbrev E : ℤ
  E = value ts ls e

  abbrev C : ℤ
  C = value ts ls (cap e)

  abbrev B : ℤ
  B = value ts ls (before (cap e))

  facts_c : (up C ≡ up (int_min E (pos (2 ^ 43)))) × (down C ≡ down (int_min E (pos (2 ^ 43))))
  facts_c = (ap up (cap_is ts ls e), ap down (cap_is ts ls e))

  before_cap : B ≡ C +ℤ negsuc 0
  before_cap =
      let f : SFits w64 (C +ℤ negsuc 0) = fits_in w64 (C +ℤ negsuc 0) (omega (arith, sum_is_lem C (negsuc 0), facts_c, int_min_is E (pos (2 ^ 43)), lt_out i E under, le_out (negsuc (2 ^ 42)) i near.0)) in
      value_two ts ls op.Add (cap e) (Num (negsuc 0)) ∙ ap (λ z. int_wrap w64 (C +ℤ z)) (value_num ts ls (negsuc 0)) ∙ int_wrap_fits w64 (C +ℤ negsuc 0) f

  abbrev first : Phase
  first = record { stop = before (cap e); child = Run b }

  abbrev second : Phase
  second = record { stop = cap e; child = Run t }

  pub cut_spike : Like ((i +ℤ pos 1) <ℤ E) (view ts ls (two_runs (cap e) b t) end i) (view ts ls (Spike b t) E i)
  cut_spike =
      let bu = ap up before_cap in let bd = ap down before_cap in
      let m = int_min_is E (pos (2 ^ 43)) in
      let s1 = sum_is_lem i (pos 1) in let s2 = sum_is_lem i (pos 2) in let sc = sum_is_lem C (negsuc 0) in
      let n1 = le_out i (pos (2 ^ 42 + 2 ^ 41)) near.1 in
      let u = lt_out i E under in
      let body = plain false (leaf_sight ts ls b) in
      let tail = plain false (leaf_sight ts ls t) in
      let parts = view_phase ts ls first (second ∷ []) end i in
      ⊎_elim
      (λ (lt : up (i +ℤ pos 1) + down E < up E + down (i +ℤ pos 1)).
      let p1 : int_lt i B ≡ true = sym (true_is_lt i B (omega (arith, lt, bu, bd, m, s1, sc, n1, facts_c))) in
      let p2 : int_lt (i +ℤ pos 1) E ≡ true = sym (true_is_lt (i +ℤ pos 1) E lt) in
      let l : (if int_lt i B then ended (int_le B (i +ℤ pos 1)) false body else view ts ls (Sequence (second ∷ [])) end i) ≡ ended (int_le B (i +ℤ pos 1)) false body = rw p1 refl in
      let r : view ts ls (Spike b t) E i ≡ ended (int_le E (i +ℤ pos 2)) false body = rw p2 refl in
      let q : int_le B (i +ℤ pos 1) ≡ int_le E (i +ℤ pos 2) = le_alike B (i +ℤ pos 1) E (i +ℤ pos 2) (λ h. omega (arith, h, bu, bd, m, s1, s2, sc, n1, facts_c)) (λ h. omega (arith, h, bu, bd, m, s1, s2, sc, n1, facts_c)) in
      like_same (view ts ls (two_runs (cap e) b t) end i) (view ts ls (Spike b t) E i) (parts ∙ l ∙ ap (λ x. ended x false body) q ∙ sym r))
      (λ (le : up E + down (i +ℤ pos 1) ≤ up (i +ℤ pos 1) + down E).
      let p1 : int_lt i B ≡ false = sym (false_is_lt i B (omega (arith, le, bu, bd, m, s1, sc, n1, u, facts_c))) in
      let p2 : int_lt (i +ℤ pos 1) E ≡ false = sym (false_is_lt (i +ℤ pos 1) E le) in
      let p3 : int_lt i C ≡ true = sym (true_is_lt i C (omega (arith, m, n1, u, facts_c))) in
      let l : (if int_lt i B then ended (int_le B (i +ℤ pos 1)) false body else view ts ls (Sequence (second ∷ [])) end i) ≡ view ts ls (Sequence (second ∷ [])) end i = rw p1 refl in
      let k : (if int_lt i C then ended (int_le C (i +ℤ pos 1)) false tail else view ts ls (Sequence []) end i) ≡ ended (int_le C (i +ℤ pos 1)) false tail = rw p3 refl in
      let r : view ts ls (Spike b t) E i ≡ tail = rw p2 refl in
      record {
        seen = ap (λ (x : View). x.seen) (parts ∙ l ∙ view_phase ts ls second [] end i ∙ k) ∙ sym (ap (λ (x : View). x.seen) r);
        ends = λ h. absurd (omega (arith, le, lt_out (i +ℤ pos 1) E h));
        stop = λ h. absurd (omega (arith, le, lt_out (i +ℤ pos 1) E h));
      })
      (cases_lt (up (i +ℤ pos 1) + down E) (up E + down (i +ℤ pos 1)))

spike_far : (ts : Store) (ls : List ℤ) (b t : Leaf) (e i : ℤ) → (i +ℤ pos 2) <ℤ e → view ts ls (Spike b t) e i ≡ ended false false (plain false (leaf_sight ts ls b))
spike_far ts ls b t e i h =
    let k = lt_out (i +ℤ pos 2) e h in
    let p : int_lt (i +ℤ pos 1) e ≡ true = sym (true_is_lt (i +ℤ pos 1) e (omega (arith, k, sum_is_lem i (pos 1), sum_is_lem i (pos 2)))) in
    let q : int_le e (i +ℤ pos 2) ≡ false = sym (false_is_le e (i +ℤ pos 2) k) in
    rw (p, q) refl

-- ends that are far do not matter
mutual
  pub end_far : (ts : Store) (ls : List ℤ) (l : Looplet) (e e' i : ℤ) → (i +ℤ pos 2) <ℤ e → (i +ℤ pos 2) <ℤ e' → view ts ls l e i ≡ view ts ls l e' i
  end_far ts ls (Run l) e e' i h k = refl
  end_far ts ls (Spike b t) e e' i h k = spike_far ts ls b t e i h ∙ sym (spike_far ts ls b t e' i k)
  end_far ts ls (Lookup c l) e e' i h k = refl
  end_far ts ls (Sequence' n ps) e e' i h k = refl
  end_far ts ls (Stepper' p w) e e' i h k = refl
  end_far ts ls (Jumper' p w) e e' i h k = refl
  end_far ts ls (Switch' n cs) e e' i h k = cases_far ts ls cs e e' i h k
  end_far ts ls (Shift' by p (more_of-Looplet child end_of-Looplet)) e e' i h k =
      let b = value ts ls by in
      end_far ts ls child (e -ℤ b) (e' -ℤ b) (i -ℤ b)
      (below_in ((i -ℤ b) +ℤ pos 2) (e -ℤ b) (omega (arith, lt_out (i +ℤ pos 2) e h, sum_is_lem i (pos 2), sum_is_lem (i -ℤ b) (pos 2), sum_is_lem i (neg_ℤ b), sum_is_lem e (neg_ℤ b), neg_is b)))
      (below_in ((i -ℤ b) +ℤ pos 2) (e' -ℤ b) (omega (arith, lt_out (i +ℤ pos 2) e' k, sum_is_lem i (pos 2), sum_is_lem (i -ℤ b) (pos 2), sum_is_lem i (neg_ℤ b), sum_is_lem e' (neg_ℤ b), neg_is b)))

  cases_far : {n : _} (ts : Store) (ls : List ℤ) (cs : Row_of-Case n) (e e' i : ℤ) → (i +ℤ pos 2) <ℤ e → (i +ℤ pos 2) <ℤ e' → view_cases ts ls cs e i ≡ view_cases ts ls cs e' i
  cases_far ts ls end_of-Case e e' i h k = refl
  cases_far ts ls (more_of-Case test child rest) e e' i h k =
      ap (λ (v : View). if is_off (value ts ls test) then v else view ts ls child e i) (cases_far ts ls rest e e' i h k)
      ∙ ap (λ (v : View). if is_off (value ts ls test) then view_cases ts ls rest e' i else v) (end_far ts ls child e e' i h k)

-- a shifted end
module _ (ts : Store) (ls : List ℤ) (e by : IExpr) (i : ℤ) (near : Near i) (near' : Near (i -ℤ value ts ls by)) (under : i <ℤ value ts ls e) where
  abbrev Top : ℤ
  Top = value ts ls (cap e)

  abbrev By : ℤ
  By = value ts ls by

  abbrev far : ℤ
  far = value ts ls (minus (cap e) by)

  top_is : (up Top ≡ up (int_min (value ts ls e) (pos (2 ^ 43)))) × (down Top ≡ down (int_min (value ts ls e) (pos (2 ^ 43))))
  top_is = (ap up (cap_is ts ls e), ap down (cap_is ts ls e))

  pub far_is : far ≡ Top -ℤ By
  far_is =
      let f : SFits w64 (Top -ℤ By) = fits_in w64 (Top -ℤ By) (omega (arith, sum_is_lem Top (neg_ℤ By), neg_is By, sum_is_lem i (neg_ℤ By), top_is, int_min_is (value ts ls e) (pos (2 ^ 43)), lt_out i (value ts ls e) under, le_out (negsuc (2 ^ 42)) i near.0, le_out i (pos (2 ^ 42 + 2 ^ 41)) near.1, le_out (negsuc (2 ^ 42)) (i -ℤ By) near'.0, le_out (i -ℤ By) (pos (2 ^ 42 + 2 ^ 41)) near'.1)) in
      value_two ts ls op.Sub (cap e) by ∙ int_wrap_fits w64 (Top -ℤ By) f

  pub far_over : (i -ℤ By) <ℤ far
  far_over = let u = ap up far_is in let d = ap down far_is in
      below_in (i -ℤ By) far (omega (arith, u, d, sum_is_lem Top (neg_ℤ By), sum_is_lem i (neg_ℤ By), neg_is By, top_is, int_min_is (value ts ls e) (pos (2 ^ 43)), lt_out i (value ts ls e) under, le_out i (pos (2 ^ 42 + 2 ^ 41)) near.1))

  pub far_inside : (i +ℤ pos 1) <ℤ value ts ls e → ((i -ℤ By) +ℤ pos 1) <ℤ far
  far_inside h = let u = ap up far_is in let d = ap down far_is in
      below_in ((i -ℤ By) +ℤ pos 1) far (omega (arith, u, d, sum_is_lem Top (neg_ℤ By), sum_is_lem i (neg_ℤ By), sum_is_lem (i -ℤ By) (pos 1), sum_is_lem i (pos 1), neg_is By, top_is, int_min_is (value ts ls e) (pos (2 ^ 43)), lt_out (i +ℤ pos 1) (value ts ls e) h, le_out i (pos (2 ^ 42 + 2 ^ 41)) near.1))

  -- the child sees the same as at the end itself
  pub far_view : (child : Looplet) → view ts ls child far (i -ℤ By) ≡ view ts ls child (value ts ls e -ℤ By) (i -ℤ By)
  far_view child =
      let E = value ts ls e in
      let u = ap up far_is in let d = ap down far_is in
      ⊎_elim
      (λ (lt : 2 ^ 43 + down E < up E).
      end_far ts ls child far (E -ℤ By) (i -ℤ By)
      (below_in ((i -ℤ By) +ℤ pos 2) far (omega (arith, lt, u, d, sum_is_lem Top (neg_ℤ By), sum_is_lem i (neg_ℤ By), sum_is_lem (i -ℤ By) (pos 2), neg_is By, top_is, int_min_is E (pos (2 ^ 43)), le_out i (pos (2 ^ 42 + 2 ^ 41)) near.1)))
      (below_in ((i -ℤ By) +ℤ pos 2) (E -ℤ By) (omega (arith, lt, sum_is_lem E (neg_ℤ By), sum_is_lem i (neg_ℤ By), sum_is_lem (i -ℤ By) (pos 2), neg_is By, le_out i (pos (2 ^ 42 + 2 ^ 41)) near.1))))
      (λ (le : up E ≤ 2 ^ 43 + down E).
      let same : Top ≡ E = same_in Top E (omega (arith, le, top_is, int_min_is E (pos (2 ^ 43)))) in
      ap (λ z. view ts ls child z (i -ℤ By)) (far_is ∙ ap (λ z. z -ℤ By) same))
      (cases_lt (2 ^ 43 + down E) (up E))

pub like_on : {A B : Type 0} (v w x : View) → (B → A) → Like A v w → w ≡ x → Like B v x
like_on v w x f l e = record { seen = l.seen ∙ ap (λ (y : View). y.seen) e; ends = λ i. l.ends (f i) ∙ ap (λ (y : View). y.ends) e; stop = λ i. l.stop (f i) ∙ ap (λ (y : View). y.stop) e }

like_from : {A : Type 0} {v w x : View} → v ≡ w → Like A w x → Like A v x
like_from {A = A} {x = x} e l = subst (λ (y : View). Like A y x) (sym e) l

module _ (reach : Places) (nears : (z : ℤ) → reach z → Near z) (ts : Store) (ls : List ℤ) where
  -- before its end a cut looplet shows what the looplet shows
  mutual
    pub cut_like : (l : Looplet) (e : IExpr) (end i : ℤ) (P : Places) → Near i → i <ℤ value ts ls e → SoundWithin reach ts ls l P i → Like ((i +ℤ pos 1) <ℤ value ts ls e) (view ts ls (cut e l) end i) (view ts ls l (value ts ls e) i)
    cut_like (Run l) e end i P near under s = like_same _ _ refl
    cut_like (Spike b t) e end i P near under s = cut_spike ts ls e b t end i near under
    cut_like (Lookup c l) e end i P near under s = like_same _ _ refl
    cut_like (Sequence' n ps) e end i P near under s = like_same _ _ refl
    cut_like (Stepper' p w) e end i P near under s = like_same _ _ refl
    cut_like (Jumper' p w) e end i P near under s = like_same _ _ refl
    cut_like (Switch' n cs) e end i P near under s = cases_like cs e end i P near under s
    cut_like (Shift' by p (more_of-Looplet child end_of-Looplet)) e end i P near under s =
        let b = value ts ls by in
        let near' = nears (i -ℤ b) s.0 in
        let c = cut_like child (minus (cap e) by) (end -ℤ b) (i -ℤ b) (λ j. P (j +ℤ b)) near' (far_over ts ls e by i near near' under) s.1 in
        like_from (view_shift ts ls by (cut (minus (cap e) by) child) end i) (like_on (view ts ls (cut (minus (cap e) by) child) (end -ℤ b) (i -ℤ b)) (view ts ls child (value ts ls (minus (cap e) by)) (i -ℤ b)) (view ts ls child (value ts ls e -ℤ b) (i -ℤ b)) (far_inside ts ls e by i near near' under) c (far_view ts ls e by i near near' under child))

    cases_like : {n : _} (cs : Row_of-Case n) (e : IExpr) (end i : ℤ) (P : Places) → Near i → i <ℤ value ts ls e → SoundCases reach ts ls cs P i → Like ((i +ℤ pos 1) <ℤ value ts ls e) (view ts ls (Switch (cut_cases e cs)) end i) (view_cases ts ls cs (value ts ls e) i)
    cases_like end_of-Case e end i P near under s = absurd s
    cases_like (more_of-Case test child rest) e end i P near under (inl s) =
        let r = cases_like rest e end i P near under s.1 in
        like_from (view_case ts ls (record { test = test; child = cut e child }) (cut_cases e rest) end i) (rw s.0 r)
    cases_like (more_of-Case test child rest) e end i P near under (inr s) =
        let c = cut_like child e end i P near under s.1 in
        like_from (view_case ts ls (record { test = test; child = cut e child }) (cut_cases e rest) end i) (rw s.0 c)

  -- and is sound where the looplet is
  two_sound : (a b : IExpr) (x y : Leaf) (P : Places) (i : ℤ) → i <ℤ value ts ls b → SoundWithin reach ts ls (Sequence (record { stop = a; child = Run x } ∷ record { stop = b; child = Run y } ∷ [])) P i
  two_sound a b x y P i h =
      let last : SoundWithin reach ts ls (Sequence (record { stop = b; child = Run y } ∷ [])) P i = sound_phase reach ts ls (record { stop = b; child = Run y }) [] P i (inl (sym (true_is_lt i (value ts ls b) (lt_out i (value ts ls b) h)), tt)) in
      sound_phase reach ts ls (record { stop = a; child = Run x }) (record { stop = b; child = Run y } ∷ []) P i
      (elim (int_lt i (value ts ls a)) as (λ v. ((v ≡ true) × Unit {0}) ⊎ ((v ≡ false) × SoundWithin reach ts ls (Sequence (record { stop = b; child = Run y } ∷ [])) P i)) [ true ↦ inl (refl, tt) | false ↦ inr (refl, last) ])

  mutual
    pub cut_sound : (l : Looplet) (e : IExpr) (i : ℤ) (P : Places) → Near i → i <ℤ value ts ls e → SoundWithin reach ts ls l P i → SoundWithin reach ts ls (cut e l) P i
    cut_sound (Run l) e i P near under s = tt
    cut_sound (Spike b t) e i P near under s =
        let cu = ap up (cap_is ts ls e) in let cd = ap down (cap_is ts ls e) in
        two_sound (before (cap e)) (cap e) b t P i (below_in i (value ts ls (cap e)) (omega (arith, cu, cd, int_min_is (value ts ls e) (pos (2 ^ 43)), lt_out i (value ts ls e) under, le_out i (pos (2 ^ 42 + 2 ^ 41)) near.1)))
    cut_sound (Lookup c l) e i P near under s = tt
    cut_sound (Sequence' n ps) e i P near under s = s
    cut_sound (Stepper' p w) e i P near under s = s
    cut_sound (Jumper' p w) e i P near under s = s
    cut_sound (Switch' n cs) e i P near under s = cut_cases_sound cs e i P near under s
    cut_sound (Shift' by p (more_of-Looplet child end_of-Looplet)) e i P near under s =
        let near' = nears (i -ℤ value ts ls by) s.0 in
        sound_shift reach ts ls by (cut (minus (cap e) by) child) P i (s.0, cut_sound child (minus (cap e) by) (i -ℤ value ts ls by) (λ j. P (j +ℤ value ts ls by)) near' (far_over ts ls e by i near near' under) s.1)

    cut_cases_sound : {n : _} (cs : Row_of-Case n) (e : IExpr) (i : ℤ) (P : Places) → Near i → i <ℤ value ts ls e → SoundCases reach ts ls cs P i → SoundWithin reach ts ls (Switch (cut_cases e cs)) P i
    cut_cases_sound end_of-Case e i P near under s = absurd s
    cut_cases_sound (more_of-Case test child rest) e i P near under (inl s) =
        sound_case reach ts ls (record { test = test; child = cut e child }) (cut_cases e rest) P i (inl (s.0, cut_cases_sound rest e i P near under s.1))
    cut_cases_sound (more_of-Case test child rest) e i P near under (inr s) =
        sound_case reach ts ls (record { test = test; child = cut e child }) (cut_cases e rest) P i (inr (s.0, cut_sound child e i P near under s.1))
