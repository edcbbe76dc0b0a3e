-- Along runs and lookups what the heads of a nest's looplets tell is what is known at each of its coordinates.
use Rattle.std.proofs.Common.{◌≡◌, inl, inr, ℕ, Bool, true, false, ◌&&◌, List, [], ◌∷◌, ◌++◌, map, Option, Some, None, if◌then◌else◌, refl, sym, ap, subst, ◌∙◌, ℤ, pos, arith}
use Rattle.std.proofs.Math.Path.{fun_ext}
use Rattle.std.specs.Prelude.{nat_eq, not}
use Rattle.std.specs.List.{list_all}
use Rattle.std.specs.Option.{option_or}
use Rattle.std.proofs.lemmas.Bool.Decides.{nat_tests}
use Rattle.fin_ir.specs.Machine.{nothing}
use Rattle.fin_ir.specs.Value.{is_off}
use Rattle.fin_ir.specs.declared.expression.IExpr.TheVariants.{Num}
use Rattle.fin_ir.proofs.Values.{value_num}
use Rattle.fin_looplet.specs.declared.looplet.Leaf.{Leaf}
use Rattle.fin_looplet.specs.declared.looplet.Leaf.TheVariants.{Fill, Value, Sub}
use Rattle.fin_looplet.specs.declared.looplet.Looplet.{Looplet}
use Rattle.fin_looplet.specs.declared.looplet.Looplet.TheVariants.{Run, Spike, Lookup, Sequence', Stepper', Jumper', Switch', Shift'}
use Rattle.fin_looplet.specs.View.{value, leaf_sight, view, Seen}
use Rattle.fin_nest.specs.declared.entries.Numbered.{Numbered}
use Rattle.fin_nest.specs.Entries.{looplets, numbers}
use Rattle.fin_simp.specs.declared.facts.Gap.{Gap}
use Rattle.fin_simp.specs.declared.facts.Known.{Known}
use Rattle.fin_simp.specs.declared.facts.Facts.{Facts}
use Rattle.fin_simp.specs.Facts.{marks, gap_in, truth_of, test_in}
use Rattle.fin_simp.specs.Left.{Marks}
use Rattle.fin_drive.specs.Turns.{Slot, Driving, Waiting, Testing, fill_of, word_of, fill_by, word_by, first_known}
use Rattle.fin_style_point.specs.declared.nest.Nest.{Nest}
use Rattle.fin_style_point.specs.Parts.{all_looplets}
use Rattle.fin_style_point.specs.Steps.{is_flat, AllFlat}
use Rattle.fin_descend.specs.Leaves.{EachRuns, IsNumberOrGap}
use Rattle.fin_descend.proofs.Lasting.{flat_are_runs}
use Rattle.fin_known.specs.Telling.{leaf_fill, fill_told, truth_told, fill_at, truth_at, and_gap, gaps_told, and_test, tests_told, marks_told, slot_of, read_slots, slots_of}
use Rattle.fin_known.proofs.Heads.{gaps_right, tests_right, gaps_both, tests_both}
use Rattle.fin_loops.specs.Facts.{IsTruthOrGap, KnowsOf}
use Rattle.fin_loops.specs.FactsPoints.{IsKnown, PointsAreTold}
use Rattle.fin_loops.specs.Loops.{Loop, around}
use Rattle.fin_loops.specs.Points.{seen_bare, marks_by, AreSettled}
use Rattle.fin_loops.proofs.FactsApart.{is_other, AreApart, slots_are_apart}
use Rattle.fin_loops.proofs.Known.{runs_flat, no_fill}

-- ---- options and tests

same_option : (a b : Option ℤ) → ((z : ℤ) → a ≡ Some z → b ≡ Some z) → ((z : ℤ) → b ≡ Some z → a ≡ Some z) → a ≡ b
same_option (Some z) b f g = sym (f z refl)
same_option None (Some z) f g = g z refl
same_option None None f g = refl

or_none : (a : Option ℤ) → option_or a None ≡ a
or_none (Some z) = refl
or_none None = refl

both : (a b : Bool) → (a && b) ≡ true → (a ≡ true) × (b ≡ true)
both true b e = (refl, e)
both false b e = absurd (cc)

other_number : (i j k : ℕ) → nat_eq j k ≡ true → not (nat_eq j i) ≡ true → nat_eq i k ≡ false
other_number i j k same other = grind (arith, nat_tests)

-- ---- one looplet

abbrev bare : Looplet → Seen
bare l = (view (λ t. nothing) [] l (pos 0) (pos 0)).seen

leaf_told : (ls : List ℤ) (leaf : Leaf) → fill_of (leaf_sight (λ t. nothing) ls leaf) ≡ leaf_fill leaf
leaf_told ls (Fill f) = refl
leaf_told ls (Value e) = refl
leaf_told ls (Sub tensor level place there) = no_fill (is_off (value (λ t. nothing) ls there)) tensor level _

flat_told : (l : Looplet) → is_flat l ≡ true → fill_of (bare l).sight ≡ fill_told l
flat_told (Run leaf) e = leaf_told _ leaf
flat_told (Spike body tail) e = cc
flat_told (Lookup coord leaf) e = leaf_told _ leaf
flat_told (Sequence' n phases) e = cc
flat_told (Stepper' p walker) e = cc
flat_told (Jumper' p walker) e = cc
flat_told (Switch' n cases) e = cc
flat_told (Shift' by p child) e = cc

-- a truth as a number
abbrev number_of : Option Bool → Option ℤ
number_of None = None
number_of (Some b) = Some (truth_of b)

number_told : (b : Bool) → word_of (bare (Run (Value (Num (truth_of b))))).sight ≡ number_of (truth_told (Run (Value (Num (truth_of b)))))
number_told true = ap (λ (z : ℤ). Some z) (value_num (λ t. nothing) [] (pos 1))
number_told false = ap (λ (z : ℤ). Some z) (value_num (λ t. nothing) [] (pos 0))

mask_told : (l : Looplet) (leaf : Leaf) → l ≡ Run leaf → IsTruthOrGap leaf → word_of (bare l).sight ≡ number_of (truth_told l)
mask_told l leaf e (inl (b, is)) =
    let at : l ≡ Run (Value (Num (truth_of b))) = e ∙ ap (λ (x : Leaf). Run x) is in
    ap (λ (x : Looplet). word_of (bare x).sight) at ∙ number_told b ∙ sym (ap (λ (x : Looplet). number_of (truth_told x)) at)
mask_told l leaf e (inr is) =
    let at : l ≡ Run (Fill (pos 0)) = e ∙ ap (λ (x : Leaf). Run x) is in
    ap (λ (x : Looplet). word_of (bare x).sight) at ∙ sym (ap (λ (x : Looplet). number_of (truth_told x)) at)

-- ---- of reads

-- behind a driven read no other has its number
no_read : (j k : ℕ) (xs : List Slot) (ss : List Seen) → nat_eq j k ≡ true → list_all (is_other (Driving j)) xs ≡ true → first_known fill_by xs ss k ≡ None
no_read j k [] ss same e = refl
no_read j k (x ∷ xs) [] same e = refl
no_read j k (Driving i ∷ xs) (s ∷ ss) same e =
    let b = both (not (nat_eq j i)) (list_all (is_other (Driving j)) xs) e in
    ap (λ (c : Bool). option_or (if c then fill_of s.sight else None) (first_known fill_by xs ss k)) (other_number i j k same b.0) ∙ no_read j k xs ss same b.1
no_read j k (Waiting ∷ xs) (s ∷ ss) same e = no_read j k xs ss same e
no_read j k (Testing i ∷ xs) (s ∷ ss) same e = no_read j k xs ss same e

-- masks know no read
no_fills : (ms : List Numbered) (ss : List Seen) (k : ℕ) → first_known fill_by (map Testing (numbers ms)) ss k ≡ None
no_fills [] ss k = refl
no_fills (x ∷ ms) [] k = refl
no_fills (x ∷ ms) (s ∷ ss) k = no_fills ms ss k

read_known : (d same : Bool) (j k : ℕ) (l : Looplet) (seen other : Option ℤ) → nat_eq j k ≡ same → is_flat l ≡ true → (d ≡ true → same ≡ true → seen ≡ None) → seen ≡ other
    → option_or (fill_by (slot_of d j) (bare l) k) seen ≡ (if d && same then fill_told l else other)
read_known true true j k l seen other is flat none e =
    ap (λ (c : Bool). option_or (if c then fill_of (bare l).sight else None) seen) is ∙ ap (option_or (fill_of (bare l).sight)) (none refl refl)
    ∙ or_none (fill_of (bare l).sight) ∙ flat_told l flat
read_known true false j k l seen other is flat none e = ap (λ (c : Bool). option_or (if c then fill_of (bare l).sight else None) seen) is ∙ e
read_known false same j k l seen other is flat none e = e

module _ (ms : List Numbered) where
  fills_known : (ds : List Bool) (es : List Numbered) (k : ℕ) → AllFlat (looplets es ++ looplets ms) → AreApart (read_slots ds (numbers es) ++ map Testing (numbers ms))
      → first_known fill_by (read_slots ds (numbers es) ++ map Testing (numbers ms)) (seen_bare (looplets es ++ looplets ms)) k ≡ fill_at ds es k
  fills_known [] [] k flat apart = no_fills ms (seen_bare (looplets ms)) k
  fills_known (d ∷ ds) [] k flat apart = no_fills ms (seen_bare (looplets ms)) k
  fills_known [] (x ∷ es) k flat apart = fills_known [] es k flat.1 apart.1
  fills_known (d ∷ ds) (x ∷ es) k flat apart =
      let xs : List Slot = read_slots ds (numbers es) ++ map Testing (numbers ms) in
      let ss : List Seen = seen_bare (looplets es ++ looplets ms) in
      read_known d (nat_eq x.number k) x.number k x.looplet (first_known fill_by xs ss k) (fill_at ds es k) refl flat.0
      (λ drives same. no_read x.number k xs ss same (ap (λ (c : Bool). list_all (is_other (slot_of c x.number)) xs) (sym drives) ∙ apart.0))
      (fills_known ds es k flat.1 apart.1)

gap_first : (told : Option ℤ) (d same : Bool) (j k : ℕ) (own other : Option ℤ) (gs : List Gap) (f g : ℤ) → nat_eq j k ≡ same → (same ≡ true → told ≡ Some f)
    → (other ≡ Some g → gap_in gs k ≡ Some f) → (if d && same then own else other) ≡ Some g → gap_in (and_gap j told gs) k ≡ Some f
gap_first None d true j k own other gs f g is here behind e = absurd (let none : None ≡ Some f = here refl in cc)
gap_first (Some h) d true j k own other gs f g is here behind e = ap (λ (c : Bool). if c then Some h else gap_in gs k) is ∙ here refl
gap_first None true false j k own other gs f g is here behind e = behind e
gap_first None false false j k own other gs f g is here behind e = behind e
gap_first (Some h) true false j k own other gs f g is here behind e = ap (λ (c : Bool). if c then Some h else gap_in gs k) is ∙ behind e
gap_first (Some h) false false j k own other gs f g is here behind e = ap (λ (c : Bool). if c then Some h else gap_in gs k) is ∙ behind e

same_number : (a b : ℕ) → nat_eq a b ≡ true → a ≡ b
same_number a b e = grind (arith, nat_tests)

gap_listed : (at : ℕ → Option ℤ) (ds : List Bool) (es : List Numbered) (k : ℕ) (f g : ℤ) → at k ≡ Some f → fill_at ds es k ≡ Some g → gap_in (gaps_told at es) k ≡ Some f
gap_listed at [] es k f g own e = absurd (cc)
gap_listed at (d ∷ ds) [] k f g own e = absurd (cc)
gap_listed at (d ∷ ds) (x ∷ es) k f g own e =
    gap_first (at x.number) d (nat_eq x.number k) x.number k (fill_told x.looplet) (fill_at ds es k) (gaps_told at es) f g refl
    (λ same. ap at (same_number x.number k same) ∙ own) (λ h. gap_listed at ds es k f g own h) e

gaps_listed : (ds : List Bool) (es : List Numbered) (k : ℕ) → gap_in (gaps_told (fill_at ds es) es) k ≡ fill_at ds es k
gaps_listed ds es k = same_option (gap_in (gaps_told (fill_at ds es) es) k) (fill_at ds es k) (λ z e. gaps_right (fill_at ds es) es k z e) (λ z e. gap_listed (fill_at ds es) ds es k z z e e)

-- ---- of tests

no_test : (j k : ℕ) (xs : List Slot) (ss : List Seen) → nat_eq j k ≡ true → list_all (is_other (Testing j)) xs ≡ true → first_known word_by xs ss k ≡ None
no_test j k [] ss same e = refl
no_test j k (x ∷ xs) [] same e = refl
no_test j k (Driving i ∷ xs) (s ∷ ss) same e = no_test j k xs ss same e
no_test j k (Waiting ∷ xs) (s ∷ ss) same e = no_test j k xs ss same e
no_test j k (Testing i ∷ xs) (s ∷ ss) same e =
    let b = both (not (nat_eq j i)) (list_all (is_other (Testing j)) xs) e in
    ap (λ (c : Bool). option_or (if c then word_of s.sight else None) (first_known word_by xs ss k)) (other_number i j k same b.0) ∙ no_test j k xs ss same b.1

test_known : (same : Bool) (j k : ℕ) (s : Seen) (own rest : Option Bool) (seen : Option ℤ) → nat_eq j k ≡ same → word_of s.sight ≡ number_of own → (same ≡ true → seen ≡ None)
    → seen ≡ number_of rest → option_or (word_by (Testing j) s k) seen ≡ number_of (if same then own else rest)
test_known true j k s own rest seen is shown none e =
    ap (λ (c : Bool). option_or (if c then word_of s.sight else None) seen) is ∙ ap (option_or (word_of s.sight)) (none refl) ∙ or_none (word_of s.sight) ∙ shown
test_known false j k s own rest seen is shown none e = ap (λ (c : Bool). option_or (if c then word_of s.sight else None) seen) is ∙ e

masks_known : (ms : List Numbered) (k : ℕ) → EachRuns IsTruthOrGap (looplets ms) → AreApart (map Testing (numbers ms))
    → first_known word_by (map Testing (numbers ms)) (seen_bare (looplets ms)) k ≡ number_of (truth_at ms k)
masks_known [] k h apart = refl
masks_known (x ∷ ms) k h apart =
    let xs : List Slot = map Testing (numbers ms) in
    test_known (nat_eq x.number k) x.number k (bare x.looplet) (truth_told x.looplet) (truth_at ms k) (first_known word_by xs (seen_bare (looplets ms)) k) refl
    (mask_told x.looplet h.0.0 h.0.1 h.0.2) (λ same. no_test x.number k xs (seen_bare (looplets ms)) same apart.0) (masks_known ms k h.1 apart.1)

-- reads know no test
read_skipped : (d : Bool) (j k : ℕ) (s : Seen) (seen : Option ℤ) → option_or (word_by (slot_of d j) s k) seen ≡ seen
read_skipped true j k s seen = refl
read_skipped false j k s seen = refl

module _ (ms : List Numbered) (k : ℕ) (h : EachRuns IsTruthOrGap (looplets ms)) where
  tests_known : (ds : List Bool) (es : List Numbered) → AreApart (read_slots ds (numbers es) ++ map Testing (numbers ms))
      → first_known word_by (read_slots ds (numbers es) ++ map Testing (numbers ms)) (seen_bare (looplets es ++ looplets ms)) k ≡ number_of (truth_at ms k)
  tests_known ds [] apart = masks_known ms k h apart
  tests_known [] (x ∷ es) apart = tests_known [] es apart.1
  tests_known (d ∷ ds) (x ∷ es) apart =
      read_skipped d x.number k (bare x.looplet) (first_known word_by (read_slots ds (numbers es) ++ map Testing (numbers ms)) (seen_bare (looplets es ++ looplets ms)) k)
      ∙ tests_known ds es apart.1

test_first : (told : Option Bool) (same : Bool) (j k : ℕ) (own other : Option Bool) (ts : List Known) (t u : Bool) → nat_eq j k ≡ same → (same ≡ true → told ≡ Some t)
    → (other ≡ Some u → test_in ts k ≡ Some (truth_of t)) → (if same then own else other) ≡ Some u → test_in (and_test j told ts) k ≡ Some (truth_of t)
test_first None true j k own other ts t u is here behind e = absurd (let none : None ≡ Some t = here refl in cc)
test_first (Some h) true j k own other ts t u is here behind e = ap (λ (c : Bool). if c then Some (truth_of h) else test_in ts k) is ∙ ap number_of (here refl)
test_first None false j k own other ts t u is here behind e = behind e
test_first (Some h) false j k own other ts t u is here behind e = ap (λ (c : Bool). if c then Some (truth_of h) else test_in ts k) is ∙ behind e

test_listed : (at : ℕ → Option Bool) (es : List Numbered) (k : ℕ) (t u : Bool) → at k ≡ Some t → truth_at es k ≡ Some u → test_in (tests_told at es) k ≡ Some (truth_of t)
test_listed at [] k t u own e = absurd (cc)
test_listed at (x ∷ es) k t u own e =
    test_first (at x.number) (nat_eq x.number k) x.number k (truth_told x.looplet) (truth_at es k) (tests_told at es) t u refl
    (λ same. ap at (same_number x.number k same) ∙ own) (λ h. test_listed at es k t u own h) e

by_truth : (o : Option Bool) (z : ℤ) (P : Option ℤ) → ((t : Bool) → o ≡ Some t → P ≡ Some (truth_of t)) → number_of o ≡ Some z → P ≡ Some z
by_truth (Some t) z P all e = all t refl ∙ e
by_truth None z P all e = absurd (cc)

tests_listed : (es : List Numbered) (k : ℕ) → test_in (tests_told (truth_at es) es) k ≡ number_of (truth_at es k)
tests_listed es k =
    let told : Option ℤ = test_in (tests_told (truth_at es) es) k in
    same_option told (number_of (truth_at es k))
    (λ z e. let right = tests_right (truth_at es) es k z e in ap number_of right.1.0 ∙ ap (λ (y : ℤ). Some y) right.1.1)
    (λ z e. by_truth (truth_at es k) z told (λ t is. test_listed (truth_at es) es k t t is is) e)

-- ---- settled masks

number_or_gap : (leaf : Leaf) → IsTruthOrGap leaf → IsNumberOrGap leaf
number_or_gap leaf (inl h) = inl (truth_of h.0, h.1)
number_or_gap leaf (inr h) = inr h

masks_settled : (ms : List Numbered) → EachRuns IsTruthOrGap (looplets ms) → AreSettled (map Testing (numbers ms)) (looplets ms)
masks_settled [] h = tt
masks_settled (x ∷ ms) h = ((h.0.0, h.0.1, number_or_gap h.0.0 h.0.2), masks_settled ms h.1)

module _ (ms : List Numbered) (h : EachRuns IsTruthOrGap (looplets ms)) where
  all_settled : (ds : List Bool) (es : List Numbered) → AreSettled (read_slots ds (numbers es) ++ map Testing (numbers ms)) (looplets es ++ looplets ms)
  all_settled ds [] = masks_settled ms h
  all_settled [] (x ∷ es) = all_settled [] es
  all_settled (true ∷ ds) (x ∷ es) = all_settled ds es
  all_settled (false ∷ ds) (x ∷ es) = all_settled ds es

-- ---- the law

last_flat : (ls ks : List Looplet) → AllFlat (ls ++ ks) → AllFlat ks
last_flat [] ks flat = flat
last_flat (l ∷ ls) ks flat = last_flat ls ks flat.1

module _ (l : Loop) (facts : Facts) (ds : List Bool) (n : Nest) (knows : KnowsOf l facts ds n) where
  apart_here : AreApart (slots_of ds n)
  apart_here = subst AreApart knows.slots_are (slots_are_apart l)

  module _ (flat : AllFlat (all_looplets n)) where
    runs : EachRuns IsTruthOrGap (looplets n.masks)
    runs = flat_are_runs IsTruthOrGap (looplets n.masks) (last_flat (looplets n.reads) (looplets n.masks) flat) knows.leaves.masks

    told_here : marks_told facts ds n ≡ marks_by (marks facts) (slots_of ds n) (all_looplets n)
    told_here =
        ap (λ (g : ℕ → Option ℤ). record { reads = g; tests = (marks_told facts ds n).tests; vars = (marks facts).vars })
        (fun_ext (λ k. gaps_both facts.gaps.now (gaps_told (fill_at ds n.reads) n.reads) k
        ∙ ap (option_or (gap_in facts.gaps.now k)) (gaps_listed ds n.reads k ∙ sym (fills_known n.masks ds n.reads k flat apart_here))))
        ∙ ap (λ (g : ℕ → Option ℤ). record { reads = (marks_by (marks facts) (slots_of ds n) (all_looplets n)).reads; tests = g; vars = (marks facts).vars })
        (fun_ext (λ k. tests_both facts.known.now (tests_told (truth_at n.masks) n.masks) k
        ∙ ap (option_or (test_in facts.known.now k)) (tests_listed n.masks k ∙ sym (tests_known n.masks k runs ds n.reads apart_here))))

    known : IsKnown l facts ds n
    known = record {
      marks =
          told_here ∙ ap (λ (m : Marks). marks_by m (slots_of ds n) (all_looplets n)) knows.around_is
          ∙ ap (λ (xs : List Slot). marks_by (around l) xs (all_looplets n)) (sym knows.slots_are);
      settled = subst (λ (xs : List Slot). AreSettled xs (all_looplets n)) (sym knows.slots_are) (all_settled n.masks runs ds n.reads);
    }

pub points_are_told : PointsAreTold
points_are_told l facts ds n knows = record {
  flat = known l facts ds n knows;
  runs = λ runs. known l facts ds n knows (runs_flat (all_looplets n) runs);
}
