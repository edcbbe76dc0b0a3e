-- What the heads of looplets tell is seen at each coordinate, so that a body that is nothing by it is nothing there.
use Rattle.std.proofs.Common.{◌≡◌, ℕ, ℤ, pos, Bool, true, false, ◌&&◌, List, [], ◌∷◌, ◌++◌, map, Option, Some, None, refl, sym, ap, subst, ◌∙◌, arith, if◌then◌else◌}
use Rattle.std.specs.Prelude.{IfSome, nat_eq}
use Rattle.std.specs.Option.{option_or}
use Rattle.std.specs.Ordering.{int_eq}
use Rattle.std.proofs.lemmas.Bool.Decides.{nat_tests, Decides-int_eq}
use Rattle.fin_base.specs.Words.{IsWord}
use Rattle.fin_ast.specs.declared.tree.Stmt.{Stmt}
use Rattle.fin_ir.specs.declared.expression.IExpr.{IExpr}
use Rattle.fin_ir.specs.declared.expression.IExpr.TheVariants.{Num, Local, Neg', Two', Pick', Times', Cell', Seek', Val'}
use Rattle.fin_ir.proofs.Values.{value_num}
use Rattle.fin_looplet.specs.declared.looplet.Leaf.TheVariants.{Fill, Value, Sub}
use Rattle.fin_looplet.specs.declared.looplet.Looplet.TheVariants.{Run, Spike, Lookup, Sequence', Stepper', Jumper', Switch', Shift'}
use Rattle.fin_looplet.specs.declared.looplet.Looplet.{Looplet}
use Rattle.fin_looplet.specs.View.{Store, value, view, Seen}
use Rattle.fin_looplet.specs.Lists.{views, seens}
use Rattle.fin_nest.specs.declared.entries.Numbered.{Numbered}
use Rattle.fin_nest.specs.Entries.{looplets, numbers}
use Rattle.fin_style_point.specs.declared.nest.Nest.{Nest}
use Rattle.fin_style_point.specs.Parts.{all_looplets}
use Rattle.fin_simp.specs.declared.facts.Gap.{Gap}
use Rattle.fin_simp.specs.declared.facts.Known.{Known}
use Rattle.fin_simp.specs.declared.facts.Facts.{Facts}
use Rattle.fin_simp.specs.Left.{Marks}
use Rattle.fin_simp.specs.Facts.{marks, gap_in, truth_of, test_in}
use Rattle.fin_simp.specs.Numbered.{Here}
use Rattle.fin_simp.specs.Remaining.{are_nothing}
use Rattle.fin_simp.specs.Rest.{is_none_kind, all_rest, rest_step, Rest}
use Rattle.fin_simp.specs.Wording.{KnowsWords, StaysIn, Further}
use Rattle.fin_simp.specs.Moving.{worked_all}
use Rattle.fin_simp.specs.Work.{World, Worked, rests_in}
use Rattle.fin_simp.proofs.Loops.{told}
use Rattle.fin_simp.proofs.Resting.{rests_agree}
use Rattle.fin_simp.proofs.Staying.{nothing_all_stays}
use Rattle.fin_drive.specs.Turns.{Slot, Driving, Waiting, Testing, Watched, fill_of, word_of, fill_by, word_by, first_known, marks_seen}
use Rattle.fin_known.specs.Telling.{fill_told, truth_of_number, truth_of_expr, truth_told, fill_at, truth_at, and_gap, gaps_told, and_test, tests_told, marks_told, slot_of, read_slots, slots_of}
use Rattle.fin_known.specs.Words.{AllWorded}
use Rattle.fin_known.specs.Laws.{HeadsTellNothing}
use Rattle.fin_known.proofs.Words.{view_shows}

-- ---- tests on numbers

same_number : (a b : ℕ) → nat_eq a b ≡ true → a ≡ b
same_number a b e = grind (arith, nat_tests)

by_tests : (n : ℤ) (t a b : Bool) → int_eq n (pos 1) ≡ a → int_eq n (pos 0) ≡ b → (if a then Some true else (if b then Some false else None)) ≡ Some t → n ≡ truth_of t
by_tests n true true b p q e = (Decides-int_eq n (pos 1)).0 p
by_tests n false true b p q e = absurd (cc)
by_tests n true false true p q e = absurd (cc)
by_tests n false false true p q e = (Decides-int_eq n (pos 0)).0 q
by_tests n t false false p q e = absurd (cc)

number_truth : (n : ℤ) (t : Bool) → truth_of_number n ≡ Some t → n ≡ truth_of t
number_truth n t e = by_tests n t (int_eq n (pos 1)) (int_eq n (pos 0)) refl refl e

-- ---- one looplet

-- a run whose head tells its fill shows it
fill_shown : (ts : Store) (ls : List ℤ) (l : Looplet) (end i f : ℤ) → fill_told l ≡ Some f → fill_of (view ts ls l end i).seen.sight ≡ Some f
fill_shown ts ls (Run (Fill g)) end i f e = e
fill_shown ts ls (Run (Value x)) end i f e = absurd (cc)
fill_shown ts ls (Run (Sub tensor level place there)) end i f e = absurd (cc)
fill_shown ts ls (Spike body tail) end i f e = absurd (cc)
fill_shown ts ls (Lookup coord (Fill g)) end i f e = e
fill_shown ts ls (Lookup coord (Value x)) end i f e = absurd (cc)
fill_shown ts ls (Lookup coord (Sub tensor level place there)) end i f e = absurd (cc)
fill_shown ts ls (Sequence' n phases) end i f e = absurd (cc)
fill_shown ts ls (Stepper' p walker) end i f e = absurd (cc)
fill_shown ts ls (Jumper' p walker) end i f e = absurd (cc)
fill_shown ts ls (Switch' n cases) end i f e = absurd (cc)
fill_shown ts ls (Shift' by p child) end i f e = absurd (cc)

expr_truth : (ts : Store) (ls : List ℤ) (x : IExpr) (t : Bool) → truth_of_expr x ≡ Some t → value ts ls x ≡ truth_of t
expr_truth ts ls (Num n) t e = value_num ts ls n ∙ number_truth n t e
expr_truth ts ls (Local x) t e = absurd (cc)
expr_truth ts ls (Neg' p a) t e = absurd (cc)
expr_truth ts ls (Two' op pl l pr r) t e = absurd (cc)
expr_truth ts ls (Pick' pt x py y pn n) t e = absurd (cc)
expr_truth ts ls (Times' by pv v pc c) t e = absurd (cc)
expr_truth ts ls (Cell' tensor level table p a) t e = absurd (cc)
expr_truth ts ls (Seek' tensor level pa a pb b pc c) t e = absurd (cc)
expr_truth ts ls (Val' tensor p a) t e = absurd (cc)

truth_shown : (ts : Store) (ls : List ℤ) (l : Looplet) (end i : ℤ) (t : Bool) → truth_told l ≡ Some t → word_of (view ts ls l end i).seen.sight ≡ Some (truth_of t)
truth_shown ts ls (Run (Fill g)) end i t e = absurd (cc)
truth_shown ts ls (Run (Value x)) end i t e = ap (λ (z : ℤ). Some z) (expr_truth ts ls x t e)
truth_shown ts ls (Run (Sub tensor level place there)) end i t e = absurd (cc)
truth_shown ts ls (Spike body tail) end i t e = absurd (cc)
truth_shown ts ls (Lookup coord leaf) end i t e = absurd (cc)
truth_shown ts ls (Sequence' n phases) end i t e = absurd (cc)
truth_shown ts ls (Stepper' p walker) end i t e = absurd (cc)
truth_shown ts ls (Jumper' p walker) end i t e = absurd (cc)
truth_shown ts ls (Switch' n cases) end i t e = absurd (cc)
truth_shown ts ls (Shift' by p child) end i t e = absurd (cc)

-- ---- of reads

-- the slot of a read that the loop drives or not, of the number in question or not, over what the others know
fill_here : (d same : Bool) (j k : ℕ) (s : Seen) (rest : Option ℤ) (own other : Option ℤ) (f : ℤ) → nat_eq j k ≡ same → (own ≡ Some f → fill_of s.sight ≡ Some f)
    → (other ≡ Some f → rest ≡ Some f) → (if d && same then own else other) ≡ Some f → option_or (fill_by (slot_of d j) s k) rest ≡ Some f
fill_here true true j k s rest own other f is shown behind e =
    ap (λ (b : Bool). option_or (if b then fill_of s.sight else None) rest) is ∙ ap (λ (o : Option ℤ). option_or o rest) (shown e)
fill_here true false j k s rest own other f is shown behind e = ap (λ (b : Bool). option_or (if b then fill_of s.sight else None) rest) is ∙ behind e
fill_here false same j k s rest own other f is shown behind e = behind e

module _ (ts : Store) (ls : List ℤ) (end i : ℤ) (others : List Slot) (masks : List Looplet) where
  fill_seen : (ds : List Bool) (es : List Numbered) (k : ℕ) (f : ℤ) → fill_at ds es k ≡ Some f
      → first_known fill_by (read_slots ds (numbers es) ++ others) (seens (views ts ls (looplets es ++ masks) end i)) k ≡ Some f
  fill_seen [] [] k f e = absurd (cc)
  fill_seen [] (x ∷ es) k f e = absurd (cc)
  fill_seen (d ∷ ds) [] k f e = absurd (cc)
  fill_seen (d ∷ ds) (x ∷ es) k f e =
      fill_here d (nat_eq x.number k) x.number k (view ts ls x.looplet end i).seen
      (first_known fill_by (read_slots ds (numbers es) ++ others) (seens (views ts ls (looplets es ++ masks) end i)) k)
      (fill_told x.looplet) (fill_at ds es k) f refl (fill_shown ts ls x.looplet end i f) (fill_seen ds es k f) e

-- ---- of tests

no_test : (d : Bool) (j k : ℕ) (s : Seen) (rest : Option ℤ) → option_or (word_by (slot_of d j) s k) rest ≡ rest
no_test true j k s rest = refl
no_test false j k s rest = refl

test_here : (same : Bool) (j k : ℕ) (s : Seen) (rest : Option ℤ) (own other : Option Bool) (t : Bool) → nat_eq j k ≡ same → (own ≡ Some t → word_of s.sight ≡ Some (truth_of t))
    → (other ≡ Some t → rest ≡ Some (truth_of t)) → (if same then own else other) ≡ Some t → option_or (word_by (Testing j) s k) rest ≡ Some (truth_of t)
test_here true j k s rest own other t is shown behind e =
    ap (λ (b : Bool). option_or (if b then word_of s.sight else None) rest) is ∙ ap (λ (o : Option ℤ). option_or o rest) (shown e)
test_here false j k s rest own other t is shown behind e = ap (λ (b : Bool). option_or (if b then word_of s.sight else None) rest) is ∙ behind e

module _ (ts : Store) (ls : List ℤ) (end i : ℤ) where
  masks_seen : (es : List Numbered) (k : ℕ) (t : Bool) → truth_at es k ≡ Some t → first_known word_by (map Testing (numbers es)) (seens (views ts ls (looplets es) end i)) k ≡ Some (truth_of t)
  masks_seen [] k t e = absurd (cc)
  masks_seen (x ∷ es) k t e =
      test_here (nat_eq x.number k) x.number k (view ts ls x.looplet end i).seen (first_known word_by (map Testing (numbers es)) (seens (views ts ls (looplets es) end i)) k)
      (truth_told x.looplet) (truth_at es k) t refl (truth_shown ts ls x.looplet end i t) (masks_seen es k t) e

  -- reads know no test
  tests_seen : (ds : List Bool) (rs es : List Numbered) (k : ℕ) (t : Bool) → truth_at es k ≡ Some t
      → first_known word_by (read_slots ds (numbers rs) ++ map Testing (numbers es)) (seens (views ts ls (looplets rs ++ looplets es) end i)) k ≡ Some (truth_of t)
  tests_seen ds [] es k t e = masks_seen es k t e
  tests_seen [] (x ∷ rs) es k t e = tests_seen [] rs es k t e
  tests_seen (d ∷ ds) (x ∷ rs) es k t e =
      no_test d x.number k (view ts ls x.looplet end i).seen
      (first_known word_by (read_slots ds (numbers rs) ++ map Testing (numbers es)) (seens (views ts ls (looplets rs ++ looplets es) end i)) k)
      ∙ tests_seen ds rs es k t e

-- ---- what is told, as lists

gap_behind : (told : Option ℤ) (same : Bool) (j k : ℕ) (gs : List Gap) (at : ℕ → Option ℤ) (f : ℤ) → nat_eq j k ≡ same → told ≡ at j → (gap_in gs k ≡ Some f → at k ≡ Some f)
    → gap_in (and_gap j told gs) k ≡ Some f → at k ≡ Some f
gap_behind None same j k gs at f is own rest e = rest e
gap_behind (Some g) true j k gs at f is own rest e =
    let here : Some g ≡ Some f = sym (ap (λ (b : Bool). if b then Some g else gap_in gs k) is) ∙ e in
    ap at (sym (same_number j k is)) ∙ sym own ∙ here
gap_behind (Some g) false j k gs at f is own rest e = rest (sym (ap (λ (b : Bool). if b then Some g else gap_in gs k) is) ∙ e)

pub gaps_right : (at : ℕ → Option ℤ) (es : List Numbered) (k : ℕ) (f : ℤ) → gap_in (gaps_told at es) k ≡ Some f → at k ≡ Some f
gaps_right at [] k f e = absurd (cc)
gaps_right at (x ∷ es) k f e = gap_behind (at x.number) (nat_eq x.number k) x.number k (gaps_told at es) at f refl refl (gaps_right at es k f) e

test_behind : (told : Option Bool) (same : Bool) (j k : ℕ) (gs : List Known) (at : ℕ → Option Bool) (z : ℤ) → nat_eq j k ≡ same → told ≡ at j
    → (test_in gs k ≡ Some z → (t : Bool) × ((at k ≡ Some t) × (truth_of t ≡ z))) → test_in (and_test j told gs) k ≡ Some z → (t : Bool) × ((at k ≡ Some t) × (truth_of t ≡ z))
test_behind None same j k gs at z is own rest e = rest e
test_behind (Some g) true j k gs at z is own rest e =
    let here : Some (truth_of g) ≡ Some z = sym (ap (λ (b : Bool). if b then Some (truth_of g) else test_in gs k) is) ∙ e in
    (g, (ap at (sym (same_number j k is)) ∙ sym own, cc))
test_behind (Some g) false j k gs at z is own rest e = rest (sym (ap (λ (b : Bool). if b then Some (truth_of g) else test_in gs k) is) ∙ e)

pub tests_right : (at : ℕ → Option Bool) (es : List Numbered) (k : ℕ) (z : ℤ) → test_in (tests_told at es) k ≡ Some z → (t : Bool) × ((at k ≡ Some t) × (truth_of t ≡ z))
tests_right at [] k z e = absurd (cc)
tests_right at (x ∷ es) k z e = test_behind (at x.number) (nat_eq x.number k) x.number k (tests_told at es) at z refl refl (tests_right at es k z) e

some_first : (b : Bool) (z : ℤ) (p q : Option ℤ) → (if b then Some z else option_or p q) ≡ option_or (if b then Some z else p) q
some_first true z p q = refl
some_first false z p q = refl

pub gaps_both : (gs hs : List Gap) (k : ℕ) → gap_in (gs ++ hs) k ≡ option_or (gap_in gs k) (gap_in hs k)
gaps_both [] hs k = refl
gaps_both (g ∷ gs) hs k =
    ap (λ (o : Option ℤ). if nat_eq g.read k then Some g.fill else o) (gaps_both gs hs k) ∙ some_first (nat_eq g.read k) g.fill (gap_in gs k) (gap_in hs k)

pub tests_both : (gs hs : List Known) (k : ℕ) → test_in (gs ++ hs) k ≡ option_or (test_in gs k) (test_in hs k)
tests_both [] hs k = refl
tests_both (g ∷ gs) hs k =
    ap (λ (o : Option ℤ). if nat_eq g.test k then Some (truth_of g.holds) else o) (tests_both gs hs k)
    ∙ some_first (nat_eq g.test k) (truth_of g.holds) (test_in gs k) (test_in hs k)

-- ---- more is seen than is told

more : (a t u : Option ℤ) → ((z : ℤ) → t ≡ Some z → u ≡ Some z) → StaysIn (option_or a t) (option_or a u)
more None None u h = tt
more None (Some z) u h = h z refl
more (Some z) t u h = refl

stays_same : (a : Option ℤ) → StaysIn a a
stays_same None = tt
stays_same (Some z) = refl

module _ (x : Watched) (around : Facts) (ds : List Bool) (n : Nest) (slots : x.slots ≡ slots_of ds n) (around_is : x.around ≡ marks around) where
  module _ (ts : Store) (ls : List ℤ) (end i : ℤ) where
    abbrev ss : List Seen
    ss = seens (views ts ls (all_looplets n) end i)

    reads_more : (k : ℕ) → StaysIn (gap_in (around.gaps.now ++ gaps_told (fill_at ds n.reads) n.reads) k) (option_or (x.around.reads k) (first_known fill_by x.slots ss k))
    reads_more k =
        let gaps : Option ℤ = option_or (gap_in around.gaps.now k) (gap_in (gaps_told (fill_at ds n.reads) n.reads) k) in
        let known = more (gap_in around.gaps.now k) (gap_in (gaps_told (fill_at ds n.reads) n.reads) k) (first_known fill_by (slots_of ds n) ss k)
        (λ z e. fill_seen ts ls end i (map Testing (numbers n.masks)) (looplets n.masks) ds n.reads k z (gaps_right (fill_at ds n.reads) n.reads k z e)) in
        subst (λ (o : Option ℤ). StaysIn o (option_or (x.around.reads k) (first_known fill_by x.slots ss k))) (sym (gaps_both around.gaps.now (gaps_told (fill_at ds n.reads) n.reads) k))
        (subst (λ (m : Marks). StaysIn gaps (option_or (m.reads k) (first_known fill_by x.slots ss k))) (sym around_is)
        (subst (λ (xs : List Slot). StaysIn gaps (option_or (gap_in around.gaps.now k) (first_known fill_by xs ss k))) (sym slots) known))

    tests_more : (k : ℕ) → StaysIn (test_in (around.known.now ++ tests_told (truth_at n.masks) n.masks) k) (option_or (x.around.tests k) (first_known word_by x.slots ss k))
    tests_more k =
        let tests : Option ℤ = option_or (test_in around.known.now k) (test_in (tests_told (truth_at n.masks) n.masks) k) in
        let known = more (test_in around.known.now k) (test_in (tests_told (truth_at n.masks) n.masks) k) (first_known word_by (slots_of ds n) ss k)
        (λ z e.
        let right = tests_right (truth_at n.masks) n.masks k z e in
        tests_seen ts ls end i ds n.reads n.masks k right.0 right.1.0 ∙ ap (λ (y : ℤ). Some y) right.1.1) in
        subst (λ (o : Option ℤ). StaysIn o (option_or (x.around.tests k) (first_known word_by x.slots ss k))) (sym (tests_both around.known.now (tests_told (truth_at n.masks) n.masks) k))
        (subst (λ (m : Marks). StaysIn tests (option_or (m.tests k) (first_known word_by x.slots ss k))) (sym around_is)
        (subst (λ (xs : List Slot). StaysIn tests (option_or (test_in around.known.now k) (first_known word_by xs ss k))) (sym slots) known))

    pub seen_further : Further (marks_told around ds n) (marks_seen x ss)
    seen_further = record {
      reads = reads_more;
      tests = tests_more;
      vars = λ y. subst (λ (m : Marks). StaysIn ((marks around).vars y) (m.vars y)) (sym around_is) (stays_same ((marks around).vars y));
    }

-- ---- what is seen is words

some_words : (a b : Option ℤ) → IfSome a IsWord → IfSome b IsWord → IfSome (option_or a b) IsWord
some_words None b h k = k
some_words (Some z) b h k = h

if_words : (c : Bool) (o : Option ℤ) → IfSome o IsWord → IfSome (if c then o else None) IsWord
if_words true o h = h
if_words false o h = tt

slot_words : (y : Slot) (s : Seen) (k : ℕ) → IfSome (fill_of s.sight) IsWord → IfSome (fill_by y s k) IsWord
slot_words (Driving j) s k h = if_words (nat_eq j k) (fill_of s.sight) h
slot_words Waiting s k h = tt
slot_words (Testing j) s k h = tt

fills_words : (ts : Store) (ls : List ℤ) (end i : ℤ) (ys : List Slot) (rs : List Looplet) (k : ℕ) → AllWorded rs → IfSome (first_known fill_by ys (seens (views ts ls rs end i)) k) IsWord
fills_words ts ls end i [] rs k h = tt
fills_words ts ls end i (y ∷ ys) [] k h = tt
fills_words ts ls end i (y ∷ ys) (r ∷ rs) k h =
    some_words (fill_by y (view ts ls r end i).seen k) (first_known fill_by ys (seens (views ts ls rs end i)) k)
    (slot_words y (view ts ls r end i).seen k (view_shows ts ls r end i h.0)) (fills_words ts ls end i ys rs k h.1)

-- ---- the law

rest_kind : (w : World) (body : List Stmt) (h : Here) (m : Marks) → is_none_kind (rests_in (Some m) (worked_all w body h)).kind ≡ are_nothing body h m
rest_kind w body h m =
    ap (λ (rs : List (Marks → Rest)). is_none_kind (all_rest rs m).kind) (told w (Marks → Rest) rest_step (λ (s : Worked). s.rest) (λ k y. refl) body h)
    ∙ rests_agree body h m

pub heads_tell_nothing : HeadsTellNothing
heads_tell_nothing x around ds body h n b watched none ts ls i =
    let end = value ts ls n.hi in
    let ss = seens (views ts ls (all_looplets n) end i) in
    let m = marks_seen x ss in
    let words : KnowsWords m = record {
      reads = λ k. some_words (x.around.reads k) (first_known fill_by x.slots ss k)
          (subst (λ (q : Marks). IfSome (q.reads k) IsWord) (sym watched.around_is) (watched.words.reads k)) (fills_words ts ls end i x.slots (all_looplets n) k watched.worded);
      vars = λ y. subst (λ (q : Marks). IfSome (q.vars y) IsWord) (sym watched.around_is) (watched.words.vars y);
    } in
    ap (λ (f : Marks → Rest). is_none_kind (f m).kind) watched.rest ∙ rest_kind watched.world body h m
    ∙ nothing_all_stays body watched.literals h (marks_told around ds n) m words (seen_further x around ds n watched.slots watched.around_is ts ls end i) none
