-- What a run by pieces knows at a coordinate of a loop is right, where what it knows around the loop is.
use Rattle.std.proofs.Common.{◌≡◌, ◌<◌, ◌+◌, ℕ, ℤ, pos, Bool, true, false, ◌&&◌, ◌||◌, List, [], ◌∷◌, map, length, Option, Some, None, refl, sym, ap, ◌∙◌, subst, arith, if◌then◌else◌}
use Rattle.std.specs.Prelude.{IfSome, nat_eq, is_none, slice_set, filter_map, option_map}
use Rattle.std.specs.List.{list_all, cons_option}
use Rattle.std.specs.Option.{option_or}
use Rattle.std.specs.Ordering.{int_eq}
use Rattle.std.proofs.lemmas.Bool.Decides.{nat_tests}
use Rattle.std.proofs.lemmas.List.{get_or-set_other}
use Rattle.fin_base.specs.Words.{IsWord}
use Rattle.fin_tensor.specs.TensorFunction.{TensorFunction}
use Rattle.fin_tensor.specs.declared.storage.Storage.{Storage}
use Rattle.fin_ast.specs.declared.checked.Checked.{Checked}
use Rattle.fin_ast.specs.declared.tree.Index.{Index}
use Rattle.fin_ast.specs.declared.tree.Expr.{Expr, out-Expr}
use Rattle.fin_ast.specs.declared.tree.Expr.TheOpen.{Expr-F}
use Rattle.fin_ast.specs.declared.tree.Stmt.{Stmt}
use Rattle.fin_ast.specs.Accepted.{FitProgram}
use Rattle.fin_ast.specs.Literals.{is_worded, all_hold, is_worded_stmt}
use Rattle.fin_ast.specs.Scope.{is_among}
use Rattle.fin_ast.specs.Dense.{Setting, fill_of, setting_of}
use Rattle.fin_ast.specs.Value.{Numbers, Tensors, number, place, read, value_of}
use Rattle.fin_stage.specs.Staged.{Run, tensors_of}
use Rattle.fin_stage.specs.Fitting.{StagesFit}
use Rattle.fin_stage.proofs.Alive.{left, right, both}
use Rattle.fin_simp.specs.Numbered.{Here, past_expr}
use Rattle.fin_simp.specs.Left.{Marks, as_expr, left_of}
use Rattle.fin_simp.specs.Rest.{Access, Test, Rest, all_rest, rest_step, all_written, written_step}
use Rattle.fin_simp.specs.Right.{agrees, is_unknown, is_clear, Judging, right_expr_step, right_expr}
use Rattle.fin_simp.specs.Sights.{Sight, driven_index}
use Rattle.fin_simp.specs.Gaps.{SameUpTo}
use Rattle.fin_simp.specs.Wording.{KnowsWords, StaysIn, Further}
use Rattle.fin_simp.specs.Work.{World, Context, Worked, Driven, Entered, Mask, is_in, world_of, driven_at, gap_among, test_among, sight_of, mask_value, is_comparison, is_bound_of, is_var, mask_by, and_mask, masks_among, marks_at, marks_within, rests_in, enter}
use Rattle.fin_simp.specs.Moving.{worked_all}
use Rattle.fin_simp.proofs.Induction.{ExprCases, by_expr}
use Rattle.fin_simp.proofs.Equations.{at_num, at_var, at_read, at_neg, at_two}
use Rattle.fin_simp.proofs.Loops.{told}
use Rattle.fin_simp.proofs.Mentions.{rests}
use Rattle.fin_simp.proofs.Values.{SeesWords}
use Rattle.fin_work.specs.Gaps.{Stands}
use Rattle.fin_work.specs.Changing.{changed_by}
use Rattle.fin_work.proofs.Gaps.{gaps_read_fill}
use Rattle.fin_work.proofs.Masks.{masks_tell}
use Rattle.fin_work.proofs.Changing.{fewer_change}
use Rattle.fin_work.proofs.Standing.{further_at, words_at}
use Rattle.fin_work.proofs.Numbering.{texts, remaining_reads}
use Rattle.fin_work.proofs.Looking.{Look, looks, each_look, as_test, AllTests, remaining_tests, Deeper, deeper_looks, look_at, both_looks, all_looks_found}
use Rattle.fin_work.proofs.Known.{Below, TestRight, Table, Matches, Known, left_same}
use Rattle.fin_work.proofs.Written.{written_covers, written_tests}

-- ---- marks that are right where more is known are right
agrees_less : (o o' : Option ℤ) (z : ℤ) → StaysIn o o' → agrees o' z ≡ true → agrees o z ≡ true
agrees_less None o' z s h = refl
agrees_less (Some n) o' z s h = sym (ap (λ (p : Option ℤ). agrees p z) s) ∙ h

none_less : (o o' : Option ℤ) → StaysIn o o' → is_none o' ≡ true → is_none o ≡ true
none_less None o' s h = refl
none_less (Some n) o' s h = absurd (let x : false ≡ true = sym (ap is_none s) ∙ h in cc)

module _ (m m' : Marks) (f : Further m m') (vars : Numbers) (ts : Tensors) where
  unknown_less : (o : Option ℕ) → is_unknown m' o ≡ true → is_unknown m o ≡ true
  unknown_less None h = refl
  unknown_less (Some x) h = none_less (m.vars x) (m'.vars x) (f.vars x) h

  clear_less : (at : List Index) → list_all (is_clear m') at ≡ true → list_all (is_clear m) at ≡ true
  clear_less [] h = refl
  clear_less (i ∷ at) h =
      let one = left (is_clear m' i) (list_all (is_clear m') at) h in
      both (is_clear m i) (list_all (is_clear m) at)
      (both (is_unknown m i.first) (is_unknown m i.second) (unknown_less i.first (left (is_unknown m' i.first) (is_unknown m' i.second) one)) (unknown_less i.second (right (is_unknown m' i.first) (is_unknown m' i.second) one)))
      (clear_less at (right (is_clear m' i) (list_all (is_clear m') at) h))

  abbrev Less : Expr → Type 0
  Less x = (k : ℕ) → right_expr x k m' vars ts ≡ true → right_expr x k m vars ts ≡ true

  abbrev judge : Marks → Judging → Bool
  judge n g = g n vars ts

  less_cases : ExprCases Less
  less_cases = record {
    num = λ n k h. ap (judge m) (at_num Judging right_expr_step n k);
    var = λ x line k h. ap (judge m) (at_var Judging right_expr_step x line k) ∙ agrees_less (m.vars x) (m'.vars x) (number vars x) (f.vars x) (sym (ap (judge m') (at_var Judging right_expr_step x line k)) ∙ h);
    read = λ tensor at line k h.
        let z = read (ts tensor) (map (place vars) at) in
        let two = sym (ap (judge m') (at_read Judging right_expr_step tensor at line k)) ∙ h in
        ap (judge m) (at_read Judging right_expr_step tensor at line k)
        ∙ both (list_all (is_clear m) at) (agrees (m.reads k) z) (clear_less at (left (list_all (is_clear m') at) (agrees (m'.reads k) z) two)) (agrees_less (m.reads k) (m'.reads k) z (f.reads k) (right (list_all (is_clear m') at) (agrees (m'.reads k) z) two));
    neg = λ x hx k h. ap (judge m) (at_neg Judging right_expr_step x k) ∙ hx k (sym (ap (judge m') (at_neg Judging right_expr_step x k)) ∙ h);
    two = λ o x y hx hy k h.
        let j = past_expr x k in
        let two = sym (ap (judge m') (at_two Judging right_expr_step o x y k)) ∙ h in
        ap (judge m) (at_two Judging right_expr_step o x y k)
        ∙ both (right_expr x k m vars ts) (right_expr y j m vars ts) (hx k (left (right_expr x k m' vars ts) (right_expr y j m' vars ts) two)) (hy j (right (right_expr x k m' vars ts) (right_expr y j m' vars ts) two));
  }

  right_less : (x : Expr) → Less x
  right_less = by_expr Less less_cases

word_less : (o o' : Option ℤ) → StaysIn o o' → IfSome o' IsWord → IfSome o IsWord
word_less None o' s h = tt
word_less (Some n) o' s h = subst (λ (p : Option ℤ). IfSome p IsWord) s h

words_less : (m m' : Marks) → Further m m' → KnowsWords m' → KnowsWords m
words_less m m' f w = record { reads = λ k. word_less (m.reads k) (m'.reads k) (f.reads k) (w.reads k); vars = λ x. word_less (m.vars x) (m'.vars x) (f.vars x) (w.vars x) }

-- ---- where a gap and a mask come from
abbrev AllDriven : (Driven → Type 0) → List Driven → Type 0
AllDriven P [] = Unit {0}
AllDriven P (d ∷ ds) = P d × AllDriven P ds

record GapFound (P : Driven → Type 0) (seen : Driven → Sight) (k : ℕ) (z : ℤ) : Type 0 where
  driven : Driven
  from : P driven
  read : driven.read ≡ k
  gap : (seen driven).gap ≡ true
  fill : driven.fill ≡ z

gap_found : (P : Driven → Type 0) (ds : List Driven) → AllDriven P ds → (seen : Driven → Sight) (k : ℕ) (z : ℤ) → gap_among ds seen k ≡ Some z → GapFound P seen k z
gap_found P [] all seen k z e = cc
gap_found P (d ∷ ds) all seen k z e = by (nat_eq d.read k && (seen d).gap) refl e (gap_found P ds all.1 seen k z) where
  by : (b : Bool) → (nat_eq d.read k && (seen d).gap) ≡ b → (if b then Some d.fill else gap_among ds seen k) ≡ Some z → (gap_among ds seen k ≡ Some z → GapFound P seen k z) → GapFound P seen k z
  by true t q rest =
      let same : nat_eq d.read k ≡ true = left (nat_eq d.read k) (seen d).gap t in
      record { driven = d; from = all.0; read = grind (arith, nat_tests, same); gap = right (nat_eq d.read k) (seen d).gap t; fill = cc }
  by false t q rest = rest q

record MaskFound (vars : Numbers) (var : ℕ) (P : Test → Type 0) (k c : ℕ) (z : ℤ) : Type 0 where
  mask : Mask
  test : Test
  from : P test
  is : mask_by vars var test.test (out-Expr test.expr) ≡ Some mask
  number : mask.test ≡ k
  value : mask_value mask (pos c) ≡ z

mask_found : (vars : Numbers) (var : ℕ) (P : Test → Type 0) (tests : List Test) → AllTests P tests → (k c : ℕ) (z : ℤ) → test_among (masks_among vars var tests) c k ≡ Some z → MaskFound vars var P k c z
mask_found vars var P [] all k c z e = cc
mask_found vars var P (t ∷ ts) all k c z e = by (mask_by vars var t.test (out-Expr t.expr)) refl e (mask_found vars var P ts all.1 k c z) where
  by : (o : Option Mask) → mask_by vars var t.test (out-Expr t.expr) ≡ o → test_among (and_mask o (masks_among vars var ts)) c k ≡ Some z → (test_among (masks_among vars var ts) c k ≡ Some z → MaskFound vars var P k c z) → MaskFound vars var P k c z
  by None q h rest = rest h
  by (Some m) q h rest = pick (nat_eq m.test k) refl h where
    pick : (b : Bool) → nat_eq m.test k ≡ b → (if b then Some (mask_value m (pos c)) else test_among (masks_among vars var ts) c k) ≡ Some z → MaskFound vars var P k c z
    pick true s g = record { mask = m; test = t; from = all.0; is = q; number = grind (arith, nat_tests, s); value = cc }
    pick false s g = rest g

-- a mask has the number of its test
abbrev number_in : Option Mask → ℕ
number_in None = 0
number_in (Some m) = m.test

own_test : (vars : Numbers) (var test : ℕ) (m : Mask) (y : Expr-F Expr) → mask_by vars var test y ≡ Some m → m.test ≡ test
own_test vars var test m (Expr-F.Num n) h = cc
own_test vars var test m (Expr-F.Var x line) h = cc
own_test vars var test m (Expr-F.Read tensor at line) h = cc
own_test vars var test m (Expr-F.Neg inner) h = cc
own_test vars var test m (Expr-F.Two o x y) h = by (is_comparison o && (is_var var x && is_bound_of var y)) (is_comparison o && (is_var var y && is_bound_of var x)) h where
  by : (a b : Bool) → (if a then Some (record { test = test; op = o; bare_first = true; bound = value_of y vars (λ t. None) }) else (if b then Some (record { test = test; op = o; bare_first = false; bound = value_of x vars (λ t. None) }) else None)) ≡ Some m → m.test ≡ test
  by true b q = sym (ap number_in q)
  by false true q = sym (ap number_in q)
  by false false q = cc

-- ---- a coordinate
module _ (c : Checked) (inputs : List Storage) (fit : FitProgram c inputs) (fills : (t : ℕ) → IsWord (fill_of (setting_of c inputs) t)) (T : Table) where
  abbrev w : World
  w = world_of c inputs

  abbrev set : Setting
  set = setting_of c inputs

  module _ (ctx : Context) (var : ℕ) (par : Bool) (body : List Stmt) (worded : all_hold (map is_worded_stmt body) ≡ true) (h : Here) (vars : Numbers) (bound : var < length vars) (entry : Run) (fits : StagesFit set entry.stages)
      (matches : Matches T (texts body h).reads) where
    abbrev parts : List Worked
    parts = worked_all w body h

    abbrev m : Marks
    m = marks_within ctx

    abbrev seen_rest : Rest
    seen_rest = rests_in ctx parts

    -- ---- what is looked at in the loop, at its entry
    abbrev all_seen : List Look
    all_seen = looks body h m

    abbrev ToldBy : Test → Type 0
    ToldBy t = (later : Numbers) (ts : Tensors) → SeesWords later ts → is_worded (look_at all_seen t.test).expr ≡ true → KnowsWords (look_at all_seen t.test).marks
        → right_expr (look_at all_seen t.test).expr (look_at all_seen t.test).read (look_at all_seen t.test).marks later ts ≡ true → value_of t.expr later ts ≡ value_of (look_at all_seen t.test).expr later ts

    pub record Entry (r : Rest) : Type 0 where
      pub covers : (t : ℕ) → is_in r.changed t ≡ false → is_in (changed_by body h m) t ≡ false
      pub reads : Matches T r.reads
      pub tests : AllTests ToldBy r.tests

    told_seen : (l : Look) → look_at all_seen l.test ≡ l → (x : Expr) → ((later : Numbers) (ts : Tensors) → SeesWords later ts → is_worded l.expr ≡ true → KnowsWords l.marks → right_expr l.expr l.read l.marks later ts ≡ true → value_of x later ts ≡ value_of l.expr later ts)
        → ToldBy (record { test = l.test; expr = x })
    told_seen l is x f = subst (λ (y : Look). (later : Numbers) (ts : Tensors) → SeesWords later ts → is_worded y.expr ≡ true → KnowsWords y.marks → right_expr y.expr y.read y.marks later ts ≡ true → value_of x later ts ≡ value_of y.expr later ts) (sym is) f

    entry_by : (o : Context) → o ≡ ctx → Entry (rests_in o parts)
    entry_by None e =
        let same : rests_in None parts ≡ texts body h = ap all_written (told w Rest written_step (λ (z : Worked). z.written) (λ k y. refl) body h) in
        subst Entry (sym same) (record {
          covers = λ t f. written_covers t body h m f;
          reads = matches;
          tests = written_tests ToldBy body h m (each_look (λ l. look_at all_seen l.test ≡ l) (λ l. ToldBy (record { test = l.test; expr = l.expr })) (λ l is. told_seen l is l.expr (λ later ts sees word words rights. refl)) all_seen (all_looks_found body h m));
        })
    entry_by (Some n) e =
        let here : n ≡ m = ap marks_within e in
        let same : rests_in (Some n) parts ≡ rests body h m = ap (λ (fs : List (Marks → Rest)). all_rest fs n) (told w (Marks → Rest) rest_step (λ (z : Worked). z.rest) (λ k y. refl) body h) ∙ ap (λ (z : Marks). rests body h z) here in
        subst Entry (sym same) (record {
          covers = λ t f. f;
          reads = remaining_reads (λ (a : Access). T a.read ≡ (a.tensor, a.at)) body h m matches;
          tests = remaining_tests ToldBy body h m (each_look (λ l. look_at all_seen l.test ≡ l) (λ l. ToldBy (as_test l))
              (λ l is. told_seen l is (as_expr (left_of l.expr l.read l.marks)) (λ later ts sees word words rights. left_same later ts sees l.expr word l.read l.marks words rights)) all_seen (all_looks_found body h m));
        })

    pub entered : Entry seen_rest
    entered = entry_by ctx refl

    -- ---- the reads that the loop drives
    abbrev From : Driven → Type 0
    From d = (a : Access) × ((at : ℕ × Index) × ((d ≡ driven_at w vars entry seen_rest.changed a at) × ((driven_index var a.at ≡ Some at) × (T a.read ≡ (a.tensor, a.at)))))

    one_driven : (a : Access) (o : Option (ℕ × Index)) (ds : List Driven) → driven_index var a.at ≡ o → T a.read ≡ (a.tensor, a.at) → AllDriven From ds → AllDriven From (cons_option (option_map (driven_at w vars entry seen_rest.changed a) o) ds)
    one_driven a None ds e t all = all
    one_driven a (Some d) ds e t all = ((a, (d, (refl, (e, t)))), all)

    all_driven : (reads : List Access) → Matches T reads → AllDriven From (filter_map (λ (a : Access). option_map (driven_at w vars entry seen_rest.changed a) (driven_index var a.at)) reads)
    all_driven [] t = tt
    all_driven (a ∷ reads) t = one_driven a (driven_index var a.at) _ refl t.0 (all_driven reads t.1)

    module _ (coord : ℕ) (loops : List ℕ) (r : Run) (known : Known w T body h m loops var vars r) (unnamed : m.vars var ≡ None) (since : (t : ℕ) → is_in seen_rest.changed t ≡ false → tensors_of set r t ≡ tensors_of set entry t) where
      abbrev loop : Entered
      loop = enter w ctx var par parts vars entry

      abbrev here : Marks
      here = marks_at loop vars m coord

      abbrev inner : Numbers
      inner = slice_set vars var (pos coord)

      words : KnowsWords here
      words = words_at w fills ctx m var par parts vars entry coord known.words

      further : Further m here
      further = further_at loop vars m coord

      outer : (later : Numbers) → Below (var + 1) inner later → Below var vars later
      outer later b k lt = b k (omega (arith, lt)) ∙ get_or-set_other vars var k (pos coord) (pos 0) (λ e. omega (arith, lt, e))

      up_to : (later : Numbers) → Below (var + 1) inner later → SameUpTo var inner later
      up_to later b k le = b k (omega (arith, le))

      numbers_by : (v : ℕ) (o : Option ℤ) → m.vars v ≡ o → IfSome o (λ z. number vars v ≡ z) → IfSome o (λ z. number inner v ≡ z)
      numbers_by v None e q = tt
      numbers_by v (Some z) e q = get_or-set_other vars var v (pos coord) (pos 0) (λ same. absurd (let x : None ≡ Some z = sym unnamed ∙ ap m.vars (sym same) ∙ e in cc)) ∙ q

      free_by : (v : ℕ) (b : Bool) → nat_eq v var ≡ b → (b || is_among loops v) ≡ true → m.vars v ≡ None
      free_by v true e q = let same : v ≡ var = grind (arith, nat_tests) in ap m.vars same ∙ unnamed
      free_by v false e q = known.free v q

      module _ (k : ℕ) (z : ℤ) (later : Numbers) (below : Below (var + 1) inner later) (f : TensorFunction) (stands : Stands w (T k).0 f) (seen : is_in (changed_by body h here) (T k).0 ≡ false → tensors_of set r (T k).0 ≡ Some f) where
        by_gap : gap_among loop.driven (sight_of vars var coord) k ≡ Some z → read (Some f) (map (place later) (T k).1) ≡ z
        by_gap q =
            let g = gap_found From loop.driven (all_driven seen_rest.reads entered.reads) (sight_of vars var coord) k z q in
            let (a, (at, (is, (driven, match)))) = g.from in
            let number_is : a.read ≡ k = sym (ap (λ (d : Driven). d.read) is) ∙ g.read in
            let entry_is : T k ≡ (a.tensor, a.at) = ap T (sym number_is) ∙ match in
            let tensor_is : (T k).0 ≡ a.tensor = ap (λ (p : ℕ × List Index). p.0) entry_is in
            let stands' : Stands w a.tensor f = subst (λ (t : ℕ). Stands w t f) tensor_is stands in
            let free_here : is_in seen_rest.changed a.tensor ≡ false → is_in (changed_by body h here) a.tensor ≡ false =
            λ free. fewer_change body h m here worded words further a.tensor (entered.covers a.tensor free) in
            let seen' : is_in seen_rest.changed a.tensor ≡ false → tensors_of set entry a.tensor ≡ Some f =
            λ free. sym (since a.tensor free) ∙ subst (λ (t : ℕ). is_in (changed_by body h here) t ≡ false → tensors_of set r t ≡ Some f) tensor_is seen (free_here free) in
            let gap : (sight_of vars var coord (driven_at w vars entry seen_rest.changed a at)).gap ≡ true = sym (ap (λ (d : Driven). (sight_of vars var coord d).gap) is) ∙ g.gap in
            ap (λ (p : ℕ × List Index). read (Some f) (map (place later) p.1)) entry_is
            ∙ gaps_read_fill c inputs entry fit fits vars later var coord seen_rest.changed a at driven (up_to later below) f stands' seen' gap
            ∙ stands'.fill ∙ sym (ap (λ (d : Driven). d.fill) is) ∙ g.fill

        by_known : (o : Option ℤ) → m.reads k ≡ o → option_or o (gap_among loop.driven (sight_of vars var coord) k) ≡ Some z → read (Some f) (map (place later) (T k).1) ≡ z
        by_known None e q = by_gap q
        by_known (Some y) e q =
            let same : y ≡ z = cc in
            known.reads k z (e ∙ ap (λ (x : ℤ). Some x) same) later (outer later below) f stands (λ free. seen (fewer_change body h m here worded words further (T k).0 free))

      -- ---- tests
      abbrev Before : Look → Type 0
      Before l = TestRight m var vars l × (look_at all_seen l.test ≡ l)

      module _ (l l' : Look) (deep : Deeper l l') (before : Before l) (z : ℤ) (later : Numbers) (ts : Tensors) (below : Below (var + 1) inner later) (sees : SeesWords later ts) (rights : right_expr l'.expr l'.read l'.marks later ts ≡ true) where
        rights_before : right_expr l.expr l.read l.marks later ts ≡ true
        rights_before =
            subst (λ (k : ℕ). right_expr l.expr k l.marks later ts ≡ true) deep.read (subst (λ (x : Expr). right_expr x l'.read l.marks later ts ≡ true) deep.expr (right_less l.marks l'.marks deep.marks later ts l'.expr l'.read rights))

        words_before : KnowsWords l.marks
        words_before = words_less l.marks l'.marks deep.marks deep.words

        same_value : value_of l.expr later ts ≡ value_of l'.expr later ts
        same_value = ap (λ (x : Expr). value_of x later ts) (sym deep.expr)

        abbrev Truth : Type 0
        Truth = int_eq z (pos 0) ≡ int_eq (value_of l'.expr later ts) (pos 0)

        by_mask : test_among loop.masks coord l'.test ≡ Some z → Truth
        by_mask q =
            let g = mask_found vars var ToldBy seen_rest.tests entered.tests l'.test coord z q in
            let number_is : g.test.test ≡ l.test = sym (own_test vars var g.test.test g.mask (out-Expr g.test.expr) g.is) ∙ g.number ∙ deep.test in
            let look_is : look_at all_seen g.test.test ≡ l = ap (look_at all_seen) number_is ∙ before.1 in
            let value_is : value_of g.test.expr later ts ≡ value_of l.expr later ts =
            subst (λ (y : Look). is_worded y.expr ≡ true → KnowsWords y.marks → right_expr y.expr y.read y.marks later ts ≡ true → value_of g.test.expr later ts ≡ value_of y.expr later ts) look_is (g.from later ts sees) deep.worded words_before rights_before in
            let mask_is : value_of g.test.expr later ts ≡ mask_value g.mask (pos coord) = masks_tell vars later var coord g.test.test g.test.expr g.mask ts bound (up_to later below) g.is in
            ap (λ (y : ℤ). int_eq y (pos 0)) (sym g.value ∙ sym mask_is ∙ value_is ∙ same_value)

        by_test : (o : Option ℤ) → m.tests l'.test ≡ o → option_or o (test_among loop.masks coord l'.test) ≡ Some z → Truth
        by_test None e q = by_mask q
        by_test (Some y) e q =
            let same : y ≡ z = cc in
            before.0 z (ap m.tests (sym deep.test) ∙ e ∙ ap (λ (x : ℤ). Some x) same) later ts (outer later below) sees deep.worded words_before rights_before ∙ ap (λ (x : ℤ). int_eq x (pos 0)) same_value

      abbrev After : Look → Type 0
      After l' = TestRight here (var + 1) inner l'

      deepened : (l l' : Look) → Deeper l l' → Before l → After l'
      deepened l l' deep before z q later ts below sees word words' rights = by_test l l' deep before z later ts below sees rights (m.tests l'.test) refl q

      pub known_at : Known w T body h here (var ∷ loops) (var + 1) inner r
      known_at = record {
        words = words;
        numbers = λ v. numbers_by v (m.vars v) refl (known.numbers v);
        free = λ v e. free_by v (nat_eq v var) refl e;
        reads = λ k z q later below f stands seen. by_known k z later below f stands seen (m.reads k) refl q;
        tests = deeper_looks Before After deepened body worded h m here words further (both_looks (TestRight m var vars) (λ l. look_at all_seen l.test ≡ l) all_seen known.tests (all_looks_found body h m));
      }
