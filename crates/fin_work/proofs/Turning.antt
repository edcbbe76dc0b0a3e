-- What is held of a loop from coordinate to coordinate, and that all of it is carried through a run by pieces.
use Rattle.std.proofs.Common.{◌≡◌, ◌<◌, ◌≤◌, ◌+◌, ℕ, ℤ, pos, Bool, true, false, ◌||◌, List, [], ◌∷◌, map, length, Option, Some, None, refl, sym, ap, ◌∙◌, subst, arith, if◌then◌else◌}
use Rattle.std.specs.Prelude.{IfSome, nat_eq, slice_set, ◌==◌}
use Rattle.std.proofs.Math.ListN.{length-set}
use Rattle.std.proofs.lemmas.Bool.Decides.{nat_tests}
use Rattle.std.proofs.lemmas.List.{length-append}
use Rattle.fin_base.specs.Words.{IsWord}
use Rattle.fin_tensor.specs.declared.storage.Storage.{Storage}
use Rattle.fin_ast.specs.declared.checked.Checked.{Checked}
use Rattle.fin_ast.specs.declared.tree.Stmt.{Stmt}
use Rattle.fin_ast.specs.declared.tree.Stmt.TheVariants as s
use Rattle.fin_ast.specs.Accepted.{FitProgram}
use Rattle.fin_ast.specs.Bindings.{bindings_step, bindings_of, bindings_of_all, counts_from}
use Rattle.fin_ast.specs.Literals.{all_hold, worded_stmt_step, is_worded_stmt}
use Rattle.fin_ast.specs.Scope as scope
use Rattle.fin_ast.specs.Scope.{Scope, within_loop, is_among, is_named, are_named}
use Rattle.fin_ast.specs.Dense.{Setting, setting_of, range_of}
use Rattle.fin_ast.specs.Value.{Numbers, number}
use Rattle.fin_ast.proofs.Acting.{act_block}
use Rattle.fin_ast.proofs.Alike.{Numbered}
use Rattle.fin_ast.proofs.Nodes as node
use Rattle.fin_stage.specs.Stages.{Stage, stage_at, frozen_in}
use Rattle.fin_stage.specs.Staged.{Run, worked, regular, tensors_of, staging}
use Rattle.fin_stage.specs.Fitting.{StagesFit}
use Rattle.fin_stage.specs.Wordy.{IsWordy, AreWordy}
use Rattle.fin_stage.proofs.Alive.{left, right}
use Rattle.fin_stage.proofs.Fits.{braced_fits}
use Rattle.fin_stage.proofs.Small.{counts_split}
use Rattle.fin_stage.proofs.Wordy.{stage_wordy}
use Rattle.fin_simp.specs.Numbered.{Here, past_stmt}
use Rattle.fin_simp.specs.Left.{Marks, binding}
use Rattle.fin_simp.specs.Rest.{Rest, is_none_kind, no_expr, rest_step, rest_of, written_step, written}
use Rattle.fin_simp.specs.Work.{World, Context, Worked, Entered, is_in, world_of, rests_in, all_of, enter, is_fixed, costing, first_share, inside, marks_within, marks_at}
use Rattle.fin_simp.specs.Moving.{worked_all}
use Rattle.fin_simp.proofs.Equations.{at_loop}
use Rattle.fin_simp.proofs.Mentions.{rests}
use Rattle.fin_simp.proofs.Staying.{binding_words, nothing_all_stays}
use Rattle.fin_work.specs.Changing.{changed_by}
use Rattle.fin_work.specs.Following.{Follows}
use Rattle.fin_work.proofs.Carrying.{NothingAt, turned, pieced_turn, Carries}
use Rattle.fin_work.proofs.Changing.{quiet, fewer_change}
use Rattle.fin_work.proofs.Coordinates.{Entry, entered, known_at}
use Rattle.fin_work.proofs.Following.{SameDone}
use Rattle.fin_work.proofs.Holding.{Held, reads_part, tests_part, number_of, within_back, also_fits}
use Rattle.fin_work.proofs.Known.{TestRight, Table, Matches, Known, nothing_right}
use Rattle.fin_work.proofs.Lived.{BodyLived, body_same, begun, in_loop, body_again, enterable}
use Rattle.fin_work.proofs.Looking.{looks_of, looks, AllLooks, looks_first, looks_loop}
use Rattle.fin_work.proofs.Numbering.{texts, reads_first}
use Rattle.fin_work.proofs.Standing.{frozen_of, further_at, words_at, pieces_keep}
use Rattle.fin_work.proofs.Stepping as step
use Rattle.fin_work.proofs.Stepping.{split_free, same_readable, known_same, equal}

module _ (c : Checked) (inputs : List Storage) (fit : FitProgram c inputs) (wordy : IsWordy (setting_of c inputs)) (T : Table) where
  abbrev w : World
  w = world_of c inputs

  abbrev set : Setting
  set = setting_of c inputs

  abbrev H : Context → List Stmt → Here → Numbers → Run → Run → Type 0
  H = Held c inputs fit wordy T

  abbrev around : Context → ℕ → Marks
  around ctx var = marks_within (inside ctx var None)

  pub record Turning (ctx : Context) (var : ℕ) (body : List Stmt) (h : Here) (vars : Numbers) (e : Entered) (coord : ℕ) (r r' : Run) : Type 0 where
    pub sc : Scope
    pub par : Bool
    pub entry : Run
    pub loop_is : e ≡ enter w (inside ctx var None) var par (worked_all w body h) vars entry
    pub entry_fits : StagesFit set entry.stages
    pub named : are_named body (within_loop sc var) ≡ true
    pub counts : counts_from (var + 1) (bindings_of_all body) ≡ true
    pub room : var + 1 + length (bindings_of_all body) ≤ length vars
    pub below : (k : ℕ) → is_among sc.loops k ≡ true → k < var
    pub worded : all_hold (map is_worded_stmt body) ≡ true
    pub numbers : Numbered IsWord vars
    pub fits : StagesFit set r.stages
    pub good : AreWordy r.stages
    pub matches : Matches T (texts body h).reads
    pub unnamed : (around ctx var).vars var ≡ None
    pub known : Known w T body h (around ctx var) sc.loops var vars r'
    pub since : (t : ℕ) → is_in (rests_in (inside ctx var None) (worked_all w body h)).changed t ≡ false → tensors_of set r' t ≡ tensors_of set entry t
    pub lived : BodyLived c inputs (within_loop sc var) body r

  word_at : (var k : ℕ) → k < (range_of set var).1 → IsWord (pos k)
  word_at var k lt = let most = wordy.ranges var in omega (arith, lt, most)

  among_below : (loops : List ℕ) (var : ℕ) → ((k : ℕ) → is_among loops k ≡ true → k < var) → (k : ℕ) → is_among (var ∷ loops) k ≡ true → k < var + 1
  among_below loops var f k e = by (nat_eq k var) refl e where
    by : (b : Bool) → nat_eq k var ≡ b → (b || is_among loops k) ≡ true → k < var + 1
    by true t q = let same : k ≡ var = grind (arith, nat_tests, t) in omega (arith, same)
    by false t q = omega (arith, f k q)

  -- ---- a coordinate
  at_turn : (ctx : Context) (var : ℕ) (body : List Stmt) (h : Here) (vars : Numbers) (e : Entered) (k : ℕ) (r r' : Run) → Turning ctx var body h vars e k r r' → k < (range_of set var).1
      → H (Some (marks_at e vars (around ctx var) k)) body h (slice_set vars var (pos k)) r r'
  at_turn ctx var body h vars e k r r' l high = record {
    sc = within_loop l.sc var;
    next = var + 1;
    named = l.named;
    counts = l.counts;
    enough = let same = length-set vars var (pos k) in omega (arith, l.room, same);
    below = among_below l.sc.loops var l.below;
    worded = l.worded;
    numbers = number_of vars var (pos k) IsWord l.numbers (word_at var k high);
    fits = l.fits;
    good = l.good;
    matches = l.matches;
    known = subst (λ (z : Entered). Known w T body h (marks_at z vars (around ctx var) k) (var ∷ l.sc.loops) (var + 1) (slice_set vars var (pos k)) r') (sym l.loop_is)
        (known_at c inputs fit wordy.fills T (inside ctx var None) var l.par body l.worded h vars (omega (arith, l.room)) l.entry l.entry_fits l.matches k l.sc.loops r' l.known l.unnamed l.since);
    lived = begun c inputs (within_loop l.sc var) body r l.lived;
  }

  -- ---- the next coordinate
  module _ (ctx : Context) (var : ℕ) (body : List Stmt) (h : Here) (vars : Numbers) (par : Bool) (entry : Run) (worded : all_hold (map is_worded_stmt body) ≡ true) (k : ℕ) (m : Marks) (r : Run)
      (t : ℕ) (here_free : is_in (changed_by body h m) t ≡ false) where
    abbrev parts : List Worked
    parts = worked_all w body h

    turn_keeps : (inner : Numbers) → ((n : Run) → frozen_of t (all_of parts (Some m) inner n) ≡ frozen_of t n) → (a b : Bool)
        → (begins : Bool) → frozen_of t (if a then r else (if b then costing (first_share begins) r (all_of parts (Some m) inner r) else all_of parts (Some m) inner (worked 1 r))) ≡ frozen_of t r
    turn_keeps inner f true b begins = refl
    turn_keeps inner f false true begins = f r
    turn_keeps inner f false false begins = f (worked 1 r)

  goes_on : (ctx : Context) (var : ℕ) (body : List Stmt) (h : Here) (vars : Numbers) (e : Entered) (k : ℕ) (r r' : Run) (begins : Bool) → Turning ctx var body h vars e k r r' → k < (range_of set var).1 → regular (turned w var body vars k r) ≡ true
      → Turning ctx var body h vars e (k + 1) (turned w var body vars k r) (pieced_turn w ctx body h vars e begins k r')
  goes_on ctx var body h vars e k r r' begins l high g = record {
    sc = l.sc;
    par = l.par;
    entry = l.entry;
    loop_is = l.loop_is;
    entry_fits = l.entry_fits;
    named = l.named;
    counts = l.counts;
    room = l.room;
    below = l.below;
    worded = l.worded;
    numbers = l.numbers;
    fits = braced_fits set body (slice_set vars var (pos k)) (worked 1 r) l.fits;
    good = subst (λ (z : Run). AreWordy z.stages) (act_block (staging set) (slice_set vars var (pos k)) (worked 1 r) body 0 0)
        (stage_wordy set wordy (s.Block body 0 0) (node.of_block Bool worded_stmt_step body 0 0 ∙ l.worded) (slice_set vars var (pos k)) (number_of vars var (pos k) IsWord l.numbers (word_at var k high)) (worked 1 r) l.good);
    matches = l.matches;
    unnamed = l.unnamed;
    known = record {
      words = l.known.words;
      numbers = l.known.numbers;
      free = l.known.free;
      reads = reads_part c inputs fit wordy T body body h h (around ctx var) (around ctx var) l.sc.loops var var vars vars r' (pieced_turn w ctx body h vars e begins k r') l.known (λ j. refl) (λ later b. b) (λ t f. (f, keeps t f));
      tests = l.known.tests;
    };
    since = λ t f. keeps t (Entry.covers (entered c inputs fit wordy.fills T (inside ctx var None) var l.par body l.worded h vars (omega (arith, l.room)) l.entry l.entry_fits l.matches) t f) ∙ l.since t f;
    lived = body_again c inputs (within_loop l.sc var) body (slice_set vars var (pos k)) (worked 1 r) l.named g (body_same c inputs (within_loop l.sc var) body r (worked 1 r) refl l.lived);
  } where
    keeps_by : (t : ℕ) → is_in (changed_by body h (around ctx var)) t ≡ false → frozen_of t (pieced_turn w ctx body h vars (enter w (inside ctx var None) var l.par (worked_all w body h) vars l.entry) begins k r') ≡ frozen_of t r'
    keeps_by t f =
        let here = marks_at (enter w (inside ctx var None) var l.par (worked_all w body h) vars l.entry) vars (around ctx var) k in
        let words = words_at w wordy.fills (inside ctx var None) (around ctx var) var l.par (worked_all w body h) vars l.entry k l.known.words in
        let free = fewer_change body h (around ctx var) here l.worded words (further_at (enter w (inside ctx var None) var l.par (worked_all w body h) vars l.entry) vars (around ctx var) k) t f in
        turn_keeps ctx var body h vars l.par l.entry l.worded k here r' t free (slice_set vars var (pos k)) (λ n. pieces_keep t w wordy.fills body l.worded h here words free (slice_set vars var (pos k)) n)
        (is_none_kind (rests_in (Some here) (worked_all w body h)).kind) (is_fixed (enter w (inside ctx var None) var l.par (worked_all w body h) vars l.entry) vars (rests_in (Some here) (worked_all w body h)) k) begins

    keeps : (t : ℕ) → is_in (changed_by body h (around ctx var)) t ≡ false → tensors_of set (pieced_turn w ctx body h vars e begins k r') t ≡ tensors_of set r' t
    keeps t f = same_readable c inputs fit wordy T t r' (pieced_turn w ctx body h vars e begins k r') (subst (λ (z : Entered). frozen_of t (pieced_turn w ctx body h vars z begins k r') ≡ frozen_of t r') (sym l.loop_is) (keeps_by t f))

  -- ---- the entry
  module _ (var : ℕ) (range : Option (ℕ × ℕ)) (par : Bool) (body : List Stmt) (line last : ℕ) (xs : List Stmt) (h : Here) (vars : Numbers) (r r' : Run) where
    abbrev loop_of : Stmt
    loop_of = s.Loop var range par body line last

    abbrev at_rest : Marks → (Marks → Rest) → Rest
    at_rest m f = f m

    loop_worded : all_hold (map is_worded_stmt (loop_of ∷ xs)) ≡ true → all_hold (map is_worded_stmt body) ≡ true
    loop_worded e = sym (node.of_loop Bool worded_stmt_step var range par body line last) ∙ left (is_worded_stmt loop_of) (all_hold (map is_worded_stmt xs)) e

    hidden : (b : Bool) (o : Option ℤ) → b ≡ true → (if b then None else o) ≡ None
    hidden true o e = refl
    hidden false o e = cc

    same_eq : (n : ℕ) → nat_eq n n ≡ true
    same_eq n = grind (arith, nat_tests)

    unnamed_by : (ctx : Context) → (around ctx var).vars var ≡ None
    unnamed_by None = refl
    unnamed_by (Some m) = hidden (nat_eq var var) (m.vars var) (same_eq var)

    known_enter : (ctx : Context) (i : H ctx (loop_of ∷ xs) h vars r r') → var ≡ i.next → Known w T body h (around ctx var) i.sc.loops var vars r'
    known_enter None i e = nothing_right w T body h i.sc.loops var vars r'
    known_enter (Some m) i e = record {
      words = binding_words m var None tt i.known.words;
      numbers = λ k. number_by (nat_eq k var) (m.vars k) k (i.known.numbers k);
      free = λ k q. free_by (nat_eq k var) (m.vars k) (i.known.free k q);
      reads = reads_part c inputs fit wordy T (loop_of ∷ xs) body h h m (binding m var None) i.sc.loops i.next var vars vars r' r' i.known (λ j. refl) (λ later b k lt. b k (omega (arith, lt, e)))
          (λ t f.
          let inner = rests body h (binding m var None) in
          let kept = subst (λ (z : Rest). is_in z.changed t ≡ false) (ap (at_rest m) (at_loop (Marks → Rest) rest_step var range par body line last h)) (split_free t (rest_of loop_of h m).changed (rests xs (past_stmt loop_of h) m).changed f).0 in
          (within_back t inner no_expr [] (quiet body h (binding m var None)) kept, refl));
      tests = tests_part c inputs fit wordy T m i.next var vars vars (λ later b k lt. b k (omega (arith, lt, e))) (looks body h (binding m var None))
          (subst (AllLooks (TestRight m i.next vars)) (looks_loop m h var range par body line last) (looks_first (TestRight m i.next vars) (looks_of loop_of h m) (looks xs (past_stmt loop_of h) m) i.known.tests));
    } where
      number_by : (b : Bool) (o : Option ℤ) (k : ℕ) → IfSome o (λ z. number vars k ≡ z) → IfSome (if b then None else o) (λ z. number vars k ≡ z)
      number_by true o k q = tt
      number_by false o k q = q

      free_by : (b : Bool) (o : Option ℤ) → o ≡ None → (if b then None else o) ≡ None
      free_by true o q = refl
      free_by false o q = q

    enters : (ctx : Context) (n n' : Run) → H ctx (loop_of ∷ xs) h vars r r' → Follows r r' → SameDone r n → SameDone r' n' → Turning ctx var body h vars (enter w (inside ctx var None) var par (worked_all w body h) vars r') (range_of set var).0 n n'
    enters ctx n n' i f a b =
        let bound = node.of_loop (List ℕ) bindings_step var range par body line last in
        let two = counts_split i.next (bindings_of loop_of) (bindings_of_all xs) i.counts in
        let counted : counts_from i.next (var ∷ bindings_of_all body) ≡ true = subst (λ (bs : List ℕ). counts_from i.next bs ≡ true) bound two.0 in
        let is : var ≡ i.next = equal c inputs fit wordy T var i.next (left (var == i.next) (counts_from (i.next + 1) (bindings_of_all body)) counted) in
        let long = length-append (bindings_of loop_of) (bindings_of_all xs) in
        let size = ap (λ (bs : List ℕ). length bs) bound in
        record {
          sc = i.sc;
          par = par;
          entry = r';
          loop_is = refl;
          entry_fits = also_fits set r r' f i.fits;
          named = sym (ap (λ (g : Scope → Bool). g i.sc) (node.of_loop (Scope → Bool) scope.stmt_step var range par body line last)) ∙ left (is_named loop_of i.sc) (are_named xs i.sc) i.named;
          counts = subst (λ (k : ℕ). counts_from (k + 1) (bindings_of_all body) ≡ true) (sym is) (right (var == i.next) (counts_from (i.next + 1) (bindings_of_all body)) counted);
          room = omega (arith, i.enough, long, size, is);
          below = λ k e. omega (arith, i.below k e, is);
          worded = loop_worded i.worded;
          numbers = i.numbers;
          fits = subst (StagesFit set) (sym a.stages) i.fits;
          good = subst AreWordy (sym a.stages) i.good;
          matches = subst (λ (z : Rest). Matches T z.reads) (at_loop Rest written_step var range par body line last h) (reads_first (λ q. T q.read ≡ (q.tensor, q.at)) (written loop_of h).reads (texts xs (past_stmt loop_of h)).reads i.matches);
          unnamed = unnamed_by ctx;
          known = known_same c inputs fit wordy T body h (around ctx var) i.sc.loops var vars r' n' b.stages (known_enter ctx i is);
          since = λ t q. same_readable c inputs fit wordy T t r' n' (ap (λ (ss : List Stage). frozen_in (stage_at ss t)) b.stages);
          lived = body_same c inputs (within_loop i.sc var) body r n a.stages (in_loop c inputs i.sc xs r var range par body line last i.lived);
        }

    nothing_at : (m : Marks) (k : ℕ) → H (Some m) (loop_of ∷ xs) h vars r r' → NothingAt w m var par body h vars r' k
    nothing_at m k i e =
        let loop = enter w (Some (binding m var None)) var par (worked_all w body h) vars r' in
        nothing_all_stays body (loop_worded i.worded) h (binding m var None) (marks_at loop vars (binding m var None) k)
        (words_at w wordy.fills (Some (binding m var None)) (binding m var None) var par (worked_all w body h) vars r' k (binding_words m var None tt i.known.words)) (further_at loop vars (binding m var None) k) e

  -- ---- all of it is carried
  pub carried : Carries w H Turning
  carried = record {
    good = step.held_good c inputs fit wordy T;
    work = step.held_work c inputs fit wordy T;
    next = λ ctx x xs h vars r r' i f g fx. step.held_next c inputs fit wordy T x xs h vars r r' ctx i g;
    block = λ ctx body line last xs h vars r r' i. step.held_block c inputs fit wordy T body line last xs h vars r r' ctx i;
    test = λ m test body line last xs h vars r r' i f can. step.held_test c inputs fit wordy T test body line last xs h vars r r' m i f can;
    cond = λ ctx test body line last xs h vars r r' i f can e. step.held_cond c inputs fit wordy T test body line last xs h vars r r' ctx i f can e;
    value = λ m var value body line last xs h vars r r' i f can. step.held_value c inputs fit wordy T var value body line last xs h vars r r' m i f can;
    bind = λ ctx var value body line last xs h vars r r' i f can. step.held_bind c inputs fit wordy T var value body line last xs h vars r r' ctx i f can;
    update = λ m t at by value line xs h vars r r' i f can. step.held_update c inputs fit wordy T t at by value line xs h vars r r' m i f can;
    asked = λ ctx var range par body line last xs h vars r r' i f. enterable c inputs i.sc var range body line last xs h r r' f (inside ctx var None) par i.lived;
    enter = λ ctx var range par body line last xs h vars r r' n n' i f a b. enters var range par body line last xs h vars r r' ctx n n' i f a b;
    nothing = λ m var range par body line last xs h vars r r' k i. nothing_at var range par body line last xs h vars r r' m k i;
    turn = λ ctx var body h vars e k r r' l f low high. at_turn ctx var body h vars e k r r' l high;
    onward = λ ctx var body h vars e k r r' begins l f low high g one. goes_on ctx var body h vars e k r r' begins l high g;
  }
