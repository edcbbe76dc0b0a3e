-- What is held of statements is held of those behind the first, and of the bodies in it.
use Rattle.std.proofs.Common.{◌≡◌, ◌≤◌, ◌+◌, ℕ, ℤ, pos, Bool, true, false, ◌&&◌, ◌||◌, List, ◌∷◌, ◌++◌, map, length, Option, Some, None, refl, sym, ap, ◌∙◌, subst, arith, if◌then◌else◌}
use Rattle.std.specs.Prelude.{IfSome, nat_eq, slice_set, ◌==◌}
use Rattle.std.specs.Option.{option_or}
use Rattle.std.specs.Ordering.{int_eq}
use Rattle.std.proofs.Math.ListN.{length-set}
use Rattle.std.proofs.lemmas.Bool.Decides.{nat_tests}
use Rattle.std.proofs.lemmas.List.{get_or-set_other, get_or-set_same, length-append}
use Rattle.fin_base.specs.Words.{IsWord}
use Rattle.fin_base.specs.declared.reduce.Reduce.{Reduce}
use Rattle.fin_tensor.specs.TensorFunction.{TensorFunction}
use Rattle.fin_tensor.specs.declared.storage.Storage.{Storage}
use Rattle.fin_ast.specs.declared.checked.Checked.{Checked}
use Rattle.fin_ast.specs.declared.tree.Index.{Index}
use Rattle.fin_ast.specs.declared.tree.Expr.{Expr}
use Rattle.fin_ast.specs.declared.tree.Stmt.{Stmt}
use Rattle.fin_ast.specs.declared.tree.Stmt.TheVariants as s
use Rattle.fin_ast.specs.Accepted.{FitProgram}
use Rattle.fin_ast.specs.Bindings.{bindings_step, bindings_of, bindings_of_all, counts_from}
use Rattle.fin_ast.specs.Literals.{is_worded, all_hold, worded_stmt_step, is_worded_stmt}
use Rattle.fin_ast.specs.Scope as scope
use Rattle.fin_ast.specs.Scope.{Scope, within_let, is_among, is_named_expr, is_access, is_named, are_named}
use Rattle.fin_ast.specs.Dense.{Setting, made_at, setting_of}
use Rattle.fin_ast.specs.Value.{Numbers, number, value_of}
use Rattle.fin_ast.proofs.Nodes as node
use Rattle.fin_stage.specs.Stages.{Stage, stage_at, frozen_in, function_in}
use Rattle.fin_stage.specs.Staged.{Run, regular, tensors_of, can_read, stage_of}
use Rattle.fin_stage.specs.Wordy.{IsWordTensor, IsWordy, AreWordy}
use Rattle.fin_stage.specs.Fitting.{StagesFit}
use Rattle.fin_stage.proofs.Alive.{left, right}
use Rattle.fin_stage.proofs.Fits.{stage_fits}
use Rattle.fin_stage.proofs.Small.{counts_split}
use Rattle.fin_stage.proofs.Wordy.{stage_wordy}
use Rattle.fin_simp.specs.Numbered.{Here, behind, behind_test, past_stmt}
use Rattle.fin_simp.specs.Left.{Marks, binding, fails, as_expr, left_of}
use Rattle.fin_simp.specs.Remaining.{literal_of, settled_literal, test_literal}
use Rattle.fin_simp.specs.Rest.{Access, Rest, rest_step, rest_of, expr_rest, test_rest, reads_of, written_step, written}
use Rattle.fin_simp.specs.Laws.{IsGood}
use Rattle.fin_simp.specs.Work.{World, Context, is_in, world_of, inside, literal_in, marks_within}
use Rattle.fin_simp.proofs.Equations.{at_block, at_cond, at_bind, at_update}
use Rattle.fin_simp.proofs.Literals.{rest_literal}
use Rattle.fin_simp.proofs.Mentions.{rests}
use Rattle.fin_simp.proofs.Staying.{binding_words, literal_is_word}
use Rattle.fin_simp.specs.Right.{right_expr}
use Rattle.fin_work.specs.Following.{Follows}
use Rattle.fin_work.proofs.Carrying.{worked_of, IsRight, IsRightTest}
use Rattle.fin_work.proofs.Changing.{quiet, free_append}
use Rattle.fin_work.proofs.Following.{SameDone}
use Rattle.fin_work.proofs.Holding.{Held, sees, reads_part, tests_part, right_here, number_of, chosen_back, let_back}
use Rattle.fin_work.proofs.Known.{Below, TestRight, Table, Matches, Known, literal_right, value_word, test_right, nothing_right}
use Rattle.fin_work.proofs.Lived.{lived_same, lived_next, begun, in_block, in_cond, in_bind}
use Rattle.fin_work.proofs.Looking.{looks_of, looks, AllLooks, looks_first, looks_second, looks_block, looks_cond, looks_bind}
use Rattle.fin_work.proofs.Numbering.{texts, reads_first, reads_second}
use Rattle.fin_work.proofs.Standing.{frozen_of, piece_keeps}

pub split_free : (t : ℕ) (xs ys : List ℕ) → is_in (xs ++ ys) t ≡ false → (is_in xs t ≡ false) × (is_in ys t ≡ false)
split_free t xs ys e = by (is_in xs t) (sym (free_append t xs ys) ∙ e) where
  by : (a : Bool) → (a || is_in ys t) ≡ false → (a ≡ false) × (is_in ys t ≡ false)
  by true e = cc
  by false e = (refl, e)

module _ (c : Checked) (inputs : List Storage) (fit : FitProgram c inputs) (wordy : IsWordy (setting_of c inputs)) (T : Table) where
  abbrev w : World
  w = world_of c inputs

  abbrev set : Setting
  set = setting_of c inputs

  abbrev H : Context → List Stmt → Here → Numbers → Run → Run → Type 0
  H = Held c inputs fit wordy T

  abbrev Match : Access → Type 0
  Match a = T a.read ≡ (a.tensor, a.at)

  pub same_readable : (t : ℕ) (r n : Run) → frozen_of t n ≡ frozen_of t r → tensors_of set n t ≡ tensors_of set r t
  same_readable t r n e = ap (option_or (made_at set.given t)) e

  -- ---- where the run is the same but for work
  pub known_same : (xs : List Stmt) (h : Here) (m : Marks) (loops : List ℕ) (n : ℕ) (vars : Numbers) (r r' : Run) → r'.stages ≡ r.stages → Known w T xs h m loops n vars r → Known w T xs h m loops n vars r'
  known_same xs h m loops n vars r r' e k = record {
    words = k.words;
    numbers = k.numbers;
    free = k.free;
    reads = reads_part c inputs fit wordy T xs xs h h m m loops n n vars vars r r' k (λ j. refl) (λ later b. b) (λ t f. (f, same_readable t r r' (ap (λ (ss : List Stage). frozen_in (stage_at ss t)) e)));
    tests = k.tests;
  }

  pub held_work : (ctx : Context) (xs : List Stmt) (h : Here) (vars : Numbers) (r r' n n' : Run) → H ctx xs h vars r r' → SameDone r n → SameDone r' n' → H ctx xs h vars n n'
  held_work ctx xs h vars r r' n n' i a b = record {
    sc = i.sc;
    next = i.next;
    named = i.named;
    counts = i.counts;
    enough = i.enough;
    below = i.below;
    worded = i.worded;
    numbers = i.numbers;
    fits = subst (StagesFit set) (sym a.stages) i.fits;
    good = subst AreWordy (sym a.stages) i.good;
    matches = i.matches;
    known = known_same xs h (marks_within ctx) i.sc.loops i.next vars r' n' b.stages i.known;
    lived = lived_same c inputs i.sc xs r n a.stages i.lived;
  }

  pub held_good : (ctx : Context) (xs : List Stmt) (h : Here) (vars : Numbers) (r r' : Run) → H ctx xs h vars r r' → (t : ℕ) → IfSome (function_in (stage_at r.stages t)) IsGood
  held_good ctx xs h vars r r' i t = by (function_in (stage_at r.stages t)) (i.good t) where
    by : (o : Option TensorFunction) → IfSome o IsWordTensor → IfSome o IsGood
    by None g = tt
    by (Some f) g = (g.tensor, g.fill)

  -- ---- behind a statement
  module _ (x : Stmt) (xs : List Stmt) (h : Here) (vars : Numbers) (r r' : Run) where
    worded_first : all_hold (map is_worded_stmt (x ∷ xs)) ≡ true → is_worded_stmt x ≡ true
    worded_first e = left (is_worded_stmt x) (all_hold (map is_worded_stmt xs)) e

    fewer_numbers : (n k : ℕ) (later : Numbers) → Below (n + k) vars later → Below n vars later
    fewer_numbers n k later b j lt = b j (omega (arith, lt))

    known_next : (ctx : Context) (loops : List ℕ) (n : ℕ) → all_hold (map is_worded_stmt (x ∷ xs)) ≡ true → Known w T (x ∷ xs) h (marks_within ctx) loops n vars r'
        → Known w T xs (past_stmt x h) (marks_within ctx) loops (n + length (bindings_of x)) vars ((worked_of w x h).run ctx vars r')
    known_next None loops n q k = nothing_right w T xs (past_stmt x h) loops (n + length (bindings_of x)) vars ((worked_of w x h).run None vars r')
    known_next (Some m) loops n q k = record {
      words = k.words;
      numbers = k.numbers;
      free = k.free;
      reads = reads_part c inputs fit wordy T (x ∷ xs) xs h (past_stmt x h) m m loops n (n + length (bindings_of x)) vars vars r' ((worked_of w x h).run (Some m) vars r') k (λ j. refl) (fewer_numbers n (length (bindings_of x)))
          (λ t f. let two = split_free t (rest_of x h m).changed (rests xs (past_stmt x h) m).changed f in
          (two.1, same_readable t r' ((worked_of w x h).run (Some m) vars r') (piece_keeps t w wordy.fills x (worded_first q) h m k.words two.0 vars r')));
      tests = tests_part c inputs fit wordy T m n (n + length (bindings_of x)) vars vars (fewer_numbers n (length (bindings_of x))) (looks xs (past_stmt x h) m)
          (looks_second (TestRight m n vars) (looks_of x h m) (looks xs (past_stmt x h) m) k.tests);
    }

    pub held_next : (ctx : Context) → H ctx (x ∷ xs) h vars r r' → regular (stage_of set x vars r) ≡ true → H ctx xs (past_stmt x h) vars (stage_of set x vars r) ((worked_of w x h).run ctx vars r')
    held_next ctx i g =
        let two = counts_split i.next (bindings_of x) (bindings_of_all xs) i.counts in
        let long = length-append (bindings_of x) (bindings_of_all xs) in
        record {
          sc = i.sc;
          next = i.next + length (bindings_of x);
          named = right (is_named x i.sc) (are_named xs i.sc) i.named;
          counts = two.1;
          enough = omega (arith, i.enough, long);
          below = λ k e. omega (arith, i.below k e);
          worded = right (is_worded_stmt x) (all_hold (map is_worded_stmt xs)) i.worded;
          numbers = i.numbers;
          fits = stage_fits set x vars r i.fits;
          good = stage_wordy set wordy x (worded_first i.worded) vars i.numbers r i.good;
          matches = reads_second Match (written x h).reads (texts xs (past_stmt x h)).reads i.matches;
          known = known_next ctx i.sc.loops i.next i.worded i.known;
          lived = lived_next c inputs i.sc x xs vars r i.named g i.lived;
        }

  -- ---- a block
  abbrev at_rest : Marks → (Marks → Rest) → Rest
  at_rest m f = f m

  abbrev by_scope : Scope → (Scope → Bool) → Bool
  by_scope sc f = f sc

  module _ (body : List Stmt) (line last : ℕ) (xs : List Stmt) (h : Here) (vars : Numbers) (r r' : Run) where
    abbrev x : Stmt
    x = s.Block body line last

    known_block : (ctx : Context) (loops : List ℕ) (n : ℕ) → Known w T (x ∷ xs) h (marks_within ctx) loops n vars r' → Known w T body h (marks_within ctx) loops n vars r'
    known_block None loops n k = nothing_right w T body h loops n vars r'
    known_block (Some m) loops n k = record {
      words = k.words;
      numbers = k.numbers;
      free = k.free;
      reads = reads_part c inputs fit wordy T (x ∷ xs) body h h m m loops n n vars vars r' r' k (λ j. refl) (λ later b. b)
          (λ t f. (subst (λ (z : Rest). is_in z.changed t ≡ false) (ap (at_rest m) (at_block (Marks → Rest) rest_step body line last h)) (split_free t (rest_of x h m).changed (rests xs (past_stmt x h) m).changed f).0, refl));
      tests = subst (AllLooks (TestRight m n vars)) (looks_block m h body line last) (looks_first (TestRight m n vars) (looks_of x h m) (looks xs (past_stmt x h) m) k.tests);
    }

    pub held_block : (ctx : Context) → H ctx (x ∷ xs) h vars r r' → H ctx body h vars r r'
    held_block ctx i =
        let bound = node.of_block (List ℕ) bindings_step body line last in
        let two = counts_split i.next (bindings_of x) (bindings_of_all xs) i.counts in
        let long = length-append (bindings_of x) (bindings_of_all xs) in
        record {
          sc = i.sc;
          next = i.next;
          named = sym (ap (by_scope i.sc) (node.of_block (Scope → Bool) scope.stmt_step body line last)) ∙ left (is_named x i.sc) (are_named xs i.sc) i.named;
          counts = subst (λ (bs : List ℕ). counts_from i.next bs ≡ true) bound two.0;
          enough = let size = ap (λ (bs : List ℕ). length bs) bound in omega (arith, i.enough, long, size);
          below = i.below;
          worded = sym (node.of_block Bool worded_stmt_step body line last) ∙ left (is_worded_stmt x) (all_hold (map is_worded_stmt xs)) i.worded;
          numbers = i.numbers;
          fits = i.fits;
          good = i.good;
          matches = subst (λ (z : Rest). Matches T z.reads) (at_block Rest written_step body line last h) (reads_first Match (written x h).reads (texts xs (past_stmt x h)).reads i.matches);
          known = known_block ctx i.sc.loops i.next i.known;
          lived = begun c inputs i.sc body r (in_block c inputs i.sc xs r body line last i.lived);
        }

  -- ---- an `if`
  module _ (test : Expr) (body : List Stmt) (line last : ℕ) (xs : List Stmt) (h : Here) (vars : Numbers) (r r' : Run) where
    abbrev tested : Stmt
    tested = s.Cond test body line last

    abbrev inner : Here
    inner = behind_test test h

    abbrev truth : ℤ
    truth = value_of test vars (tensors_of set r)

    module _ (ctx : Context) (i : H ctx (tested ∷ xs) h vars r r') where
      cond_named : (is_named_expr test i.sc && are_named body i.sc) ≡ true
      cond_named = sym (ap (by_scope i.sc) (node.of_cond (Scope → Bool) scope.stmt_step test body line last)) ∙ left (is_named tested i.sc) (are_named xs i.sc) i.named

      cond_worded : (is_worded test && all_hold (map is_worded_stmt body)) ≡ true
      cond_worded = sym (node.of_cond Bool worded_stmt_step test body line last) ∙ left (is_worded_stmt tested) (all_hold (map is_worded_stmt xs)) i.worded

      cond_matches : Matches T (reads_of test h.read ++ (texts body inner).reads)
      cond_matches = subst (λ (z : Rest). Matches T z.reads) (at_cond Rest written_step test body line last h) (reads_first Match (written tested h).reads (texts xs (past_stmt tested h)).reads i.matches)

      test_rights : Follows r r' → can_read test (tensors_of set r) ≡ true → right_expr test h.read (marks_within ctx) vars (tensors_of set r) ≡ true
      test_rights f can =
          right_here c inputs fit wordy T (tested ∷ xs) h (marks_within ctx) i.sc i.next vars r r' i.known i.fits f test (left (is_named_expr test i.sc) (are_named body i.sc) cond_named) can h.read
          (reads_first Match (reads_of test h.read) (texts body inner).reads cond_matches)

    pub held_test : (m : Marks) → H (Some m) (tested ∷ xs) h vars r r' → Follows r r' → can_read test (tensors_of set r) ≡ true → IsRightTest (test_literal test h m) truth
    held_test m i f can = test_right (m.tests h.test) (literal_of test h.read m) truth literal (mark (m.tests h.test) refl) where
      rights : right_expr test h.read m vars (tensors_of set r) ≡ true
      rights = test_rights (Some m) i f can

      word : is_worded test ≡ true
      word = left (is_worded test) (all_hold (map is_worded_stmt body)) (cond_worded (Some m) i)

      literal : IsRight (literal_of test h.read m) truth
      literal = literal_right vars (tensors_of set r) (sees c inputs fit wordy T vars r i.numbers i.good) test word h.read m i.known.words rights

      mark : (o : Option ℤ) → m.tests h.test ≡ o → IsRightTest o truth
      mark None e = tt
      mark (Some z) e =
          let seen = subst (AllLooks (TestRight m i.next vars)) (looks_cond m h test body line last) (looks_first (TestRight m i.next vars) (looks_of tested h m) (looks xs (past_stmt tested h) m) i.known.tests) in
          seen.0 z e vars (tensors_of set r) (λ k lt. refl) (sees c inputs fit wordy T vars r i.numbers i.good) word i.known.words rights

    not_fails : (o : Option ℤ) → IsRightTest o truth → int_eq truth (pos 0) ≡ false → fails o ≡ false
    not_fails None t e = refl
    not_fails (Some n) t e = t ∙ e

    known_cond : (ctx : Context) (i : H ctx (tested ∷ xs) h vars r r') → Follows r r' → can_read test (tensors_of set r) ≡ true → int_eq truth (pos 0) ≡ false → Known w T body inner (marks_within ctx) i.sc.loops i.next vars r'
    known_cond None i f can e = nothing_right w T body inner i.sc.loops i.next vars r'
    known_cond (Some m) i f can e = record {
      words = i.known.words;
      numbers = i.known.numbers;
      free = i.known.free;
      reads = reads_part c inputs fit wordy T (tested ∷ xs) body h inner m m i.sc.loops i.next i.next vars vars r' r' i.known (λ j. refl) (λ later b. b)
          (λ t k.
          let kept = subst (λ (z : Rest). is_in z.changed t ≡ false) (ap (at_rest m) (at_cond (Marks → Rest) rest_step test body line last h)) (split_free t (rest_of tested h m).changed (rests xs (past_stmt tested h) m).changed k).0 in
          let open_test = ap (λ (o : Option ℤ). fails (settled_literal (m.tests h.test) o)) (rest_literal test h.read m) ∙ not_fails (test_literal test h m) (held_test m i f can) e in
          (chosen_back t (test_rest test h m) (expr_rest test h.read m) (record { test = h.test; expr = as_expr (left_of test h.read m) }) (rests body inner m) open_test (quiet body inner m) kept, refl));
      tests = (subst (AllLooks (TestRight m i.next vars)) (looks_cond m h test body line last) (looks_first (TestRight m i.next vars) (looks_of tested h m) (looks xs (past_stmt tested h) m) i.known.tests)).1;
    }

    pub held_cond : (ctx : Context) → H ctx (tested ∷ xs) h vars r r' → Follows r r' → can_read test (tensors_of set r) ≡ true → int_eq truth (pos 0) ≡ false → H ctx body inner vars r r'
    held_cond ctx i f can e =
        let bound = node.of_cond (List ℕ) bindings_step test body line last in
        let two = counts_split i.next (bindings_of tested) (bindings_of_all xs) i.counts in
        let long = length-append (bindings_of tested) (bindings_of_all xs) in
        record {
          sc = i.sc;
          next = i.next;
          named = right (is_named_expr test i.sc) (are_named body i.sc) (cond_named ctx i);
          counts = subst (λ (bs : List ℕ). counts_from i.next bs ≡ true) bound two.0;
          enough = let size = ap (λ (bs : List ℕ). length bs) bound in omega (arith, i.enough, long, size);
          below = i.below;
          worded = right (is_worded test) (all_hold (map is_worded_stmt body)) (cond_worded ctx i);
          numbers = i.numbers;
          fits = i.fits;
          good = i.good;
          matches = reads_second Match (reads_of test h.read) (texts body inner).reads (cond_matches ctx i);
          known = known_cond ctx i f can e;
          lived = begun c inputs i.sc body r (in_cond c inputs i.sc xs r test body line last i.lived);
        }

  -- ---- an update
  module _ (u : ℕ) (at : List Index) (by : Reduce) (value : Expr) (line : ℕ) (xs : List Stmt) (h : Here) (vars : Numbers) (r r' : Run) where
    abbrev put : Stmt
    put = s.Update u at by value line

    pub held_update : (m : Marks) → H (Some m) (put ∷ xs) h vars r r' → Follows r r' → can_read value (tensors_of set r) ≡ true → IsRight (literal_of value h.read m) (value_of value vars (tensors_of set r))
    held_update m i f can =
        let names = sym (ap (by_scope i.sc) (node.of_update (Scope → Bool) scope.stmt_step u at by value line)) ∙ left (is_named put i.sc) (are_named xs i.sc) i.named in
        let word = sym (node.of_update Bool worded_stmt_step u at by value line) ∙ left (is_worded_stmt put) (all_hold (map is_worded_stmt xs)) i.worded in
        let reads = subst (λ (z : Rest). Matches T z.reads) (at_update Rest written_step u at by value line h) (reads_first Match (written put h).reads (texts xs (past_stmt put h)).reads i.matches) in
        let rights = right_here c inputs fit wordy T (put ∷ xs) h m i.sc i.next vars r r' i.known i.fits f value (right (is_access i.sc u at) (is_named_expr value i.sc) names) can h.read reads in
        literal_right vars (tensors_of set r) (sees c inputs fit wordy T vars r i.numbers i.good) value word h.read m i.known.words rights

  -- ---- a `let`
  pub equal : (a b : ℕ) → (a == b) ≡ true → a ≡ b
  equal a b e = grind (arith, nat_tests)

  module _ (var : ℕ) (value : Expr) (body : List Stmt) (line last : ℕ) (xs : List Stmt) (h : Here) (vars : Numbers) (r r' : Run) where
    abbrev let_of : Stmt
    let_of = s.Bind var value body line last

    abbrev after : Here
    after = behind value h

    abbrev v : ℤ
    v = value_of value vars (tensors_of set r)

    abbrev vars' : Numbers
    vars' = slice_set vars var v

    module _ (ctx : Context) (i : H ctx (let_of ∷ xs) h vars r r') where
      bind_named : (is_named_expr value i.sc && are_named body (within_let i.sc var)) ≡ true
      bind_named = sym (ap (by_scope i.sc) (node.of_bind (Scope → Bool) scope.stmt_step var value body line last)) ∙ left (is_named let_of i.sc) (are_named xs i.sc) i.named

      bind_worded : (is_worded value && all_hold (map is_worded_stmt body)) ≡ true
      bind_worded = sym (node.of_bind Bool worded_stmt_step var value body line last) ∙ left (is_worded_stmt let_of) (all_hold (map is_worded_stmt xs)) i.worded

      bind_matches : Matches T (reads_of value h.read ++ (texts body after).reads)
      bind_matches = subst (λ (z : Rest). Matches T z.reads) (at_bind Rest written_step var value body line last h) (reads_first Match (written let_of h).reads (texts xs (past_stmt let_of h)).reads i.matches)

      bind_counts : counts_from i.next (var ∷ bindings_of_all body) ≡ true
      bind_counts = subst (λ (bs : List ℕ). counts_from i.next bs ≡ true) (node.of_bind (List ℕ) bindings_step var value body line last) (counts_split i.next (bindings_of let_of) (bindings_of_all xs) i.counts).0

      var_is : var ≡ i.next
      var_is = equal var i.next (left (var == i.next) (counts_from (i.next + 1) (bindings_of_all body)) bind_counts)

      room : i.next + 1 + length (bindings_of_all body) ≤ length vars
      room =
          let long = length-append (bindings_of let_of) (bindings_of_all xs) in
          let size = ap (λ (bs : List ℕ). length bs) (node.of_bind (List ℕ) bindings_step var value body line last) in
          omega (arith, i.enough, long, size)

      value_rights : Follows r r' → can_read value (tensors_of set r) ≡ true → right_expr value h.read (marks_within ctx) vars (tensors_of set r) ≡ true
      value_rights f can =
          right_here c inputs fit wordy T (let_of ∷ xs) h (marks_within ctx) i.sc i.next vars r r' i.known i.fits f value (left (is_named_expr value i.sc) (are_named body (within_let i.sc var)) bind_named) can h.read
          (reads_first Match (reads_of value h.read) (texts body after).reads bind_matches)

      let_word : is_worded value ≡ true
      let_word = left (is_worded value) (all_hold (map is_worded_stmt body)) bind_worded

      outer_numbers : (later : Numbers) → Below (i.next + 1) vars' later → Below i.next vars later
      outer_numbers later b k lt = b k (omega (arith, lt)) ∙ get_or-set_other vars var k v (pos 0) (λ e. omega (arith, lt, e, var_is))

    pub held_value : (m : Marks) → H (Some m) (let_of ∷ xs) h vars r r' → Follows r r' → can_read value (tensors_of set r) ≡ true → IsRight (literal_of value h.read m) v
    held_value m i f can = literal_right vars (tensors_of set r) (sees c inputs fit wordy T vars r i.numbers i.good) value (let_word (Some m) i) h.read m i.known.words (value_rights (Some m) i f can)

    known_bind : (ctx : Context) (i : H ctx (let_of ∷ xs) h vars r r') → Follows r r' → can_read value (tensors_of set r) ≡ true
        → Known w T body after (marks_within (inside ctx var (literal_in ctx (literal_of value h.read)))) i.sc.loops (i.next + 1) vars' r'
    known_bind None i f can = nothing_right w T body after i.sc.loops (i.next + 1) vars' r'
    known_bind (Some m) i f can = record {
      words = binding_words m var o (literal_is_word value (let_word (Some m) i) h.read m i.known.words) i.known.words;
      numbers = λ k. number_by k (nat_eq k var) refl;
      free = λ k e. free_by k (nat_eq k var) refl e;
      reads = reads_part c inputs fit wordy T (let_of ∷ xs) body h after m (binding m var o) i.sc.loops i.next (i.next + 1) vars vars' r' r' i.known (λ j. refl) (outer_numbers (Some m) i)
          (λ t k.
          let ex = expr_rest value h.read m in
          let kept = subst (λ (z : Rest). is_in z.changed t ≡ false) (ap (at_rest m) (at_bind (Marks → Rest) rest_step var value body line last h)) (split_free t (rest_of let_of h m).changed (rests xs (past_stmt let_of h) m).changed k).0 in
          (subst (λ (p : Option ℤ). is_in (rests body after (binding m var p)).changed t ≡ false) (rest_literal value h.read m) (let_back t ex.literal ex (rests body after (binding m var ex.literal)) (quiet body after (binding m var ex.literal)) kept), refl));
      tests = tests_part c inputs fit wordy T m i.next (i.next + 1) vars vars' (outer_numbers (Some m) i) (looks body after (binding m var o))
          (subst (λ (p : Option ℤ). AllLooks (TestRight m i.next vars) (looks body after (binding m var p))) (rest_literal value h.read m)
          (subst (AllLooks (TestRight m i.next vars)) (looks_bind m h var value body line last) (looks_first (TestRight m i.next vars) (looks_of let_of h m) (looks xs (past_stmt let_of h) m) i.known.tests)));
    } where
      o : Option ℤ
      o = literal_of value h.read m

      own : (p : Option ℤ) → IsRight p v → (k : ℕ) → k ≡ var → IfSome p (λ z. number vars' k ≡ z)
      own None q k e = tt
      own (Some n) q k e = ap (number vars') e ∙ get_or-set_same vars var v (pos 0) (omega (arith, room (Some m) i, var_is (Some m) i)) ∙ sym q

      number_by : (k : ℕ) (b : Bool) → nat_eq k var ≡ b → IfSome (if b then o else m.vars k) (λ z. number vars' k ≡ z)
      number_by k true e = own o (held_value m i f can) k (grind (arith, nat_tests, e))
      number_by k false e = moved (m.vars k) (i.known.numbers k) where
        moved : (p : Option ℤ) → IfSome p (λ z. number vars k ≡ z) → IfSome p (λ z. number vars' k ≡ z)
        moved None q = tt
        moved (Some z) q = get_or-set_other vars var k v (pos 0) (λ same. grind (arith, nat_tests, e, same)) ∙ q

      free_by : (k : ℕ) (b : Bool) → nat_eq k var ≡ b → is_among i.sc.loops k ≡ true → (if b then o else m.vars k) ≡ None
      free_by k true e q = let lt = i.below k q in absurd (let same : k ≡ var = grind (arith, nat_tests, e) in omega (arith, lt, same, var_is (Some m) i))
      free_by k false e q = i.known.free k q

    pub held_bind : (ctx : Context) → H ctx (let_of ∷ xs) h vars r r' → Follows r r' → can_read value (tensors_of set r) ≡ true → H (inside ctx var (literal_in ctx (literal_of value h.read))) body after vars' r r'
    held_bind ctx i f can = record {
      sc = within_let i.sc var;
      next = i.next + 1;
      named = right (is_named_expr value i.sc) (are_named body (within_let i.sc var)) (bind_named ctx i);
      counts = right (var == i.next) (counts_from (i.next + 1) (bindings_of_all body)) (bind_counts ctx i);
      enough = let same = length-set vars var v in omega (arith, room ctx i, same);
      below = λ k e. omega (arith, i.below k e);
      worded = right (is_worded value) (all_hold (map is_worded_stmt body)) (bind_worded ctx i);
      numbers = number_of vars var v IsWord i.numbers (value_word vars (tensors_of set r) (sees c inputs fit wordy T vars r i.numbers i.good) value (let_word ctx i) h.read (marks_within ctx) i.known.words (value_rights ctx i f can));
      fits = i.fits;
      good = i.good;
      matches = reads_second Match (reads_of value h.read) (texts body after).reads (bind_matches ctx i);
      known = known_bind ctx i f can;
      lived = begun c inputs (within_let i.sc var) body r (in_bind c inputs i.sc xs r var value body line last i.lived);
    }
