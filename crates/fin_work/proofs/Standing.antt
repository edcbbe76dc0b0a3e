-- A run by pieces leaves what can be read of a tensor as it was, where what is left of the body doesn't change the tensor.
use Rattle.std.proofs.Common.{◌≡◌, ◌≢◌, ◌+◌, ℕ, zero, suc, ℤ, pos, Bool, true, false, ◌||◌, ◌&&◌, List, [], ◌∷◌, ◌++◌, map, Option, Some, None, refl, sym, ap, ◌∙◌, subst, inl, inr, ◌⊎◌, if◌then◌else◌, arith}
use Rattle.std.specs.Prelude.{IfSome, nat_eq, slice_set, filter_map, option_map}
use Rattle.std.specs.List.{cons_option}
use Rattle.std.specs.Option.{option_or}
use Rattle.std.specs.Ordering.{int_eq}
use Rattle.std.proofs.lemmas.Bool.Decides.{nat_tests}
use Rattle.fin_base.specs.Words.{IsWord}
use Rattle.fin_base.specs.declared.reduce.Reduce.{Reduce}
use Rattle.fin_tensor.specs.Building.{Building, follows}
use Rattle.fin_tensor.specs.TensorFunction.{TensorFunction}
use Rattle.fin_ast.specs.declared.tree.Index.{Index}
use Rattle.fin_ast.specs.declared.tree.Expr.{Expr}
use Rattle.fin_ast.specs.declared.tree.Stmt.{Stmt}
use Rattle.fin_ast.specs.declared.tree.Stmt.TheOpen.{Stmt-F}
use Rattle.fin_ast.specs.declared.tree.Stmt.TheVariants as s
use Rattle.fin_ast.specs.Value.{Numbers, place, coordinates, value_of}
use Rattle.fin_ast.specs.Literals.{is_worded, all_hold, worded_stmt_step, is_worded_stmt}
use Rattle.fin_ast.specs.Actions.{in_turn}
use Rattle.fin_ast.specs.Dense.{Setting, fill_of}
use Rattle.fin_ast.proofs.Nodes as node
use Rattle.fin_ast.proofs.Induction.{AllOf, Cases, by_kind, all_by_kind}
use Rattle.fin_stage.specs.Stages.{Stage, Absent, Built, Frozen, stage_at, frozen_in, kept}
use Rattle.fin_stage.specs.Staged.{Run, worked, with_stage, unalive, unordered, tensors_of, can_read, has_small_indices, asked_to_read, asked_for_small, are_small, is_made, declare, freeze_at, thaw_at, thaw, put_at, update_at, update}
use Rattle.fin_stage.proofs.Fits.{set_cases}
use Rattle.fin_simp.specs.Numbered.{Here, behind, behind_test, past_stmt}
use Rattle.fin_simp.specs.Left.{Marks, binding, fails, as_expr, left_of}
use Rattle.fin_simp.specs.Remaining.{literal_of, settled_literal, nothing_step, is_nothing, are_nothing}
use Rattle.fin_simp.specs.Rest.{Access, ExprRest, Test, Rest, is_none_kind, nothing, no_expr, within_kind, chosen_rest, let_rest, test_rest, expr_rest, rest_step, rest_of}
use Rattle.fin_simp.specs.Wording.{KnowsWords, StaysIn, Further}
use Rattle.fin_simp.specs.Work.{World, Context, Driven, Entered, Worked, work_step, is_in, driven_at, driven_by, gap_among, sight_of, marks_at, rests_in, all_fresh, can_be_entered, asked_to_enter, enter, entry_of, turn, turns, is_fixed, costing, first_share, ends_after, all_of, chosen, bound, done}
use Rattle.fin_simp.specs.Sights.{Sight, driven_index}
use Rattle.fin_simp.specs.Moving.{worked_all}
use Rattle.fin_simp.proofs.Equations.{at_block, at_loop, at_cond, at_bind, at_declare, at_freeze, at_thaw, at_update}
use Rattle.fin_simp.proofs.Literals.{rest_literal}
use Rattle.fin_simp.proofs.Mentions.{rests}
use Rattle.fin_simp.proofs.Resting.{rests_agree}
use Rattle.fin_simp.proofs.Staying.{left_true, right_true, literal_is_word, binding_words}
use Rattle.fin_work.proofs.Carrying.{worked_of}
use Rattle.fin_work.proofs.Changing.{fewer_changed, out_of_within}
use Rattle.fin_work.proofs.Running.{inside_piece}

-- ---- at a coordinate more is known, and it is words
known_more : (o p : Option ℤ) → StaysIn o (option_or o p)
known_more None p = tt
known_more (Some n) p = refl

still_known : (o : Option ℤ) → StaysIn o o
still_known None = tt
still_known (Some n) = refl

pub further_at : (e : Entered) (vars : Numbers) (m : Marks) (c : ℕ) → Further m (marks_at e vars m c)
further_at e vars m c = record {
  reads = λ k. known_more (m.reads k) (gap_among e.driven (sight_of vars e.var c) k);
  tests = λ k. known_more (m.tests k) _;
  vars = λ x. still_known (m.vars x);
}

abbrev pub FilledWords : List Driven → Type 0
FilledWords [] = Unit {0}
FilledWords (d ∷ ds) = IsWord d.fill × FilledWords ds

either_word : (b : Bool) (n : ℤ) (o : Option ℤ) → IsWord n → IfSome o IsWord → IfSome (if b then Some n else o) IsWord
either_word true n o h k = h
either_word false n o h k = k

gap_word : (ds : List Driven) (seen : Driven → Sight) (k : ℕ) → FilledWords ds → IfSome (gap_among ds seen k) IsWord
gap_word [] seen k h = tt
gap_word (d ∷ ds) seen k h = either_word (nat_eq d.read k && (seen d).gap) d.fill (gap_among ds seen k) h.0 (gap_word ds seen k h.1)

or_word : (o p : Option ℤ) → IfSome o IsWord → IfSome p IsWord → IfSome (option_or o p) IsWord
or_word None p h k = k
or_word (Some n) p h k = h

module _ (w : World) (fills : (t : ℕ) → IsWord (fill_of w.setting t)) where
  one_filled : (vars : Numbers) (r : Run) (changed : List ℕ) (a : Access) (o : Option (ℕ × Index)) (ds : List Driven) → FilledWords ds → FilledWords (cons_option (option_map (driven_at w vars r changed a) o) ds)
  one_filled vars r changed a None ds h = h
  one_filled vars r changed a (Some d) ds h = (fills a.tensor, h)

  all_filled : (vars : Numbers) (r : Run) (var : ℕ) (changed : List ℕ) (reads : List Access) → FilledWords (filter_map (λ (a : Access). option_map (driven_at w vars r changed a) (driven_index var a.at)) reads)
  all_filled vars r var changed [] = tt
  all_filled vars r var changed (a ∷ reads) = one_filled vars r changed a (driven_index var a.at) _ (all_filled vars r var changed reads)

  pub words_at : (ctx : Context) (m' : Marks) (var : ℕ) (par : Bool) (body : List Worked) (vars : Numbers) (r : Run) (c : ℕ) → KnowsWords m' → KnowsWords (marks_at (enter w ctx var par body vars r) vars m' c)
  words_at ctx m' var par body vars r c k = record {
    reads = λ j. or_word (m'.reads j) _ (k.reads j) (gap_word (driven_by w vars r var (rests_in ctx body)) _ j (all_filled vars r var (rests_in ctx body).changed (rests_in ctx body).reads));
    vars = k.vars;
  }

-- ---- what can be read of a tensor
frozen_kept : (before stages : List Stage) (t : ℕ) → frozen_in (stage_at stages t) ≡ frozen_in (stage_at before t) → frozen_in (stage_at (kept before stages) t) ≡ frozen_in (stage_at before t)
frozen_kept [] stages t e = e
frozen_kept (b ∷ before) [] t e = e
frozen_kept (Absent ∷ before) (x ∷ stages) zero e = refl
frozen_kept (Built b ∷ before) (x ∷ stages) zero e = e
frozen_kept (Frozen format f ∷ before) (x ∷ stages) zero e = e
frozen_kept (b ∷ before) (x ∷ stages) (suc t) e = frozen_kept before stages t e

module _ (t : ℕ) where
  abbrev pub frozen_of : Run → Option TensorFunction
  frozen_of r = frozen_in (stage_at r.stages t)

  abbrev Keeps : Run → Run → Type 0
  Keeps r n = frozen_of n ≡ frozen_of r

  free_both : (xs ys : List ℕ) → is_in (xs ++ ys) t ≡ false → (is_in xs t ≡ false) × (is_in ys t ≡ false)
  free_both [] ys e = (refl, e)
  free_both (x ∷ xs) ys e = by (nat_eq t x) e (free_both xs ys) where
    by : (b : Bool) → (b || is_in (xs ++ ys) t) ≡ false → (is_in (xs ++ ys) t ≡ false → (is_in xs t ≡ false) × (is_in ys t ≡ false)) → ((b || is_in xs t) ≡ false) × (is_in ys t ≡ false)
    by true e g = cc
    by false e g = g e

  -- another tensor's stage
  set_other : (u : ℕ) (x : Stage) (r : Run) → nat_eq t u ≡ false → Keeps r (with_stage u x r)
  set_other u x r h = by (set_cases r.stages u x t) where
    by : ((t ≡ u) × (stage_at (slice_set r.stages u x) t ≡ x)) ⊎ (stage_at (slice_set r.stages u x) t ≡ stage_at r.stages t) → Keeps r (with_stage u x r)
    by (inl e) = absurd (let q : t ≢ u = grind (arith, nat_tests) in q e.0)
    by (inr e) = ap frozen_in e

  set_same : (u : ℕ) (b b' : Building) (r : Run) → stage_at r.stages u ≡ Built b → Keeps r (with_stage u (Built b') r)
  set_same u b b' r is = by (set_cases r.stages u (Built b') t) where
    by : ((t ≡ u) × (stage_at (slice_set r.stages u (Built b')) t ≡ Built b')) ⊎ (stage_at (slice_set r.stages u (Built b')) t ≡ stage_at r.stages t) → Keeps r (with_stage u (Built b') r)
    by (inl e) = ap frozen_in e.1 ∙ sym (ap (λ (k : ℕ). frozen_in (stage_at r.stages k)) e.0 ∙ ap frozen_in is)
    by (inr e) = ap frozen_in e

  either : (b : Bool) (r x y : Run) → Keeps r x → Keeps r y → Keeps r (if b then x else y)
  either true r x y p q = p
  either false r x y p q = q

  module _ (w : World) where
    abbrev set : Setting
    set = w.setting

    declare_keeps : (u : ℕ) (r : Run) → nat_eq t u ≡ false → Keeps r (declare set u r)
    declare_keeps u r h = either (is_made set u) r _ (unalive r) (set_other u _ r h) refl

    freeze_keeps : (u : ℕ) (x : Stage) (r : Run) → nat_eq t u ≡ false → Keeps r (freeze_at u x r)
    freeze_keeps u Absent r h = refl
    freeze_keeps u (Built b) r h = set_other u _ r h
    freeze_keeps u (Frozen format f) r h = refl

    thaw_at_keeps : (u : ℕ) (x : Stage) (r : Run) → nat_eq t u ≡ false → Keeps r (thaw_at u x r)
    thaw_at_keeps u Absent r h = refl
    thaw_at_keeps u (Built b) r h = refl
    thaw_at_keeps u (Frozen format f) r h = set_other u _ r h

    thaw_keeps : (u : ℕ) (r : Run) → nat_eq t u ≡ false → Keeps r (thaw set u r)
    thaw_keeps u r h = either (is_made set u) r _ (unalive r) (thaw_at_keeps u (stage_at r.stages u) r h) refl

    put_keeps : (u : ℕ) (b : Building) (o : Option (List ℕ)) (by : Reduce) (v : ℤ) (r : Run) → stage_at r.stages u ≡ Built b → Keeps r (put_at u b o by v r)
    put_keeps u b None by v r is = refl
    put_keeps u b (Some cs) by v r is = either (follows b cs) r _ (unordered r) (set_same u b _ r is) refl

    update_at_keeps : (u : ℕ) (x : Stage) (at : List ℤ) (by : Reduce) (v : ℤ) (r : Run) → stage_at r.stages u ≡ x → Keeps r (update_at u x at by v r)
    update_at_keeps u Absent at by v r is = refl
    update_at_keeps u (Built b) at by v r is = put_keeps u b (coordinates b.function.shape at) by v r is
    update_at_keeps u (Frozen format f) at by v r is = refl

    update_keeps : (u : ℕ) (at : List ℤ) (by : Reduce) (v : ℤ) (r : Run) → Keeps r (update set u at by v r)
    update_keeps u at by v r = either (is_made set u) r _ (unalive r) (update_at_keeps u (stage_at r.stages u) at by v r refl) refl

    small_keeps : (b : Bool) (r : Run) → Keeps r (asked_for_small b r)
    small_keeps true r = refl
    small_keeps false r = refl

    read_keeps : (b : Bool) (r : Run) → Keeps r (asked_to_read b r)
    read_keeps true r = refl
    read_keeps false r = refl

    asked_keeps : (e : Expr) (vars : Numbers) (r : Run) → Keeps r (asked_for_small (has_small_indices e vars) (asked_to_read (can_read e (tensors_of set r)) r))
    asked_keeps e vars r = small_keeps (has_small_indices e vars) (asked_to_read (can_read e (tensors_of set r)) r) ∙ read_keeps (can_read e (tensors_of set r)) r

    -- ---- statements by pieces
    module _ (fills : (u : ℕ) → IsWord (fill_of w.setting u)) where
      abbrev Free : Rest → Type 0
      Free r = is_in r.changed t ≡ false

      abbrev Stays : Stmt → Type 0
      Stays x = is_worded_stmt x ≡ true → (h : Here) (m : Marks) → KnowsWords m → Free (rest_of x h m) → (vars : Numbers) (r : Run) → Keeps r ((worked_of w x h).run (Some m) vars r)

      body_keeps : (body : List Stmt) → AllOf Stays body → all_hold (map is_worded_stmt body) ≡ true → (h : Here) (m : Marks) → KnowsWords m → Free (rests body h m) → (vars : Numbers) (r : Run)
          → Keeps r (in_turn (map (λ (z : Worked). z.run (Some m)) (worked_all w body h)) vars r)
      body_keeps [] all q h m k f vars r = refl
      body_keeps (x ∷ xs) all q h m k f vars r =
          let n = (worked_of w x h).run (Some m) vars r in
          let two = free_both (rest_of x h m).changed (rests xs (past_stmt x h) m).changed f in
          body_keeps xs all.1 (right_true (is_worded_stmt x) (all_hold (map is_worded_stmt xs)) q) (past_stmt x h) m k two.1 vars n ∙ all.0 (left_true (is_worded_stmt x) (all_hold (map is_worded_stmt xs)) q) h m k two.0 vars r

      all_of_keeps : (body : List Stmt) → AllOf Stays body → all_hold (map is_worded_stmt body) ≡ true → (h : Here) (m : Marks) → KnowsWords m → Free (rests body h m) → (vars : Numbers) (r : Run) → Keeps r (all_of (worked_all w body h) (Some m) vars r)
      all_of_keeps body all q h m k f vars r = frozen_kept r.stages _ t (body_keeps body all q h m k f vars r)

      -- ---- by kinds
      as_done : (x : Stmt) (h : Here) (y : Stmt-F Worked) → worked_of w x h ≡ work_step w h y → (m : Marks) (vars : Numbers) (r : Run) → (is_nothing x h m ≡ false → Keeps r (done w h y (Some m) vars r)) → Keeps r ((worked_of w x h).run (Some m) vars r)
      as_done x h y is m vars r p = inside_piece w x h y is vars r (Keeps r) m (λ e. refl) p

      abbrev at_rest : Marks → (Marks → Rest) → Rest
      at_rest m f = f m

      abbrev at_marks : Marks → (Marks → Bool) → Bool
      at_marks m f = f m

      moved : (x y : Rest) → x ≡ y → Free x → Free y
      moved x y e f = subst Free e f

      -- a loop
      module _ (var : ℕ) (par : Bool) (body : List Stmt) (all : AllOf Stays body) (q : all_hold (map is_worded_stmt body) ≡ true) (h : Here) (m : Marks) (k : KnowsWords m) (vars : Numbers) (r0 : Run) (free : Free (rests body h (binding m var None))) where
        abbrev loop : Entered
        loop = enter w (Some (binding m var None)) var par (worked_all w body h) vars r0

        abbrev known : ℕ → Marks
        known c = marks_at loop vars (binding m var None) c

        abbrev one : Bool → ℕ → Run → Run
        one = turn loop (λ n. rests_in (Some n) (worked_all w body h)) (λ n. all_of (worked_all w body h) (Some n)) (binding m var None) vars

        at_turn : (c : ℕ) (r : Run) → Keeps r (all_of (worked_all w body h) (Some (known c)) (slice_set vars var (pos c)) r)
        at_turn c r =
            let words = words_at w fills (Some (binding m var None)) (binding m var None) var par (worked_all w body h) vars r0 c (binding_words m var None tt k) in
            all_of_keeps body all q h (known c) words (fewer_changed t body q h (binding m var None) (known c) words (further_at loop vars (binding m var None) c) free) (slice_set vars var (pos c)) r

        turn_keeps : (begins : Bool) (c : ℕ) (r : Run) → Keeps r (one begins c r)
        turn_keeps begins c r =
            let inner = slice_set vars var (pos c) in
            let body_at = all_of (worked_all w body h) (Some (known c)) inner in
            either (is_none_kind (rests_in (Some (known c)) (worked_all w body h)).kind) r r _ refl
            (either (is_fixed loop vars (rests_in (Some (known c)) (worked_all w body h)) c) r (costing (first_share begins) r (body_at r)) (body_at (worked 1 r)) (at_turn c r) (at_turn c (worked 1 r)))

        turns_keep : (n : ℕ) (begins : Bool) (c : ℕ) (r : Run) → Keeps r (turns one (ends_after loop vars) n begins c r)
        turns_keep zero begins c r = refl
        turns_keep (suc n) begins c r = turns_keep n (ends_after loop vars c) (c + 1) (one begins c r) ∙ turn_keeps begins c r

      -- what is left of an `if` or `let` that isn't nothing changes what its body changes
      free_chosen : (o : Option ℤ) (e : ExprRest) (test : Test) (r : Rest) (none : Bool) → is_none_kind r.kind ≡ none → (fails o || none) ≡ false → Free (chosen_rest o e test r) → Free r
      free_chosen None e test r none k z f = out_of_within t r.kind e (test ∷ []) r (k ∙ z) f
      free_chosen (Some n) e test r none k z f = moved _ r (ap (λ (b : Bool). if b then nothing else r) (first_false (int_eq n (pos 0)) none z)) f where
        first_false : (a b : Bool) → (a || b) ≡ false → a ≡ false
        first_false true b h = cc
        first_false false b h = refl

      free_let : (o : Option ℤ) (e : ExprRest) (r : Rest) → is_none_kind r.kind ≡ false → Free (let_rest o e r) → Free r
      free_let None e r k f = out_of_within t r.kind e [] r k f
      free_let (Some n) e r k f = f

      module _ (body : List Stmt) (all : AllOf Stays body) (q : all_hold (map is_worded_stmt body) ≡ true) (h : Here) (m : Marks) (k : KnowsWords m) (free : Free (rests body h m)) where
        abbrev inner_run : Numbers → Run → Run
        inner_run = all_of (worked_all w body h) (Some m)

        chosen_keeps : (o : Option ℤ) (test : Expr) (vars : Numbers) (r : Run) → Keeps r (chosen set o test inner_run vars r)
        chosen_keeps (Some n) test vars r = all_of_keeps body all q h m k free vars r
        chosen_keeps None test vars r =
            let ready = asked_for_small (has_small_indices test vars) (asked_to_read (can_read test (tensors_of set r)) (worked 1 r)) in
            either (int_eq (value_of test vars (tensors_of set r)) (pos 0)) r ready (inner_run vars ready) (asked_keeps test vars (worked 1 r))
            (all_of_keeps body all q h m k free vars ready ∙ asked_keeps test vars (worked 1 r))

        bound_keeps : (o : Option ℤ) (var : ℕ) (value : Expr) (vars : Numbers) (r : Run) → Keeps r (bound set o var value inner_run vars r)
        bound_keeps (Some n) var value vars r = all_of_keeps body all q h m k free (slice_set vars var n) r
        bound_keeps None var value vars r =
            let ready = asked_for_small (has_small_indices value vars) (asked_to_read (can_read value (tensors_of set r)) (worked 1 r)) in
            all_of_keeps body all q h m k free (slice_set vars var (value_of value vars (tensors_of set r))) ready ∙ asked_keeps value vars (worked 1 r)

      alone : (u : ℕ) → is_in (u ∷ []) t ≡ false → nat_eq t u ≡ false
      alone u e = by (nat_eq t u) e where
        by : (b : Bool) → (b || false) ≡ false → b ≡ false
        by true e = e
        by false e = e

      stays_cases : Cases Stays
      stays_cases = record {
        block = λ body line last all q h m k f vars r.
            as_done (s.Block body line last) h (Stmt-F.Block (worked_all w body h) line last) (at_block Worked (work_step w) body line last h) m vars r
            (λ z. all_of_keeps body all (sym (node.of_block Bool worded_stmt_step body line last) ∙ q) h m k (moved _ (rests body h m) (ap (at_rest m) (at_block (Marks → Rest) rest_step body line last h)) f) vars r);
        loop = λ var range par body line last all q h m k f vars r.
            let r1 = rests body h (binding m var None) in
            as_done (s.Loop var range par body line last) h (Stmt-F.Loop var range par (worked_all w body h) line last) (at_loop Worked (work_step w) var range par body line last h) m vars r
            (λ z.
            let some = rests_agree body h (binding m var None) ∙ sym (ap (at_marks m) (at_loop (Marks → Bool) nothing_step var range par body line last h)) ∙ z in
            let free = out_of_within t r1.kind no_expr [] r1 some (moved _ (within_kind r1.kind no_expr [] r1) (ap (at_rest m) (at_loop (Marks → Rest) rest_step var range par body line last h)) f) in
            let parts = worked_all w body h in
            let inner = Some (binding m var None) in
            let e = enter w inner var par parts vars r in
            turns_keep var par body all (sym (node.of_loop Bool worded_stmt_step var range par body line last) ∙ q) h m k vars r free e.len true e.lo (worked (entry_of e) (asked_to_enter w inner par parts r))
            ∙ read_keeps (can_be_entered w par (all_fresh parts) (rests_in inner parts) r) r);
        cond = λ test body line last all q h m k f vars r.
            let inner = behind_test test h in
            let both = sym (node.of_cond Bool worded_stmt_step test body line last) ∙ q in
            let qb = right_true (is_worded test) (all_hold (map is_worded_stmt body)) both in
            let r1 = rests body inner m in
            as_done (s.Cond test body line last) h (Stmt-F.Cond test (worked_all w body inner) line last) (at_cond Worked (work_step w) test body line last h) m vars r
            (λ z.
            let open_test = ap (λ (o : Option ℤ). fails (settled_literal (m.tests h.test) o) || are_nothing body inner m) (rest_literal test h.read m) ∙ sym (ap (at_marks m) (at_cond (Marks → Bool) nothing_step test body line last h)) ∙ z in
            let free = free_chosen (test_rest test h m) (expr_rest test h.read m) (record { test = h.test; expr = as_expr (left_of test h.read m) }) r1 (are_nothing body inner m) (rests_agree body inner m) open_test
            (moved _ _ (ap (at_rest m) (at_cond (Marks → Rest) rest_step test body line last h)) f) in
            chosen_keeps body all qb inner m k free (test_rest test h m) test vars r);
        bind = λ var value body line last all q h m k f vars r.
            let inner = behind value h in
            let both = sym (node.of_bind Bool worded_stmt_step var value body line last) ∙ q in
            let qv = left_true (is_worded value) (all_hold (map is_worded_stmt body)) both in
            let qb = right_true (is_worded value) (all_hold (map is_worded_stmt body)) both in
            let o = (expr_rest value h.read m).literal in
            let n = binding m var o in
            let words = subst (λ (p : Option ℤ). KnowsWords (binding m var p)) (sym (rest_literal value h.read m)) (binding_words m var (literal_of value h.read m) (literal_is_word value qv h.read m k) k) in
            as_done (s.Bind var value body line last) h (Stmt-F.Bind var value (worked_all w body inner) line last) (at_bind Worked (work_step w) var value body line last h) m vars r
            (λ z.
            let some = rests_agree body inner n ∙ ap (λ (p : Option ℤ). are_nothing body inner (binding m var p)) (rest_literal value h.read m) ∙ sym (ap (at_marks m) (at_bind (Marks → Bool) nothing_step var value body line last h)) ∙ z in
            bound_keeps body all qb inner n words (free_let o (expr_rest value h.read m) (rests body inner n) some (moved _ _ (ap (at_rest m) (at_bind (Marks → Rest) rest_step var value body line last h)) f)) o var value vars r);
        declare = λ u value line q h m k f vars r.
            as_done (s.Declare u value line) h (Stmt-F.Declare u value line) (at_declare Worked (work_step w) u value line h) m vars r (λ z. declare_keeps u r (alone u (moved _ _ (ap (at_rest m) (at_declare (Marks → Rest) rest_step u value line h)) f)));
        freeze = λ u line q h m k f vars r.
            as_done (s.Freeze u line) h (Stmt-F.Freeze u line) (at_freeze Worked (work_step w) u line h) m vars r (λ z. freeze_keeps u (stage_at r.stages u) r (alone u (moved _ _ (ap (at_rest m) (at_freeze (Marks → Rest) rest_step u line h)) f)));
        thaw = λ u line q h m k f vars r.
            as_done (s.Thaw u line) h (Stmt-F.Thaw u line) (at_thaw Worked (work_step w) u line h) m vars r (λ z. thaw_keeps u r (alone u (moved _ _ (ap (at_rest m) (at_thaw (Marks → Rest) rest_step u line h)) f)));
        update = λ u at by value line q h m k f vars r.
            as_done (s.Update u at by value line) h (Stmt-F.Update u at by value line) (at_update Worked (work_step w) u at by value line h) m vars r
            (λ z.
            let ready = asked_for_small (has_small_indices value vars) (asked_to_read (can_read value (tensors_of set r)) r) in
            update_keeps u (map (place vars) at) by (value_of value vars (tensors_of set r)) (asked_for_small (are_small vars at) ready) ∙ small_keeps (are_small vars at) ready ∙ asked_keeps value vars r);
      }

      pub piece_keeps : (x : Stmt) → Stays x
      piece_keeps = by_kind Stays stays_cases

      pub pieces_keep : (body : List Stmt) → all_hold (map is_worded_stmt body) ≡ true → (h : Here) (m : Marks) → KnowsWords m → Free (rests body h m) → (vars : Numbers) (r : Run) → Keeps r (all_of (worked_all w body h) (Some m) vars r)
      pieces_keep body = all_of_keeps body (all_by_kind Stays stays_cases body)
