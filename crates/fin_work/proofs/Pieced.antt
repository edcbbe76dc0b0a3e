-- The run by pieces follows the run by stages, where what is carried through the run holds at its outset.
use Rattle.std.proofs.Common.{◌≡◌, ◌<◌, ◌≤◌, ◌+◌, ◌-◌, ℕ, zero, suc, ℤ, pos, Bool, true, false, ◌||◌, List, [], ◌∷◌, map, Option, Some, None, refl, sym, ap, ◌∙◌, subst, arith, if◌then◌else◌}
use Rattle.std.specs.Prelude.{IfSome, slice_set}
use Rattle.std.specs.Ordering.{int_eq}
use Rattle.fin_base.specs.Words.{identity}
use Rattle.fin_base.specs.declared.reduce.Reduce.{Reduce}
use Rattle.fin_tensor.specs.TensorFunction.{TensorFunction}
use Rattle.fin_ast.specs.declared.tree.Index.{Index}
use Rattle.fin_ast.specs.declared.tree.Expr.{Expr}
use Rattle.fin_ast.specs.declared.tree.Stmt.{Stmt}
use Rattle.fin_ast.specs.declared.tree.Stmt.TheOpen.{Stmt-F}
use Rattle.fin_ast.specs.declared.tree.Stmt.TheVariants as s
use Rattle.fin_ast.specs.Value.{Numbers, place, value_of}
use Rattle.fin_ast.specs.Actions.{Leaf, Declare, Freeze, Thaw, Update, in_turn, where_holds, where_bound}
use Rattle.fin_ast.specs.Dense.{Setting, range_of}
use Rattle.fin_ast.proofs.Acting.{act_block, act_loop, act_cond, act_bind, act_declare, act_freeze, act_thaw, act_update}
use Rattle.fin_ast.proofs.Induction.{AllOf, Cases, all_by_kind}
use Rattle.fin_ast.proofs.InBox.{in_box}
use Rattle.fin_stage.specs.Stages.{stage_at, function_in}
use Rattle.fin_stage.specs.Staged.{Run, Action, worked, regular, tensors_of, can_read, asked_to_read, asked_for_small, are_small, braced, repeated, update, leaf, staging, stage_of, stage_all}
use Rattle.fin_stage.specs.Trailing.{skipped, ChangesNothing}
use Rattle.fin_stage.proofs.Onward.{Onward, onward_then, braced_goes_on, repeated_goes_on, all_go_on, Goes, small_goes_on, update_goes_on}
use Rattle.fin_stage.proofs.Trailing.{regular_before, skip_trails}
use Rattle.fin_simp.specs.Numbered.{Here, behind, behind_test, past_stmt}
use Rattle.fin_simp.specs.Left.{Marks, binding, fails}
use Rattle.fin_simp.specs.Simplified.{is_some_number}
use Rattle.fin_simp.specs.Remaining.{literal_of, settled_literal, test_literal, is_identity_literal, nothing_step, is_nothing, are_nothing}
use Rattle.fin_simp.specs.Rest.{Rest, is_none_kind, expr_rest, test_rest}
use Rattle.fin_simp.specs.Laws.{IsGood}
use Rattle.fin_simp.specs.Work.{World, Context, Worked, Entered, work_step, rests_in, asked_to_enter, all_of, enter, entry_of, turns, is_fixed, costing, first_share, inside, marks_within, marks_at, ends_after, literal_in, chosen, bound, done}
use Rattle.fin_simp.specs.Moving.{worked_all}
use Rattle.fin_simp.proofs.Equations.{at_block, at_loop, at_cond, at_bind, at_declare, at_freeze, at_thaw, at_update}
use Rattle.fin_simp.proofs.Literals.{same_number, rest_literal}
use Rattle.fin_simp.proofs.Worth.{unchanged}
use Rattle.fin_work.specs.Following.{Follows}
use Rattle.fin_work.proofs.Following.{at_work, SameDone, to_trails, from_trails, follows_same, same_follows, leaf_follows, same_tensors, closed_follows, closed_skips}
use Rattle.fin_work.proofs.Carrying.{worked_of, Carried, Looping, turned, pieced_turn, IsRight, IsRightTest, Carries}
use Rattle.fin_work.proofs.Running.{nothing_are, nothing_runs}
use Rattle.fin_work.proofs.Asking.{small_still, paid, unpaid, all_same, where_goes, Valued, valued, also_valued, piece, at_marks}

module _ (w : World) (I : Carried) (L : Looping) (carries : Carries w I L) where
  abbrev set' : Setting
  set' = w.setting

  abbrev PieceFollows : Stmt → Type 0
  PieceFollows x = (ctx : Context) (xs : List Stmt) (h : Here) (vars : Numbers) (r r' : Run) → I ctx (x ∷ xs) h vars r r' → Follows r r' → regular (stage_of set' x vars r) ≡ true
      → Follows (stage_of set' x vars r) ((worked_of w x h).run ctx vars r')

  abbrev runs : Context → List Stmt → Here → Action
  runs ctx body h = in_turn (map (λ (z : Worked). z.run ctx) (worked_all w body h))

  -- ---- bodies
  body_follows : (body : List Stmt) → AllOf PieceFollows body → (ctx : Context) (h : Here) (vars : Numbers) (r r' : Run) → I ctx body h vars r r' → Follows r r' → regular (stage_all set' body vars r) ≡ true
      → Follows (stage_all set' body vars r) (runs ctx body h vars r')
  body_follows [] all ctx h vars r r' i f g = f
  body_follows (x ∷ xs) all ctx h vars r r' i f g =
      let n = stage_of set' x vars r in
      let before = regular_before n (stage_all set' xs vars n) (all_go_on set' xs vars n) g in
      let fx = all.0 ctx xs h vars r r' i f before in
      body_follows xs all.1 ctx (past_stmt x h) vars n ((worked_of w x h).run ctx vars r') (carries.next ctx x xs h vars r r' i f before fx) fx g

  module _ (body : List Stmt) (all : AllOf PieceFollows body) (h : Here) (vars : Numbers) (r r' : Run) where
    abbrev by_stages : Run
    by_stages = braced (stage_all set' body) vars r

    abbrev behind_all : Run
    behind_all = stage_all set' body vars r

    braced_follows : (ctx : Context) → I ctx body h vars r r' → Follows r r' → regular by_stages ≡ true → Follows by_stages (all_of (worked_all w body h) ctx vars r')
    braced_follows ctx i f g = closed_follows r r' behind_all (runs ctx body h vars r') (sym (Onward.long (all_go_on set' body vars r))) f (body_follows body all ctx h vars r r' i f g)

    braced_skips : (m : Marks) → I (Some m) body h vars r r' → Follows r r' → are_nothing body h m ≡ true → regular by_stages ≡ true → Follows by_stages r'
    braced_skips m i f e g =
        closed_skips r behind_all r' (sym (Onward.long (all_go_on set' body vars r))) f (subst (Follows behind_all) (nothing_runs w body h m e vars r') (body_follows body all (Some m) h vars r r' i f g))

  -- ---- blocks
  block_follows : (body : List Stmt) (line last : ℕ) → AllOf PieceFollows body → PieceFollows (s.Block body line last)
  block_follows body line last all ctx xs h vars r r' i f g =
      let x = s.Block body line last in
      let is = act_block (staging set') vars r body line last in
      let g' = sym (ap regular is) ∙ g in
      let i' = carries.block ctx body line last xs h vars r r' i in
      subst (λ (n : Run). Follows n ((worked_of w x h).run ctx vars r')) (sym is)
      (piece w x h (Stmt-F.Block (worked_all w body h) line last) (at_block Worked (work_step w) body line last h) ctx vars r' (braced (stage_all set' body) vars r)
      (λ m k e. braced_skips body all h vars r r' m (subst (λ (o : Context). I o body h vars r r') k i') f (sym (ap (at_marks w m) (at_block (Marks → Bool) nothing_step body line last h)) ∙ e) g')
      (λ q. braced_follows body all h vars r r' ctx i' f g'))

  -- ---- leaves that are always done
  leaf_done : (x : Stmt) (l : Leaf) (y : Stmt-F Worked) (h : Here) → worked_of w x h ≡ work_step w h y → ((ctx : Context) (vars : Numbers) (r' : Run) → done w h y ctx vars r' ≡ leaf set' l vars r') → ((m : Marks) → is_nothing x h m ≡ false)
      → ((vars : Numbers) (r : Run) → stage_of set' x vars r ≡ leaf set' l vars r) → (ctx : Context) (vars : Numbers) (r r' : Run) → Follows r r' → regular (stage_of set' x vars r) ≡ true → Follows (stage_of set' x vars r) ((worked_of w x h).run ctx vars r')
  leaf_done x l y h is goes never same ctx vars r r' f g =
      subst (λ (n : Run). Follows n ((worked_of w x h).run ctx vars r')) (sym (same vars r))
      (piece w x h y is ctx vars r' (leaf set' l vars r) (λ m k e. absurd (let z : false ≡ true = sym (never m) ∙ e in cc))
      (λ q. subst (Follows (leaf set' l vars r)) (sym (goes ctx vars r')) (leaf_follows set' l vars r r' f (sym (ap regular (same vars r)) ∙ g))))

  declare_follows : (t : ℕ) (value : ℤ) (line : ℕ) → PieceFollows (s.Declare t value line)
  declare_follows t value line ctx xs h vars r r' i f g =
      leaf_done (s.Declare t value line) (Declare t) (Stmt-F.Declare t value line) h (at_declare Worked (work_step w) t value line h) (λ c v n. refl) (λ m. ap (at_marks w m) (at_declare (Marks → Bool) nothing_step t value line h))
      (λ v n. act_declare (staging set') v n t value line) ctx vars r r' f g

  freeze_follows : (t line : ℕ) → PieceFollows (s.Freeze t line)
  freeze_follows t line ctx xs h vars r r' i f g =
      leaf_done (s.Freeze t line) (Freeze t) (Stmt-F.Freeze t line) h (at_freeze Worked (work_step w) t line h) (λ c v n. refl) (λ m. ap (at_marks w m) (at_freeze (Marks → Bool) nothing_step t line h))
      (λ v n. act_freeze (staging set') v n t line) ctx vars r r' f g

  thaw_follows : (t line : ℕ) → PieceFollows (s.Thaw t line)
  thaw_follows t line ctx xs h vars r r' i f g =
      leaf_done (s.Thaw t line) (Thaw t) (Stmt-F.Thaw t line) h (at_thaw Worked (work_step w) t line h) (λ c v n. refl) (λ m. ap (at_marks w m) (at_thaw (Marks → Bool) nothing_step t line h))
      (λ v n. act_thaw (staging set') v n t line) ctx vars r r' f g

  -- ---- updates
  module _ (t : ℕ) (at : List Index) (by : Reduce) (value : Expr) (line : ℕ) (h : Here) (vars : Numbers) (r r' : Run) (f : Follows r r') where
    abbrev own : Leaf
    own = Update t at by value

    abbrev places : List ℤ
    places = map (place vars) at

    abbrev v : ℤ
    v = value_of value vars (tensors_of set' r)

    abbrev put : ℤ → Run → Run
    put z x = update set' t places by z (asked_for_small (are_small vars at) x)

    put_goes : (z : ℤ) → Goes set' (put z)
    put_goes z x = onward_then x (asked_for_small (are_small vars at) x) (put z x) (small_goes_on (are_small vars at) x) (update_goes_on set' t places by z (asked_for_small (are_small vars at) x))

    module _ (good : IfSome (function_in (stage_at r.stages t)) IsGood) (n : ℤ) (ident : identity by ≡ Some n) (same : n ≡ v) where
      changes : ChangesNothing t places by v r
      changes b is cs e =
          unchanged b.function (Some cs) (λ ds k. in_box b.function.shape places ds (e ∙ k)) by v (ident ∙ ap (λ (z : ℤ). Some z) same) (subst (λ (o : Option TensorFunction). IfSome o IsGood) (ap function_in is) good)

      skips : regular (leaf set' own vars r) ≡ true → Follows (leaf set' own vars r) r'
      skips g =
          let q = valued w value vars r put put_goes g in
          let g1 : regular (put v r) ≡ true = sym (ap regular q.is) ∙ g in
          let small = small_still (are_small vars at) r (regular_before (asked_for_small (are_small vars at) r) (put v r) (update_goes_on set' t places by v (asked_for_small (are_small vars at) r)) g1) in
          let is : put v r ≡ update set' t places by v r = ap (λ (c : Bool). update set' t places by v (asked_for_small c r)) small in
          let g2 : regular (skipped set' t places by v r) ≡ true = sym (ap regular is) ∙ g1 in
          let trail = skip_trails r (at_work r.work r') t (to_trails r r' f) set' places by v changes g2 in
          let one = from_trails (skipped set' t places by v r) (at_work r.work r') trail in
          let two = follows_same (skipped set' t places by v r) (at_work r.work r') r' (record { stages = refl; regular = refl }) one in
          subst (λ (x : Run). Follows x r') (sym (q.is ∙ is)) (same_follows (skipped set' t places by v r) (worked 1 (skipped set' t places by v r)) r' (paid 1 (skipped set' t places by v r)) two)

    some_literal : (o : Option ℤ) → is_identity_literal by o ≡ true → IsRight o v → (n : ℤ) × ((identity by ≡ Some n) × (n ≡ v))
    some_literal None e k = cc
    some_literal (Some n) e k = (n, (identity_of (identity by) e, k)) where
      identity_of : (p : Option ℤ) → is_some_number p n ≡ true → p ≡ Some n
      identity_of None e = cc
      identity_of (Some z) e = ap (λ (y : ℤ). Some y) (same_number z n e)

  update_follows : (t : ℕ) (at : List Index) (by : Reduce) (value : Expr) (line : ℕ) → PieceFollows (s.Update t at by value line)
  update_follows t at by value line ctx xs h vars r r' i f g =
      let x = s.Update t at by value line in
      let is = act_update (staging set') vars r t at by value line in
      let g' = sym (ap regular is) ∙ g in
      let q = valued w value vars r (put t at by value line h vars r r' f) (put_goes t at by value line h vars r r' f) g' in
      subst (λ (n : Run). Follows n ((worked_of w x h).run ctx vars r')) (sym is)
      (piece w x h (Stmt-F.Update t at by value line) (at_update Worked (work_step w) t at by value line h) ctx vars r' (leaf set' (Update t at by value) vars r)
      (λ m k e.
      let lit = some_literal t at by value line h vars r r' f (literal_of value h.read m) (sym (ap (at_marks w m) (at_update (Marks → Bool) nothing_step t at by value line h)) ∙ e)
      (carries.update m t at by value line xs h vars r r' (subst (λ (o : Context). I o (x ∷ xs) h vars r r') k i) f q.read) in
      skips t at by value line h vars r r' f (carries.good ctx (x ∷ xs) h vars r r' i t) lit.0 lit.1.0 lit.1.1 g')
      (λ n. leaf_follows set' (Update t at by value) vars r r' f g'))

  -- ---- tests
  module _ (test : Expr) (body : List Stmt) (line last : ℕ) (all : AllOf PieceFollows body) (ctx : Context) (xs : List Stmt) (h : Here) (vars : Numbers) (r r' : Run) (i : I ctx (s.Cond test body line last ∷ xs) h vars r r') (f : Follows r r') where
    abbrev tested : Stmt
    tested = s.Cond test body line last

    abbrev inner : Here
    inner = behind_test test h

    abbrev truth : ℤ
    truth = value_of test vars (tensors_of set' r)

    abbrev parts : List Worked
    parts = worked_all w body inner

    abbrev goes_in : ℤ → Run → Run
    goes_in = where_holds (braced (stage_all set' body)) vars

    abbrev literal : Option ℤ
    literal = literal_in ctx (test_rest test h)

    -- what is known of the test is right
    right_by : (c : Context) → I c (tested ∷ xs) h vars r r' → can_read test (tensors_of set' r) ≡ true → IsRightTest (literal_in c (test_rest test h)) truth
    right_by None j can = tt
    right_by (Some m) j can =
        subst (λ (o : Option ℤ). IsRightTest (settled_literal (m.tests h.test) o) truth) (sym (rest_literal test h.read m)) (carries.test m test body line last xs h vars r r' j f can)

    -- a test that is left as 0 leaves nothing
    fails_here : (m : Marks) → ctx ≡ Some m → (n : ℤ) → literal ≡ Some n → int_eq n (pos 0) ≡ true → is_nothing tested h m ≡ true
    fails_here m k n e z =
        ap (at_marks w m) (at_cond (Marks → Bool) nothing_step test body line last h)
        ∙ ap (λ (o : Option ℤ). fails (settled_literal (m.tests h.test) o) || are_nothing body inner m) (sym (rest_literal test h.read m))
        ∙ ap (λ (o : Option ℤ). fails o || are_nothing body inner m) (ap (λ (c : Context). literal_in c (test_rest test h)) (sym k) ∙ e) ∙ ap (λ (b : Bool). b || are_nothing body inner m) z

    some_context : (c : Context) (n : ℤ) → literal_in c (test_rest test h) ≡ Some n → (m : Marks) × (c ≡ Some m)
    some_context None n e = cc
    some_context (Some m) n e = (m, refl)

    module _ (q : Valued w test vars (worked 1 r) goes_in) where
      abbrev can : can_read test (tensors_of set' r) ≡ true
      can = q.read

      abbrev paid_follows : Follows (worked 1 r) r'
      paid_follows = same_follows r (worked 1 r) r' (paid 1 r) f

      both_paid : Follows (worked 1 r) (worked 1 r')
      both_paid = follows_same (worked 1 r) r' (worked 1 r') (paid 1 r') paid_follows

      -- the test fails
      chosen_out : int_eq truth (pos 0) ≡ true → (o : Option ℤ) → literal ≡ o → ((m : Marks) → ctx ≡ Some m → is_nothing tested h m ≡ false) → Follows (worked 1 r) (chosen set' o test (all_of parts ctx) vars r')
      chosen_out z None e not_nothing =
          subst (Follows (worked 1 r)) (sym (also_valued w test vars (worked 1 r) (worked 1 r') goes_in (λ v n. if int_eq v (pos 0) then n else all_of parts ctx vars n) (same_tensors set' r r' f) q
          ∙ ap (λ (b : Bool). if b then worked 1 r' else all_of parts ctx vars (worked 1 r')) z)) both_paid
      chosen_out z (Some n) e not_nothing =
          let (m, k) = some_context ctx n e in
          let same : int_eq n (pos 0) ≡ int_eq truth (pos 0) = subst (λ (o : Option ℤ). IsRightTest o truth) e (right_by ctx i can) in
          let y : false ≡ true = sym (not_nothing m k) ∙ fails_here m k n e (same ∙ z) in
          absurd (cc)

      -- the test holds
      module _ (z : int_eq truth (pos 0) ≡ false) where
        abbrev entered : (n n' : Run) → SameDone r n → SameDone r' n' → I ctx body inner vars n n'
        entered n n' a b = carries.work ctx body inner vars r r' n n' (carries.cond ctx test body line last xs h vars r r' i f can z) a b

        module _ (g : regular (braced (stage_all set' body) vars (worked 1 r)) ≡ true) where
          chosen_in : (o : Option ℤ) → Follows (braced (stage_all set' body) vars (worked 1 r)) (chosen set' o test (all_of parts ctx) vars r')
          chosen_in None =
              subst (Follows (braced (stage_all set' body) vars (worked 1 r))) (sym (also_valued w test vars (worked 1 r) (worked 1 r') goes_in (λ v n. if int_eq v (pos 0) then n else all_of parts ctx vars n) (same_tensors set' r r' f) q
              ∙ ap (λ (b : Bool). if b then worked 1 r' else all_of parts ctx vars (worked 1 r')) z))
              (braced_follows body all inner vars (worked 1 r) (worked 1 r') ctx (entered (worked 1 r) (worked 1 r') (paid 1 r) (paid 1 r')) both_paid g)
          chosen_in (Some n) = braced_follows body all inner vars (worked 1 r) r' ctx (entered (worked 1 r) r' (paid 1 r) (all_same r')) paid_follows g

          left_out : (m : Marks) → ctx ≡ Some m → (o : Option ℤ) → IsRightTest o truth → (fails o || are_nothing body inner m) ≡ true → Follows (braced (stage_all set' body) vars (worked 1 r)) r'
          left_out m k None t e = braced_skips body all inner vars (worked 1 r) r' m (subst (λ (c : Context). I c body inner vars (worked 1 r) r') k (entered (worked 1 r) r' (paid 1 r) (all_same r'))) paid_follows e g
          left_out m k (Some n) t e =
              braced_skips body all inner vars (worked 1 r) r' m (subst (λ (c : Context). I c body inner vars (worked 1 r) r') k (entered (worked 1 r) r' (paid 1 r) (all_same r'))) paid_follows
              (sym (ap (λ (b : Bool). b || are_nothing body inner m) (t ∙ z)) ∙ e) g

      by_truth : (b : Bool) → int_eq truth (pos 0) ≡ b → regular (if b then worked 1 r else braced (stage_all set' body) vars (worked 1 r)) ≡ true
          → Follows (if b then worked 1 r else braced (stage_all set' body) vars (worked 1 r)) ((worked_of w tested h).run ctx vars r')
      by_truth true z g =
          piece w tested h (Stmt-F.Cond test parts line last) (at_cond Worked (work_step w) test body line last h) ctx vars r' (worked 1 r) (λ m k e. paid_follows) (λ n. chosen_out z literal refl n)
      by_truth false z g =
          piece w tested h (Stmt-F.Cond test parts line last) (at_cond Worked (work_step w) test body line last h) ctx vars r' (braced (stage_all set' body) vars (worked 1 r))
          (λ m k e. left_out z g m k (test_literal test h m) (carries.test m test body line last xs h vars r r' (subst (λ (c : Context). I c (tested ∷ xs) h vars r r') k i) f can) (sym (ap (at_marks w m) (at_cond (Marks → Bool) nothing_step test body line last h)) ∙ e))
          (λ n. chosen_in z g literal)

    cond_goes : regular (stage_of set' tested vars r) ≡ true → Follows (stage_of set' tested vars r) ((worked_of w tested h).run ctx vars r')
    cond_goes g =
        let is = act_cond (staging set') vars r test body line last in
        let q = valued w test vars (worked 1 r) goes_in (where_goes w body vars) (sym (ap regular is) ∙ g) in
        subst (λ (n : Run). Follows n ((worked_of w tested h).run ctx vars r')) (sym (is ∙ q.is)) (by_truth q (int_eq truth (pos 0)) refl (sym (ap regular (is ∙ q.is)) ∙ g))

  cond_follows : (test : Expr) (body : List Stmt) (line last : ℕ) → AllOf PieceFollows body → PieceFollows (s.Cond test body line last)
  cond_follows test body line last all ctx xs h vars r r' i f g = cond_goes test body line last all ctx xs h vars r r' i f g

  -- ---- lets
  module _ (var : ℕ) (value : Expr) (body : List Stmt) (line last : ℕ) (all : AllOf PieceFollows body) (ctx : Context) (xs : List Stmt) (h : Here) (vars : Numbers) (r r' : Run) (i : I ctx (s.Bind var value body line last ∷ xs) h vars r r') (f : Follows r r') where
    abbrev let_of : Stmt
    let_of = s.Bind var value body line last

    abbrev after : Here
    after = behind value h

    abbrev number_of : ℤ
    number_of = value_of value vars (tensors_of set' r)

    abbrev bound_in : Numbers
    bound_in = slice_set vars var number_of

    abbrev let_parts : List Worked
    let_parts = worked_all w body after

    abbrev goes_on : ℤ → Run → Run
    goes_on = where_bound var (braced (stage_all set' body)) vars

    same_literal : (c : Context) → literal_in c (λ m. (expr_rest value h.read m).literal) ≡ literal_in c (literal_of value h.read)
    same_literal None = refl
    same_literal (Some m) = rest_literal value h.read m

    right_let : (c : Context) → I c (let_of ∷ xs) h vars r r' → can_read value (tensors_of set' r) ≡ true → IsRight (literal_in c (literal_of value h.read)) number_of
    right_let None j readable = tt
    right_let (Some m) j readable = carries.value m var value body line last xs h vars r r' j f readable

    module _ (q : Valued w value vars (worked 1 r) goes_on) (g : regular (braced (stage_all set' body) bound_in (worked 1 r)) ≡ true) where
      let_paid : Follows (worked 1 r) r'
      let_paid = same_follows r (worked 1 r) r' (paid 1 r) f

      let_both : Follows (worked 1 r) (worked 1 r')
      let_both = follows_same (worked 1 r) r' (worked 1 r') (paid 1 r') let_paid

      abbrev within : Context
      within = inside ctx var (literal_in ctx (literal_of value h.read))

      let_entered : (n' : Run) → SameDone r' n' → I within body after bound_in (worked 1 r) n'
      let_entered n' b = carries.work within body after bound_in r r' (worked 1 r) n' (carries.bind ctx var value body line last xs h vars r r' i f q.read) (paid 1 r) b

      bound_goes : (o : Option ℤ) → IsRight o number_of → Follows (braced (stage_all set' body) bound_in (worked 1 r)) (bound set' o var value (all_of let_parts within) vars r')
      bound_goes None k =
          subst (Follows (braced (stage_all set' body) bound_in (worked 1 r))) (sym (also_valued w value vars (worked 1 r) (worked 1 r') goes_on (λ v n. all_of let_parts within (slice_set vars var v) n) (same_tensors set' r r' f) q))
          (braced_follows body all after bound_in (worked 1 r) (worked 1 r') within (let_entered (worked 1 r') (paid 1 r')) let_both g)
      bound_goes (Some n) k =
          subst (λ (z : ℤ). Follows (braced (stage_all set' body) bound_in (worked 1 r)) (all_of let_parts within (slice_set vars var z) r')) (sym k)
          (braced_follows body all after bound_in (worked 1 r) r' within (let_entered r' (all_same r')) let_paid g)

      let_piece : Follows (braced (stage_all set' body) bound_in (worked 1 r)) ((worked_of w let_of h).run ctx vars r')
      let_piece =
          piece w let_of h (Stmt-F.Bind var value let_parts line last) (at_bind Worked (work_step w) var value body line last h) ctx vars r' (braced (stage_all set' body) bound_in (worked 1 r))
          (λ m k e. braced_skips body all after bound_in (worked 1 r) r' (binding m var (literal_of value h.read m))
          (subst (λ (c : Context). I (inside c var (literal_in c (literal_of value h.read))) body after bound_in (worked 1 r) r') k (let_entered r' (all_same r'))) let_paid
          (sym (ap (at_marks w m) (at_bind (Marks → Bool) nothing_step var value body line last h)) ∙ e) g)
          (λ n. subst (λ (o : Option ℤ). Follows (braced (stage_all set' body) bound_in (worked 1 r)) (bound set' o var value (all_of let_parts (inside ctx var o)) vars r')) (sym (same_literal ctx))
          (bound_goes (literal_in ctx (literal_of value h.read)) (right_let ctx i q.read)))

    bind_goes : regular (stage_of set' let_of vars r) ≡ true → Follows (stage_of set' let_of vars r) ((worked_of w let_of h).run ctx vars r')
    bind_goes g =
        let is = act_bind (staging set') vars r var value body line last in
        let q = valued w value vars (worked 1 r) goes_on (λ v n. braced_goes_on (stage_all set' body) (all_go_on set' body) (slice_set vars var v) n) (sym (ap regular is) ∙ g) in
        subst (λ (n : Run). Follows n ((worked_of w let_of h).run ctx vars r')) (sym (is ∙ q.is)) (let_piece q (sym (ap regular (is ∙ q.is)) ∙ g))

  bind_follows : (var : ℕ) (value : Expr) (body : List Stmt) (line last : ℕ) → AllOf PieceFollows body → PieceFollows (s.Bind var value body line last)
  bind_follows var value body line last all ctx xs h vars r r' i f g = bind_goes var value body line last all ctx xs h vars r r' i f g

  -- ---- loops
  module _ (ctx : Context) (var : ℕ) (par : Bool) (body : List Stmt) (all : AllOf PieceFollows body) (h : Here) (vars : Numbers) (at_entry : Run) where
    abbrev pieces : List Worked
    pieces = worked_all w body h

    abbrev loop : Entered
    loop = enter w (inside ctx var None) var par pieces vars at_entry

    abbrev known : ℕ → Marks
    known c = marks_at loop vars (marks_within (inside ctx var None)) c

    abbrev number_at : ℕ → Numbers
    number_at c = slice_set vars var (pos c)

    abbrev by_turn : ℕ → Run → Run
    by_turn c r = turned w var body vars c r

    abbrev by_piece : Bool → ℕ → Run → Run
    by_piece begins c r = pieced_turn w ctx body h vars loop begins c r

    abbrev rest_at : ℕ → Rest
    rest_at c = rests_in (Some (known c)) pieces

    one_turn : (c : ℕ) (begins : Bool) (r r' : Run) → L ctx var body h vars loop c r r' → Follows r r' → (range_of set' var).0 ≤ c → c < (range_of set' var).1 → regular (by_turn c r) ≡ true → Follows (by_turn c r) (by_piece begins c r')
    one_turn c begins r r' l f low high g = by (is_none_kind (rest_at c).kind) refl (is_fixed loop vars (rest_at c) c) where
      i : I (Some (known c)) body h (number_at c) r r'
      i = carries.turn ctx var body h vars loop c r r' l f low high

      i_paid : (n' : Run) → SameDone r' n' → I (Some (known c)) body h (number_at c) (worked 1 r) n'
      i_paid n' b = carries.work (Some (known c)) body h (number_at c) r r' (worked 1 r) n' i (paid 1 r) b

      f_paid : Follows (worked 1 r) r'
      f_paid = same_follows r (worked 1 r) r' (paid 1 r) f

      by : (a : Bool) → is_none_kind (rest_at c).kind ≡ a → (b : Bool)
          → Follows (by_turn c r) (if a then r' else (if b then costing (first_share begins) r' (all_of pieces (Some (known c)) (number_at c) r') else all_of pieces (Some (known c)) (number_at c) (worked 1 r')))
      by true e b = braced_skips body all h (number_at c) (worked 1 r) r' (known c) (i_paid r' (all_same r')) f_paid (sym (nothing_are w body h (known c)) ∙ e) g
      by false e true =
          follows_same (by_turn c r) (all_of pieces (Some (known c)) (number_at c) r') (costing (first_share begins) r' (all_of pieces (Some (known c)) (number_at c) r')) (record { stages = refl; regular = refl })
          (braced_follows body all h (number_at c) (worked 1 r) r' (Some (known c)) (i_paid r' (all_same r')) f_paid g)
      by false e false =
          braced_follows body all h (number_at c) (worked 1 r) (worked 1 r') (Some (known c)) (i_paid (worked 1 r') (paid 1 r')) (follows_same (worked 1 r) r' (worked 1 r') (paid 1 r') f_paid) g

    abbrev by_stages_from : ℕ → ℕ → Run → Run
    by_stages_from n c r = repeated n c var (braced (stage_all set' body)) vars r

    abbrev by_pieces_from : ℕ → Bool → ℕ → Run → Run
    by_pieces_from n begins c r = turns by_piece (ends_after loop vars) n begins c r

    turns_follow : (n c : ℕ) (begins : Bool) (r r' : Run) → (range_of set' var).0 ≤ c → c + n ≤ (range_of set' var).1 → L ctx var body h vars loop c r r' → Follows r r' → regular (by_stages_from n c r) ≡ true
        → Follows (by_stages_from n c r) (by_pieces_from n begins c r')
    turns_follow zero c begins r r' low high l f g = f
    turns_follow (suc n) c begins r r' low high l f g =
        let next = by_turn c r in
        let before = regular_before next (by_stages_from n (c + 1) next) (repeated_goes_on n (c + 1) var (braced (stage_all set' body)) (braced_goes_on (stage_all set' body) (all_go_on set' body)) vars next) g in
        let one = one_turn c begins r r' l f low (omega (arith, high)) before in
        turns_follow n (c + 1) (ends_after loop vars c) next (by_piece begins c r') (omega (arith, low)) (omega (arith, high)) (carries.onward ctx var body h vars loop c r r' begins l f low (omega (arith, high)) before one) one g

    -- where nothing is left at any coordinate, nothing is done
    turns_rest : (n c : ℕ) (begins : Bool) (r' : Run) → ((k : ℕ) → is_none_kind (rest_at k).kind ≡ true) → by_pieces_from n begins c r' ≡ r'
    turns_rest zero c begins r' e = refl
    turns_rest (suc n) c begins r' e =
        let still : by_piece begins c r' ≡ r' = ap (λ (a : Bool). if a then r' else (if is_fixed loop vars (rest_at c) c then costing (first_share begins) r' (all_of pieces (Some (known c)) (number_at c) r') else all_of pieces (Some (known c)) (number_at c) (worked 1 r'))) (e c) in
        ap (by_pieces_from n (ends_after loop vars c) (c + 1)) still ∙ turns_rest n (c + 1) (ends_after loop vars c) r' e

    abbrev count : ℕ
    count = (range_of set' var).1 - (range_of set' var).0

    -- a range may be empty
    whole_follows : (k : ℕ) → k ≡ count → (begins : Bool) (r r' : Run) → L ctx var body h vars loop (range_of set' var).0 r r' → Follows r r' → regular (by_stages_from k (range_of set' var).0 r) ≡ true
        → Follows (by_stages_from k (range_of set' var).0 r) (by_pieces_from k begins (range_of set' var).0 r')
    whole_follows zero e begins r r' l f g = f
    whole_follows (suc k) e begins r r' l f g = turns_follow (suc k) (range_of set' var).0 begins r r' (omega arith) (omega (arith, e)) l f g

  loop_follows : (var : ℕ) (range : Option (ℕ × ℕ)) (par : Bool) (body : List Stmt) (line last : ℕ) → AllOf PieceFollows body → PieceFollows (s.Loop var range par body line last)
  loop_follows var range par body line last all ctx xs h vars r r' i f g =
      let x = s.Loop var range par body line last in
      let pieces = worked_all w body h in
      let e = enter w (inside ctx var None) var par pieces vars r' in
      let start = worked (entry_of e) r' in
      let lo = (range_of set' var).0 in
      let n = (range_of set' var).1 - lo in
      let is = act_loop (staging set') vars r var range par body line last in
      let g' = sym (ap regular is) ∙ g in
      let f0 = same_follows r (worked 1 r) r' (paid 1 r) f in
      let f1 = follows_same (worked 1 r) r' start (paid (entry_of e) r') f0 in
      let l = carries.enter ctx var range par body line last xs h vars r r' (worked 1 r) start i f (paid 1 r) (paid (entry_of e) r') in
      let done_all = whole_follows ctx var par body all h vars r' n refl true (worked 1 r) start l f1 g' in
      let asked : asked_to_enter w (inside ctx var None) par pieces r' ≡ r' = ap (λ (b : Bool). asked_to_read b r') (carries.asked ctx var range par body line last xs h vars r r' i f) in
      subst (λ (z : Run). Follows z ((worked_of w x h).run ctx vars r')) (sym is)
      (piece w x h (Stmt-F.Loop var range par pieces line last) (at_loop Worked (work_step w) var range par body line last h) ctx vars r' (by_stages_from ctx var par body all h vars r' n lo (worked 1 r))
      (λ m k q.
      let none = sym (ap (at_marks w m) (at_loop (Marks → Bool) nothing_step var range par body line last h)) ∙ q in
      let each : (c : ℕ) → is_none_kind (rest_at ctx var par body all h vars r' c).kind ≡ true =
      λ c. nothing_are w body h (known ctx var par body all h vars r' c)
      ∙ subst (λ (o : Context). are_nothing body h (known o var par body all h vars r' c) ≡ true) (sym k) (carries.nothing m var range par body line last xs h vars r r' c (subst (λ (o : Context). I o (x ∷ xs) h vars r r') k i) none) in
      follows_same (by_stages_from ctx var par body all h vars r' n lo (worked 1 r)) start r' (unpaid (entry_of e) r')
      (subst (Follows (by_stages_from ctx var par body all h vars r' n lo (worked 1 r))) (turns_rest ctx var par body all h vars r' n lo true start each) done_all))
      (λ q. subst (λ (z : Run). Follows (by_stages_from ctx var par body all h vars r' n lo (worked 1 r)) (by_pieces_from ctx var par body all h vars r' n true lo (worked (entry_of e) z))) (sym asked) done_all))

  cases : Cases PieceFollows
  cases = record {
    block = block_follows;
    loop = loop_follows;
    cond = cond_follows;
    bind = bind_follows;
    declare = declare_follows;
    freeze = freeze_follows;
    thaw = thaw_follows;
    update = update_follows;
  }

  -- a body by pieces follows the body by stages
  pub pieces_follow : (body : List Stmt) (ctx : Context) (h : Here) (vars : Numbers) (r r' : Run) → I ctx body h vars r r' → Follows r r' → regular (stage_all set' body vars r) ≡ true → Follows (stage_all set' body vars r) (runs ctx body h vars r')
  pieces_follow body = body_follows body (all_by_kind PieceFollows cases body)
