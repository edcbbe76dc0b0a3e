-- The more is known, the fewer tensors are changed.
use Rattle.std.proofs.Common.{◌≡◌, ℕ, ℤ, pos, Bool, true, false, ◌||◌, List, [], ◌∷◌, ◌++◌, map, Option, Some, None, refl, sym, ap, ◌∙◌, subst, if◌then◌else◌}
use Rattle.std.specs.Prelude.{nat_eq}
use Rattle.std.specs.Ordering.{int_eq}
use Rattle.fin_base.specs.declared.reduce.Reduce.{Reduce}
use Rattle.fin_ast.specs.declared.tree.Index.{Index}
use Rattle.fin_ast.specs.declared.tree.Expr.{Expr}
use Rattle.fin_ast.specs.declared.tree.Stmt.{Stmt}
use Rattle.fin_ast.specs.Literals.{is_worded, all_hold, worded_stmt_step, is_worded_stmt}
use Rattle.fin_ast.proofs.Nodes as node
use Rattle.fin_ast.proofs.Induction.{AllOf, Cases, all_by_kind}
use Rattle.fin_simp.specs.Numbered.{Here, behind, behind_test, past_stmt}
use Rattle.fin_simp.specs.Left.{Marks, binding, fails, as_expr, left_of}
use Rattle.fin_simp.specs.Remaining.{literal_of, is_identity_literal, settled_literal}
use Rattle.fin_simp.specs.Rest.{ExprRest, Test, Kind, Nothing, OneUpdate, Other, Rest, is_none_kind, nothing, kinds, beside, no_expr, within_kind, chosen_rest, let_rest, updating_rest, test_rest, expr_rest, rest_step, rest_of}
use Rattle.fin_simp.specs.Wording.{KnowsWords, StaysIn, Further}
use Rattle.fin_simp.specs.Work.{is_in}
use Rattle.fin_simp.proofs.Equations.{at_block, at_loop, at_cond, at_bind, at_declare, at_freeze, at_thaw, at_update}
use Rattle.fin_simp.proofs.Literals.{rest_literal}
use Rattle.fin_simp.proofs.Mentions.{rests}
use Rattle.fin_simp.proofs.Resting.{rests_agree}
use Rattle.fin_simp.proofs.Staying.{left_true, right_true, literal_is_word, literal_stays, settled_fails, binding_stays, binding_words, nothing_all_stays}
use Rattle.fin_work.specs.Changing.{FewerChange}

-- ---- what is nothing changes nothing
abbrev pub Quiet : Rest → Type 0
Quiet r = is_none_kind r.kind ≡ true → r.changed ≡ []

none_both : (k j : Kind) → is_none_kind (kinds k j) ≡ true → (is_none_kind k ≡ true) × (is_none_kind j ≡ true)
none_both Nothing j e = (refl, e)
none_both OneUpdate Nothing e = cc
none_both OneUpdate OneUpdate e = cc
none_both OneUpdate Other e = cc
none_both Other Nothing e = cc
none_both Other OneUpdate e = cc
none_both Other Other e = cc

quiet_beside : (a b : Rest) → Quiet a → Quiet b → Quiet (beside a b)
quiet_beside a b p q e = let two = none_both a.kind b.kind e in ap (λ (xs : List ℕ). xs ++ b.changed) (p two.0) ∙ q two.1

quiet_within : (k : Kind) (e : ExprRest) (tests : List Test) (r : Rest) → Quiet (within_kind k e tests r)
quiet_within Nothing e tests r h = refl
quiet_within OneUpdate e tests r h = cc
quiet_within Other e tests r h = cc

quiet_either : (b : Bool) (r : Rest) → Quiet r → Quiet (if b then nothing else r)
quiet_either true r p h = refl
quiet_either false r p h = p h

quiet_chosen : (o : Option ℤ) (e : ExprRest) (test : Test) (r : Rest) → Quiet r → Quiet (chosen_rest o e test r)
quiet_chosen None e test r p = quiet_within r.kind e (test ∷ []) r
quiet_chosen (Some n) e test r p = quiet_either (int_eq n (pos 0)) r p

quiet_let : (o : Option ℤ) (e : ExprRest) (r : Rest) → Quiet r → Quiet (let_rest o e r)
quiet_let None e r p = quiet_within r.kind e [] r
quiet_let (Some n) e r p = p

quiet_update : (t : ℕ) (at : List Index) (b : Bool) (e : ExprRest) → Quiet (updating_rest t at b e)
quiet_update t at true e h = refl
quiet_update t at false e h = cc

abbrev IsQuiet : Stmt → Type 0
IsQuiet x = (h : Here) (m : Marks) → Quiet (rest_of x h m)

abbrev at_rest : Marks → (Marks → Rest) → Rest
at_rest m f = f m

quiet_by : (r r' : Rest) → r ≡ r' → Quiet r' → Quiet r
quiet_by r r' e q = subst Quiet (sym e) q

quiet_bodies : (body : List Stmt) → AllOf IsQuiet body → (h : Here) (m : Marks) → Quiet (rests body h m)
quiet_bodies [] all h m = λ e. refl
quiet_bodies (x ∷ xs) all h m = quiet_beside (rest_of x h m) (rests xs (past_stmt x h) m) (all.0 h m) (quiet_bodies xs all.1 (past_stmt x h) m)

quiet_cases : Cases IsQuiet
quiet_cases = record {
  block = λ body line last all h m. quiet_by _ _ (ap (at_rest m) (at_block (Marks → Rest) rest_step body line last h)) (quiet_bodies body all h m);
  loop = λ var range par body line last all h m. quiet_by _ _ (ap (at_rest m) (at_loop (Marks → Rest) rest_step var range par body line last h)) (quiet_within (rests body h (binding m var None)).kind no_expr [] (rests body h (binding m var None)));
  cond = λ test body line last all h m. quiet_by _ _ (ap (at_rest m) (at_cond (Marks → Rest) rest_step test body line last h))
      (quiet_chosen (test_rest test h m) (expr_rest test h.read m) (record { test = h.test; expr = as_expr (left_of test h.read m) }) (rests body (behind_test test h) m) (quiet_bodies body all (behind_test test h) m));
  bind = λ var value body line last all h m. quiet_by _ _ (ap (at_rest m) (at_bind (Marks → Rest) rest_step var value body line last h))
      (quiet_let (expr_rest value h.read m).literal (expr_rest value h.read m) (rests body (behind value h) (binding m var (expr_rest value h.read m).literal)) (quiet_bodies body all (behind value h) (binding m var (expr_rest value h.read m).literal)));
  declare = λ tensor value line h m. quiet_by _ _ (ap (at_rest m) (at_declare (Marks → Rest) rest_step tensor value line h)) (λ e. cc);
  freeze = λ tensor line h m. quiet_by _ _ (ap (at_rest m) (at_freeze (Marks → Rest) rest_step tensor line h)) (λ e. cc);
  thaw = λ tensor line h m. quiet_by _ _ (ap (at_rest m) (at_thaw (Marks → Rest) rest_step tensor line h)) (λ e. cc);
  update = λ tensor at by value line h m. quiet_by _ _ (ap (at_rest m) (at_update (Marks → Rest) rest_step tensor at by value line h)) (quiet_update tensor at (is_identity_literal by (expr_rest value h.read m).literal) (expr_rest value h.read m));
}

pub quiet : (body : List Stmt) (h : Here) (m : Marks) → Quiet (rests body h m)
quiet body = quiet_bodies body (all_by_kind IsQuiet quiet_cases body)

-- ---- what is known inside a `let`
pub let_marks : (var : ℕ) (value : Expr) → is_worded value ≡ true → (k : ℕ) (m m' : Marks) → KnowsWords m' → Further m m'
    → KnowsWords (binding m' var (expr_rest value k m').literal) × Further (binding m var (expr_rest value k m).literal) (binding m' var (expr_rest value k m').literal)
let_marks var value q k m m' w f =
    subst (λ (o : Option ℤ). KnowsWords (binding m' var o) × Further (binding m var (expr_rest value k m).literal) (binding m' var o)) (sym (rest_literal value k m')) (
      binding_words m' var (literal_of value k m') (literal_is_word value q k m' w) w,
      subst (λ (o : Option ℤ). Further (binding m var o) (binding m' var (literal_of value k m'))) (sym (rest_literal value k m)) (binding_stays m m' var (literal_of value k m) (literal_of value k m') (literal_stays value q k m m' w f) f),
    )

-- ---- a tensor that isn't changed
module _ (t : ℕ) where
  abbrev Free : Rest → Type 0
  Free r = is_in r.changed t ≡ false

  pub free_append : (xs ys : List ℕ) → is_in (xs ++ ys) t ≡ (is_in xs t || is_in ys t)
  free_append [] ys = refl
  free_append (x ∷ xs) ys = ap (λ b. nat_eq t x || b) (free_append xs ys) ∙ grouped (nat_eq t x) (is_in xs t) (is_in ys t) where
    grouped : (a b c : Bool) → (a || (b || c)) ≡ ((a || b) || c)
    grouped true b c = refl
    grouped false b c = refl

  split : (a b : Bool) → (a || b) ≡ false → (a ≡ false) × (b ≡ false)
  split true b e = cc
  split false b e = (refl, e)

  free_beside : (a b a' b' : Rest) → (Free a → Free a') → (Free b → Free b') → Free (beside a b) → Free (beside a' b')
  free_beside a b a' b' p q e =
      let two = split (is_in a.changed t) (is_in b.changed t) (sym (free_append a.changed b.changed) ∙ e) in
      free_append a'.changed b'.changed ∙ ap (λ (c : Bool). c || is_in b'.changed t) (p two.0) ∙ q two.1

  pub free_within : (k : Kind) (e : ExprRest) (tests : List Test) (r : Rest) → Free r → Free (within_kind k e tests r)
  free_within Nothing e tests r f = refl
  free_within OneUpdate e tests r f = f
  free_within Other e tests r f = f

  pub out_of_within : (k : Kind) (e : ExprRest) (tests : List Test) (r : Rest) → is_none_kind k ≡ false → Free (within_kind k e tests r) → Free r
  out_of_within Nothing e tests r n f = cc
  out_of_within OneUpdate e tests r n f = f
  out_of_within Other e tests r n f = f

  free_either : (b : Bool) (r : Rest) → Free r → Free (if b then nothing else r)
  free_either true r f = refl
  free_either false r f = f

  pub free_chosen : (o : Option ℤ) (e : ExprRest) (test : Test) (r : Rest) → Free r → Free (chosen_rest o e test r)
  free_chosen None e test r f = free_within r.kind e (test ∷ []) r f
  free_chosen (Some n) e test r f = free_either (int_eq n (pos 0)) r f

  pub free_let : (o : Option ℤ) (e : ExprRest) (r : Rest) → Free r → Free (let_rest o e r)
  free_let None e r f = free_within r.kind e [] r f
  free_let (Some n) e r f = f

  free_update : (u : ℕ) (at : List Index) (b b' : Bool) (e e' : ExprRest) → (b ≡ true → b' ≡ true) → Free (updating_rest u at b e) → Free (updating_rest u at b' e')
  free_update u at true b' e e' i f = ap (λ (x : Bool). is_in (updating_rest u at x e').changed t) (i refl)
  free_update u at false true e e' i f = refl
  free_update u at false false e e' i f = f

  -- what is written of an update that is left
  pub written_update : (u : ℕ) (at : List Index) (b : Bool) (e : ExprRest) → is_in (u ∷ []) t ≡ false → Free (updating_rest u at b e)
  written_update u at true e f = refl
  written_update u at false e f = f

  identity_stays : (by : Reduce) (a a' : Option ℤ) → StaysIn a a' → is_identity_literal by a ≡ true → is_identity_literal by a' ≡ true
  identity_stays by None a' p h = cc
  identity_stays by (Some n) a' p h = ap (is_identity_literal by) p ∙ h

  identity_kept : (by : Reduce) (value : Expr) → is_worded value ≡ true → (k : ℕ) (m m' : Marks) → KnowsWords m' → Further m m'
      → is_identity_literal by (expr_rest value k m).literal ≡ true → is_identity_literal by (expr_rest value k m').literal ≡ true
  identity_kept by value q k m m' w f e =
      ap (is_identity_literal by) (rest_literal value k m')
      ∙ identity_stays by (literal_of value k m) (literal_of value k m') (literal_stays value q k m m' w f) (sym (ap (is_identity_literal by) (rest_literal value k m)) ∙ e)

  -- from what is left of a body to what is left of it where more is known
  module _ (r r' : Rest) (none : is_none_kind r.kind ≡ true → is_none_kind r'.kind ≡ true) (free : Free r → Free r') (quiet' : Quiet r') where
    carried : (e : ExprRest) (tests : List Test) → Free (within_kind r.kind e tests r) → Free r'
    carried e tests f = by (is_none_kind r.kind) refl where
      by : (b : Bool) → is_none_kind r.kind ≡ b → Free r'
      by true k = ap (λ (xs : List ℕ). is_in xs t) (quiet' (none k))
      by false k = free (out_of_within r.kind e tests r k f)

    failing : (o : Option ℤ) (e : ExprRest) (test : Test) → fails o ≡ true → Free (chosen_rest o e test r')
    failing None e test f = cc
    failing (Some n) e test f = ap (λ (b : Bool). is_in (if b then nothing else r').changed t) f

    chosen_free : (o o' : Option ℤ) (e e' : ExprRest) (test test' : Test) → (fails o ≡ true → fails o' ≡ true) → Free (chosen_rest o e test r) → Free (chosen_rest o' e' test' r')
    chosen_free None o' e e' test test' p f = free_chosen o' e' test' r' (carried e (test ∷ []) f)
    chosen_free (Some n) o' e e' test test' p f = by (int_eq n (pos 0)) refl f where
      by : (b : Bool) → int_eq n (pos 0) ≡ b → Free (if b then nothing else r) → Free (chosen_rest o' e' test' r')
      by true k g = failing o' e' test' (p k)
      by false k g = free_chosen o' e' test' r' (free g)

    let_free : (o o' : Option ℤ) (e e' : ExprRest) → Free (let_rest o e r) → Free (let_rest o' e' r')
    let_free None o' e e' f = free_let o' e' r' (carried e [] f)
    let_free (Some n) o' e e' f = free_let o' e' r' (free f)

  -- ---- all kinds
  abbrev Fewer : Stmt → Type 0
  Fewer x = is_worded_stmt x ≡ true → (h : Here) (m m' : Marks) → KnowsWords m' → Further m m' → Free (rest_of x h m) → Free (rest_of x h m')

  free_by : (r r' q q' : Rest) → r ≡ r' → q ≡ q' → (Free r' → Free q') → Free r → Free q
  free_by r r' q q' e d f k = subst Free (sym d) (f (subst Free e k))

  fewer_bodies : (body : List Stmt) → AllOf Fewer body → all_hold (map is_worded_stmt body) ≡ true → (h : Here) (m m' : Marks) → KnowsWords m' → Further m m' → Free (rests body h m) → Free (rests body h m')
  fewer_bodies [] all q h m m' w f k = refl
  fewer_bodies (x ∷ xs) all q h m m' w f k =
      free_beside (rest_of x h m) (rests xs (past_stmt x h) m) (rest_of x h m') (rests xs (past_stmt x h) m')
      (all.0 (left_true (is_worded_stmt x) (all_hold (map is_worded_stmt xs)) q) h m m' w f)
      (fewer_bodies xs all.1 (right_true (is_worded_stmt x) (all_hold (map is_worded_stmt xs)) q) (past_stmt x h) m m' w f) k

  none_stays : (body : List Stmt) → all_hold (map is_worded_stmt body) ≡ true → (h : Here) (m m' : Marks) → KnowsWords m' → Further m m' → is_none_kind (rests body h m).kind ≡ true → is_none_kind (rests body h m').kind ≡ true
  none_stays body q h m m' w f e = rests_agree body h m' ∙ nothing_all_stays body q h m m' w f (sym (rests_agree body h m) ∙ e)

  fails_stay : (a a' : Option ℤ) → StaysIn a a' → fails a ≡ true → fails a' ≡ true
  fails_stay None a' p h = cc
  fails_stay (Some n) a' p h = ap fails p ∙ h

  either_stays : (a b c d : Bool) → (a ≡ true → c ≡ true) → (b ≡ true → d ≡ true) → (a || b) ≡ true → (c || d) ≡ true
  either_stays true b c d h k p = ap (λ x. x || d) (h refl)
  either_stays false b true d h k p = refl
  either_stays false b false d h k p = k p

  test_stays : (test : Expr) → is_worded test ≡ true → (h : Here) (m m' : Marks) → KnowsWords m' → Further m m' → fails (test_rest test h m) ≡ true → fails (test_rest test h m') ≡ true
  test_stays test q h m m' w f e =
      let o = literal_of test h.read m in
      let o' = literal_of test h.read m' in
      let now : (fails o || fails (m.tests h.test)) ≡ true = settled_fails (m.tests h.test) o ∙ ap (λ (p : Option ℤ). fails (settled_literal (m.tests h.test) p)) (sym (rest_literal test h.read m)) ∙ e in
      ap (λ (p : Option ℤ). fails (settled_literal (m'.tests h.test) p)) (rest_literal test h.read m') ∙ sym (settled_fails (m'.tests h.test) o')
      ∙ either_stays (fails o) (fails (m.tests h.test)) (fails o') (fails (m'.tests h.test)) (fails_stay o o' (literal_stays test q h.read m m' w f)) (fails_stay (m.tests h.test) (m'.tests h.test) (f.tests h.test)) now

  fewer_cases : Cases Fewer
  fewer_cases = record {
    block = λ body line last all q h m m' w f.
        free_by _ (rests body h m) _ (rests body h m') (ap (at_rest m) (at_block (Marks → Rest) rest_step body line last h)) (ap (at_rest m') (at_block (Marks → Rest) rest_step body line last h))
        (fewer_bodies body all (sym (node.of_block Bool worded_stmt_step body line last) ∙ q) h m m' w f);
    loop = λ var range par body line last all q h m m' w f.
        let worded = sym (node.of_loop Bool worded_stmt_step var range par body line last) ∙ q in
        let n = binding m var None in
        let n' = binding m' var None in
        let w' = binding_words m' var None tt w in
        let f' = binding_stays m m' var None None tt f in
        let r = rests body h n in
        let r' = rests body h n' in
        free_by _ (within_kind r.kind no_expr [] r) _ (within_kind r'.kind no_expr [] r') (ap (at_rest m) (at_loop (Marks → Rest) rest_step var range par body line last h)) (ap (at_rest m') (at_loop (Marks → Rest) rest_step var range par body line last h))
        (λ k. free_within r'.kind no_expr [] r' (carried r r' (none_stays body worded h n n' w' f') (fewer_bodies body all worded h n n' w' f') (quiet body h n') no_expr [] k));
    cond = λ test body line last all q h m m' w f.
        let inner = behind_test test h in
        let both = sym (node.of_cond Bool worded_stmt_step test body line last) ∙ q in
        let qt = left_true (is_worded test) (all_hold (map is_worded_stmt body)) both in
        let qb = right_true (is_worded test) (all_hold (map is_worded_stmt body)) both in
        let r = rests body inner m in
        let r' = rests body inner m' in
        free_by _ _ _ _ (ap (at_rest m) (at_cond (Marks → Rest) rest_step test body line last h)) (ap (at_rest m') (at_cond (Marks → Rest) rest_step test body line last h))
        (chosen_free r r' (none_stays body qb inner m m' w f) (fewer_bodies body all qb inner m m' w f) (quiet body inner m') (test_rest test h m) (test_rest test h m') (expr_rest test h.read m) (expr_rest test h.read m')
        (record { test = h.test; expr = as_expr (left_of test h.read m) }) (record { test = h.test; expr = as_expr (left_of test h.read m') }) (test_stays test qt h m m' w f));
    bind = λ var value body line last all q h m m' w f.
        let inner = behind value h in
        let both = sym (node.of_bind Bool worded_stmt_step var value body line last) ∙ q in
        let qv = left_true (is_worded value) (all_hold (map is_worded_stmt body)) both in
        let qb = right_true (is_worded value) (all_hold (map is_worded_stmt body)) both in
        let e = expr_rest value h.read m in
        let e' = expr_rest value h.read m' in
        let n = binding m var e.literal in
        let n' = binding m' var e'.literal in
        let two = let_marks var value qv h.read m m' w f in
        free_by _ _ _ _ (ap (at_rest m) (at_bind (Marks → Rest) rest_step var value body line last h)) (ap (at_rest m') (at_bind (Marks → Rest) rest_step var value body line last h))
        (let_free (rests body inner n) (rests body inner n') (none_stays body qb inner n n' two.0 two.1) (fewer_bodies body all qb inner n n' two.0 two.1) (quiet body inner n') e.literal e'.literal e e');
    declare = λ tensor value line q h m m' w f. free_by _ _ _ _ (ap (at_rest m) (at_declare (Marks → Rest) rest_step tensor value line h)) (ap (at_rest m') (at_declare (Marks → Rest) rest_step tensor value line h)) (λ k. k);
    freeze = λ tensor line q h m m' w f. free_by _ _ _ _ (ap (at_rest m) (at_freeze (Marks → Rest) rest_step tensor line h)) (ap (at_rest m') (at_freeze (Marks → Rest) rest_step tensor line h)) (λ k. k);
    thaw = λ tensor line q h m m' w f. free_by _ _ _ _ (ap (at_rest m) (at_thaw (Marks → Rest) rest_step tensor line h)) (ap (at_rest m') (at_thaw (Marks → Rest) rest_step tensor line h)) (λ k. k);
    update = λ tensor at by value line q h m m' w f.
        let e = expr_rest value h.read m in
        let e' = expr_rest value h.read m' in
        let worded = sym (node.of_update Bool worded_stmt_step tensor at by value line) ∙ q in
        free_by _ _ _ _ (ap (at_rest m) (at_update (Marks → Rest) rest_step tensor at by value line h)) (ap (at_rest m') (at_update (Marks → Rest) rest_step tensor at by value line h))
        (free_update tensor at (is_identity_literal by e.literal) (is_identity_literal by e'.literal) e e' (identity_kept by value worded h.read m m' w f));
  }

  pub fewer_changed : (body : List Stmt) → all_hold (map is_worded_stmt body) ≡ true → (h : Here) (m m' : Marks) → KnowsWords m' → Further m m' → Free (rests body h m) → Free (rests body h m')
  fewer_changed body = fewer_bodies body (all_by_kind Fewer fewer_cases body)

pub fewer_change : FewerChange
fewer_change body h m m' q w f t k = fewer_changed t body q h m m' w f k
