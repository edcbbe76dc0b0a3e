-- What is left of a body changes no other tensors than its text does; and the tests of a text.
use Rattle.std.proofs.Common.{◌≡◌, ℕ, Bool, true, false, ◌||◌, List, [], ◌∷◌, None, refl, sym, ap, ◌∙◌, subst}
use Rattle.fin_ast.specs.declared.tree.Stmt.{Stmt}
use Rattle.fin_ast.proofs.Induction.{AllOf, Cases, all_by_kind}
use Rattle.fin_simp.specs.Numbered.{Here, behind, behind_test, past_stmt}
use Rattle.fin_simp.specs.Left.{Marks, binding, as_expr, left_of}
use Rattle.fin_simp.specs.Remaining.{is_identity_literal}
use Rattle.fin_simp.specs.Rest.{Test, Rest, no_expr, test_rest, expr_rest, rest_step, rest_of, written_step, written}
use Rattle.fin_simp.specs.Work.{is_in}
use Rattle.fin_simp.proofs.Equations.{at_block, at_loop, at_cond, at_bind, at_declare, at_freeze, at_thaw, at_update}
use Rattle.fin_simp.proofs.Mentions.{rests}
use Rattle.fin_work.proofs.Changing.{free_append, free_within, free_chosen, free_let, written_update}
use Rattle.fin_work.proofs.Looking.{Look, looks_of, looks, AllLooks, looks_first, looks_second, looks_block, looks_loop, looks_cond, looks_bind, AllTests, tests_both}
use Rattle.fin_work.proofs.Numbering.{texts}

module _ (t : ℕ) where
  abbrev Free : Rest → Type 0
  Free r = is_in r.changed t ≡ false

  split : (a b : Bool) → (a || b) ≡ false → (a ≡ false) × (b ≡ false)
  split true b e = cc
  split false b e = (refl, e)

  abbrev Covers : Stmt → Type 0
  Covers x = (h : Here) (m : Marks) → Free (written x h) → Free (rest_of x h m)

  covers_by : (a b a' b' : Rest) → a ≡ b → a' ≡ b' → (Free b → Free b') → Free a → Free a'
  covers_by a b a' b' e d f k = subst Free (sym d) (f (subst Free e k))

  abbrev at_rest : Marks → (Marks → Rest) → Rest
  at_rest m f = f m

  cover_bodies : (body : List Stmt) → AllOf Covers body → (h : Here) (m : Marks) → Free (texts body h) → Free (rests body h m)
  cover_bodies [] all h m f = refl
  cover_bodies (x ∷ xs) all h m f =
      let two = split (is_in (written x h).changed t) (is_in (texts xs (past_stmt x h)).changed t) (sym (free_append t (written x h).changed (texts xs (past_stmt x h)).changed) ∙ f) in
      free_append t (rest_of x h m).changed (rests xs (past_stmt x h) m).changed
      ∙ ap (λ (b : Bool). b || is_in (rests xs (past_stmt x h) m).changed t) (all.0 h m two.0) ∙ cover_bodies xs all.1 (past_stmt x h) m two.1

  cover_cases : Cases Covers
  cover_cases = record {
    block = λ body line last all h m. covers_by _ (texts body h) _ (rests body h m) (at_block Rest written_step body line last h) (ap (at_rest m) (at_block (Marks → Rest) rest_step body line last h)) (cover_bodies body all h m);
    loop = λ var range par body line last all h m.
        let r = rests body h (binding m var None) in
        covers_by _ (texts body h) _ _ (at_loop Rest written_step var range par body line last h) (ap (at_rest m) (at_loop (Marks → Rest) rest_step var range par body line last h)) (λ f. free_within t r.kind no_expr [] r (cover_bodies body all h (binding m var None) f));
    cond = λ test body line last all h m.
        let inner = behind_test test h in
        covers_by _ _ _ _ (at_cond Rest written_step test body line last h) (ap (at_rest m) (at_cond (Marks → Rest) rest_step test body line last h))
        (λ f. free_chosen t (test_rest test h m) (expr_rest test h.read m) (record { test = h.test; expr = as_expr (left_of test h.read m) }) (rests body inner m) (cover_bodies body all inner m f));
    bind = λ var value body line last all h m.
        let inner = behind value h in
        let ex = expr_rest value h.read m in
        covers_by _ _ _ _ (at_bind Rest written_step var value body line last h) (ap (at_rest m) (at_bind (Marks → Rest) rest_step var value body line last h))
        (λ f. free_let t ex.literal ex (rests body inner (binding m var ex.literal)) (cover_bodies body all inner (binding m var ex.literal) f));
    declare = λ u value line h m. covers_by _ _ _ _ (at_declare Rest written_step u value line h) (ap (at_rest m) (at_declare (Marks → Rest) rest_step u value line h)) (λ f. f);
    freeze = λ u line h m. covers_by _ _ _ _ (at_freeze Rest written_step u line h) (ap (at_rest m) (at_freeze (Marks → Rest) rest_step u line h)) (λ f. f);
    thaw = λ u line h m. covers_by _ _ _ _ (at_thaw Rest written_step u line h) (ap (at_rest m) (at_thaw (Marks → Rest) rest_step u line h)) (λ f. f);
    update = λ u at by value line h m. covers_by _ _ _ _ (at_update Rest written_step u at by value line h) (ap (at_rest m) (at_update (Marks → Rest) rest_step u at by value line h))
        (written_update t u at (is_identity_literal by (expr_rest value h.read m).literal) (expr_rest value h.read m));
  }

  pub written_covers : (body : List Stmt) (h : Here) (m : Marks) → Free (texts body h) → Free (rests body h m)
  written_covers body = cover_bodies body (all_by_kind Covers cover_cases body)

-- ---- the tests of a text are those that are seen in it
module _ (P : Test → Type 0) where
  abbrev Seen : Look → Type 0
  Seen l = P (record { test = l.test; expr = l.expr })

  abbrev Told : Stmt → Type 0
  Told x = (h : Here) (m : Marks) → AllLooks Seen (looks_of x h m) → AllTests P (written x h).tests

  to : (xs ys : Rest) → xs ≡ ys → AllTests P ys.tests → AllTests P xs.tests
  to xs ys e h = subst (λ (r : Rest). AllTests P r.tests) (sym e) h

  forth : (xs ys : List Look) → xs ≡ ys → AllLooks Seen xs → AllLooks Seen ys
  forth xs ys e h = subst (AllLooks Seen) e h

  told_bodies : (body : List Stmt) → AllOf Told body → (h : Here) (m : Marks) → AllLooks Seen (looks body h m) → AllTests P (texts body h).tests
  told_bodies [] all h m q = tt
  told_bodies (x ∷ xs) all h m q =
      tests_both P (written x h).tests (texts xs (past_stmt x h)).tests (all.0 h m (looks_first Seen (looks_of x h m) (looks xs (past_stmt x h) m) q))
      (told_bodies xs all.1 (past_stmt x h) m (looks_second Seen (looks_of x h m) (looks xs (past_stmt x h) m) q))

  told_cases : Cases Told
  told_cases = record {
    block = λ body line last all h m q. to _ (texts body h) (at_block Rest written_step body line last h) (told_bodies body all h m (forth _ _ (looks_block m h body line last) q));
    loop = λ var range par body line last all h m q. to _ (texts body h) (at_loop Rest written_step var range par body line last h) (told_bodies body all h (binding m var None) (forth _ _ (looks_loop m h var range par body line last) q));
    cond = λ test body line last all h m q. let k = forth _ _ (looks_cond m h test body line last) q in to _ _ (at_cond Rest written_step test body line last h) (k.0, told_bodies body all (behind_test test h) m k.1);
    bind = λ var value body line last all h m q. to _ _ (at_bind Rest written_step var value body line last h) (told_bodies body all (behind value h) (binding m var (expr_rest value h.read m).literal) (forth _ _ (looks_bind m h var value body line last) q));
    declare = λ u value line h m q. to _ _ (at_declare Rest written_step u value line h) tt;
    freeze = λ u line h m q. to _ _ (at_freeze Rest written_step u line h) tt;
    thaw = λ u line h m q. to _ _ (at_thaw Rest written_step u line h) tt;
    update = λ u at by value line h m q. to _ _ (at_update Rest written_step u at by value line h) tt;
  }

  pub written_tests : (body : List Stmt) (h : Here) (m : Marks) → AllLooks Seen (looks body h m) → AllTests P (texts body h).tests
  written_tests body = told_bodies body (all_by_kind Told told_cases body)
