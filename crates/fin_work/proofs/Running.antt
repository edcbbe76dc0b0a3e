-- What the run by pieces does with a statement: nothing where nothing is left, and what its kind does elsewhere.
use Rattle.std.proofs.Common.{◌≡◌, true, false, List, [], ◌∷◌, map, Some, None, refl, sym, ap, ◌∙◌, subst}
use Rattle.fin_ast.specs.declared.tree.Stmt.{Stmt}
use Rattle.fin_ast.specs.declared.tree.Stmt.TheOpen.{Stmt-F}
use Rattle.fin_ast.specs.declared.tree.Stmt.TheVariants as s
use Rattle.fin_ast.specs.Actions.{in_turn}
use Rattle.fin_ast.proofs.Induction.{AllOf, Cases, all_by_kind}
use Rattle.fin_ast.specs.Value.{Numbers}
use Rattle.fin_stage.specs.Staged.{Run}
use Rattle.fin_stage.proofs.Alive.{left, right}
use Rattle.fin_simp.specs.Numbered.{Here, behind, behind_test, past_stmt}
use Rattle.fin_simp.specs.Left.{Marks}
use Rattle.fin_simp.specs.Remaining.{is_nothing, are_nothing}
use Rattle.fin_simp.specs.Rest.{Kind, Nothing, OneUpdate, Other, Rest, is_none_kind, all_rest, rest_step, rest_of}
use Rattle.fin_simp.specs.Work.{World, Worked, work_step, rests_in, unless_nothing, done}
use Rattle.fin_simp.specs.Moving.{worked_all}
use Rattle.fin_simp.proofs.Equations.{at_block, at_loop, at_cond, at_bind, at_declare, at_freeze, at_thaw, at_update}
use Rattle.fin_simp.proofs.Resting.{rest_agrees, rests_agree}
use Rattle.fin_simp.proofs.Loops.{told_of, told}
use Rattle.fin_work.proofs.Carrying.{worked_of}

module _ (w : World) where
  rest_is : (x : Stmt) (h : Here) → (worked_of w x h).rest ≡ rest_of x h
  rest_is x h = told_of w (Marks → Rest) rest_step (λ (s : Worked). s.rest) (λ k y. refl) x h

  nothing_is : (x : Stmt) (h : Here) (m : Marks) → is_none_kind ((worked_of w x h).rest m).kind ≡ is_nothing x h m
  nothing_is x h m = ap (λ (f : Marks → Rest). is_none_kind (f m).kind) (rest_is x h) ∙ rest_agrees x h m

  pub nothing_are : (body : List Stmt) (h : Here) (m : Marks) → is_none_kind (rests_in (Some m) (worked_all w body h)).kind ≡ are_nothing body h m
  nothing_are body h m = ap (λ (fs : List (Marks → Rest)). is_none_kind (all_rest fs m).kind) (told w (Marks → Rest) rest_step (λ (s : Worked). s.rest) (λ k y. refl) body h) ∙ rests_agree body h m

  module _ (x : Stmt) (h : Here) (y : Stmt-F Worked) (is : worked_of w x h ≡ work_step w h y) (vars : Numbers) (r : Run) (Q : Run → Type 0) where
    by_kind : (m : Marks) (k : Kind) → ((work_step w h y).rest m).kind ≡ k → (is_nothing x h m ≡ true → Q r) → (is_nothing x h m ≡ false → Q (done w h y (Some m) vars r)) → Q (unless_nothing k r (done w h y (Some m) vars r))
    by_kind m Nothing e p q = p (sym (nothing_is x h m) ∙ ap (λ (z : Worked). is_none_kind (z.rest m).kind) is ∙ ap is_none_kind e)
    by_kind m OneUpdate e p q = q (sym (nothing_is x h m) ∙ ap (λ (z : Worked). is_none_kind (z.rest m).kind) is ∙ ap is_none_kind e)
    by_kind m Other e p q = q (sym (nothing_is x h m) ∙ ap (λ (z : Worked). is_none_kind (z.rest m).kind) is ∙ ap is_none_kind e)

    pub inside_piece : (m : Marks) → (is_nothing x h m ≡ true → Q r) → (is_nothing x h m ≡ false → Q (done w h y (Some m) vars r)) → Q ((worked_of w x h).run (Some m) vars r)
    inside_piece m p q = subst (λ (z : Worked). Q (z.run (Some m) vars r)) (sym is) (by_kind m ((work_step w h y).rest m).kind refl p q)

    pub outside_pieces : Q (done w h y None vars r) → Q ((worked_of w x h).run None vars r)
    outside_pieces q = subst (λ (z : Worked). Q (z.run None vars r)) (sym is) q

  -- what is nothing does nothing
  run_nothing : (z : Worked) (h : Here) (y : Stmt-F Worked) (m : Marks) → z ≡ work_step w h y → is_none_kind (z.rest m).kind ≡ true → (vars : Numbers) (r : Run) → z.run (Some m) vars r ≡ r
  run_nothing z h y m is e vars r = ap (λ (u : Worked). u.run (Some m) vars r) is ∙ by ((work_step w h y).rest m).kind (sym (ap (λ (u : Worked). is_none_kind (u.rest m).kind) is) ∙ e) where
    by : (k : Kind) → is_none_kind k ≡ true → unless_nothing k r (done w h y (Some m) vars r) ≡ r
    by Nothing e = refl
    by OneUpdate e = cc
    by Other e = cc

  abbrev Rests : Stmt → Type 0
  Rests x = (h : Here) (m : Marks) → is_nothing x h m ≡ true → (vars : Numbers) (r : Run) → (worked_of w x h).run (Some m) vars r ≡ r

  rests_by : (x : Stmt) (h : Here) (y : Stmt-F Worked) → worked_of w x h ≡ work_step w h y → (m : Marks) → is_nothing x h m ≡ true → (vars : Numbers) (r : Run) → (worked_of w x h).run (Some m) vars r ≡ r
  rests_by x h y is m e vars r = run_nothing (worked_of w x h) h y m is (nothing_is x h m ∙ e) vars r

  rests_cases : Cases Rests
  rests_cases = record {
    block = λ body line last all h m. rests_by (s.Block body line last) h (Stmt-F.Block (worked_all w body h) line last) (at_block Worked (work_step w) body line last h) m;
    loop = λ var range par body line last all h m. rests_by (s.Loop var range par body line last) h (Stmt-F.Loop var range par (worked_all w body h) line last) (at_loop Worked (work_step w) var range par body line last h) m;
    cond = λ test body line last all h m. rests_by (s.Cond test body line last) h (Stmt-F.Cond test (worked_all w body (behind_test test h)) line last) (at_cond Worked (work_step w) test body line last h) m;
    bind = λ var value body line last all h m. rests_by (s.Bind var value body line last) h (Stmt-F.Bind var value (worked_all w body (behind value h)) line last) (at_bind Worked (work_step w) var value body line last h) m;
    declare = λ tensor value line h m. rests_by (s.Declare tensor value line) h (Stmt-F.Declare tensor value line) (at_declare Worked (work_step w) tensor value line h) m;
    freeze = λ tensor line h m. rests_by (s.Freeze tensor line) h (Stmt-F.Freeze tensor line) (at_freeze Worked (work_step w) tensor line h) m;
    thaw = λ tensor line h m. rests_by (s.Thaw tensor line) h (Stmt-F.Thaw tensor line) (at_thaw Worked (work_step w) tensor line h) m;
    update = λ tensor at by value line h m. rests_by (s.Update tensor at by value line) h (Stmt-F.Update tensor at by value line) (at_update Worked (work_step w) tensor at by value line h) m;
  }

  all_rest_by : (body : List Stmt) → AllOf Rests body → (h : Here) (m : Marks) → are_nothing body h m ≡ true → (vars : Numbers) (r : Run) → in_turn (map (λ (z : Worked). z.run (Some m)) (worked_all w body h)) vars r ≡ r
  all_rest_by [] all h m e vars r = refl
  all_rest_by (x ∷ xs) all h m e vars r =
      ap (λ (n : Run). in_turn (map (λ (z : Worked). z.run (Some m)) (worked_all w xs (past_stmt x h))) vars n) (all.0 h m (left (is_nothing x h m) (are_nothing xs (past_stmt x h) m) e) vars r)
      ∙ all_rest_by xs all.1 (past_stmt x h) m (right (is_nothing x h m) (are_nothing xs (past_stmt x h) m) e) vars r

  pub nothing_runs : (body : List Stmt) (h : Here) (m : Marks) → are_nothing body h m ≡ true → (vars : Numbers) (r : Run) → in_turn (map (λ (z : Worked). z.run (Some m)) (worked_all w body h)) vars r ≡ r
  nothing_runs body h m e vars r = all_rest_by body (all_by_kind Rests rests_cases body) h m e vars r
