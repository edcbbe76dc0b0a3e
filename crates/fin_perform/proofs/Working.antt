-- What a statement does to a run: nothing where nothing is left, and what its kind does elsewhere.
use Rattle.std.proofs.Common.{◌≡◌, true, false, Some, None, refl, sym, ap, ◌∙◌}
use Rattle.fin_ast.specs.declared.tree.Stmt.{Stmt}
use Rattle.fin_ast.specs.declared.tree.Stmt.TheOpen.{Stmt-F}
use Rattle.fin_ast.specs.declared.tree.Stmt.TheVariants as s
use Rattle.fin_ast.specs.Value.{Numbers}
use Rattle.fin_ast.proofs.Induction.{Cases, by_kind}
use Rattle.fin_stage.specs.Staged.{Run}
use Rattle.fin_simp.specs.Numbered.{Here, behind, behind_test}
use Rattle.fin_simp.specs.Left.{Marks}
use Rattle.fin_simp.specs.Remaining.{is_nothing}
use Rattle.fin_simp.specs.Rest.{Kind, Nothing, OneUpdate, Other, Rest, is_none_kind, rest_step}
use Rattle.fin_simp.specs.Work.{World, Worked, Context, work_step, unless_nothing, done}
use Rattle.fin_simp.specs.Moving.{worked_all}
use Rattle.fin_simp.proofs.Equations.{at_block, at_loop, at_cond, at_bind, at_declare, at_freeze, at_thaw, at_update}
use Rattle.fin_simp.proofs.Resting.{rest_agrees}
use Rattle.fin_simp.proofs.Loops.{told_of}
use Rattle.fin_perform.specs.Working.{worked_at, run_of, nothing_in}

module _ (w : World) where
  nothing_is : (x : Stmt) (h : Here) (m : Marks) → is_none_kind ((worked_at w x h).rest m).kind ≡ is_nothing x h m
  nothing_is x h m = ap (λ (f : Marks → Rest). is_none_kind (f m).kind) (told_of w (Marks → Rest) rest_step (λ (z : Worked). z.rest) (λ k y. refl) x h) ∙ rest_agrees x h m

  module _ (x : Stmt) (h : Here) (y : Stmt-F Worked) (is : worked_at w x h ≡ work_step w h y) (vars : Numbers) (r : Run) where
    kind_is : (m : Marks) → is_none_kind ((work_step w h y).rest m).kind ≡ is_nothing x h m
    kind_is m = sym (ap (λ (z : Worked). is_none_kind (z.rest m).kind) is) ∙ nothing_is x h m

    left_by : (k : Kind) (n : Run) → is_none_kind k ≡ false → unless_nothing k r n ≡ n
    left_by Nothing n e = cc
    left_by OneUpdate n e = refl
    left_by Other n e = refl

    none_by : (k : Kind) (n : Run) → is_none_kind k ≡ true → unless_nothing k r n ≡ r
    none_by Nothing n e = refl
    none_by OneUpdate n e = cc
    none_by Other n e = cc

    pub run_left : (ctx : Context) → nothing_in x h ctx ≡ false → run_of w x h ctx vars r ≡ done w h y ctx vars r
    run_left None e = ap (λ (z : Worked). z.run None vars r) is
    run_left (Some m) e = ap (λ (z : Worked). z.run (Some m) vars r) is ∙ left_by ((work_step w h y).rest m).kind (done w h y (Some m) vars r) (kind_is m ∙ e)

    run_none : (ctx : Context) → nothing_in x h ctx ≡ true → run_of w x h ctx vars r ≡ r
    run_none None e = cc
    run_none (Some m) e = ap (λ (z : Worked). z.run (Some m) vars r) is ∙ none_by ((work_step w h y).rest m).kind (done w h y (Some m) vars r) (kind_is m ∙ e)

  abbrev IsNone : Stmt → Type 0
  IsNone x = (h : Here) (ctx : Context) → nothing_in x h ctx ≡ true → (vars : Numbers) (r : Run) → run_of w x h ctx vars r ≡ r

  cases : Cases IsNone
  cases = record {
    block = λ body line last all h ctx e vars r. run_none (s.Block body line last) h (Stmt-F.Block (worked_all w body h) line last) (at_block Worked (work_step w) body line last h) vars r ctx e;
    loop = λ var range par body line last all h ctx e vars r. run_none (s.Loop var range par body line last) h (Stmt-F.Loop var range par (worked_all w body h) line last) (at_loop Worked (work_step w) var range par body line last h) vars r ctx e;
    cond = λ test body line last all h ctx e vars r. run_none (s.Cond test body line last) h (Stmt-F.Cond test (worked_all w body (behind_test test h)) line last) (at_cond Worked (work_step w) test body line last h) vars r ctx e;
    bind = λ var value body line last all h ctx e vars r. run_none (s.Bind var value body line last) h (Stmt-F.Bind var value (worked_all w body (behind value h)) line last) (at_bind Worked (work_step w) var value body line last h) vars r ctx e;
    declare = λ tensor value line h ctx e vars r. run_none (s.Declare tensor value line) h (Stmt-F.Declare tensor value line) (at_declare Worked (work_step w) tensor value line h) vars r ctx e;
    freeze = λ tensor line h ctx e vars r. run_none (s.Freeze tensor line) h (Stmt-F.Freeze tensor line) (at_freeze Worked (work_step w) tensor line h) vars r ctx e;
    thaw = λ tensor line h ctx e vars r. run_none (s.Thaw tensor line) h (Stmt-F.Thaw tensor line) (at_thaw Worked (work_step w) tensor line h) vars r ctx e;
    update = λ tensor at by value line h ctx e vars r. run_none (s.Update tensor at by value line) h (Stmt-F.Update tensor at by value line) (at_update Worked (work_step w) tensor at by value line h) vars r ctx e;
  }

  -- a statement of which nothing is left does nothing
  pub nothing_runs : (x : Stmt) → IsNone x
  nothing_runs = by_kind IsNone cases
