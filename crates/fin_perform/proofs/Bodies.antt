-- The codes of a body's statements perform what the body does, and under a test what is chosen.
use Rattle.std.proofs.Common.{◌≡◌, ℕ, zero, suc, Bool, true, false, List, [], ◌∷◌, ◌++◌, map, length, Option, Some, if◌then◌else◌, refl, sym, ap, ◌∙◌, ℤ, pos, arith}
use Rattle.std.specs.Ordering.{int_eq}
use Rattle.fin_tensor.specs.declared.storage.Storage.{Storage}
use Rattle.fin_ast.specs.declared.checked.Checked.{Checked}
use Rattle.fin_ast.specs.declared.tree.Expr.{Expr}
use Rattle.fin_ast.specs.declared.tree.Stmt.{Stmt}
use Rattle.fin_ast.specs.declared.tree.Stmt.TheOpen.{Stmt-F}
use Rattle.fin_ast.specs.declared.tree.Stmt.TheVariants as s
use Rattle.fin_ast.specs.Dense.{Setting, setting_of}
use Rattle.fin_ast.specs.Value.{Numbers}
use Rattle.fin_ir.specs.declared.code.Code.{Code}
use Rattle.fin_ir.specs.declared.code.Code.TheVariants.{Seq, When}
use Rattle.fin_ir.specs.declared.layout.Layout.{Layout}
use Rattle.fin_ir.specs.Machine.{Machine}
use Rattle.fin_ir.specs.Meaning.{meaning_all}
use Rattle.fin_stage.specs.Stages.{Stage, Absent, is_declared, stage_at, kept}
use Rattle.fin_stage.specs.Staged.{Run, Action, worked, closed, with_value}
use Rattle.fin_stage.specs.Trailing.{StageTrails, RunTrails}
use Rattle.fin_stage.proofs.Onward.{onward_closed}
use Rattle.fin_read.specs.Values.{Lowered, value_code, prelude}
use Rattle.fin_nest.specs.Related.{Start}
use Rattle.fin_nest.specs.Senses.{Behind, runs, Advances}
use Rattle.fin_nest.specs.Performs.{Place, Performs}
use Rattle.fin_nest.proofs.Pinning.{live_closed, related_on}
use Rattle.fin_nest.proofs.Senses.{advances}
use Rattle.fin_nest.proofs.Statements.{performs_when}
use Rattle.fin_simp.specs.Numbered.{Here, behind_test, past_stmt, past_all}
use Rattle.fin_simp.specs.Work.{World, Worked, Context, work_step, world_of, chosen}
use Rattle.fin_simp.specs.Moving.{worked_all}
use Rattle.fin_simp.proofs.Equations.{at_block, at_cond}
use Rattle.fin_perform.specs.Bodies.{DoesBody, BodyPerforms, BodiesPerform, TestsPerform}
use Rattle.fin_perform.specs.Codes.{charge_of, cond_code}
use Rattle.fin_perform.specs.Layouts.{heads_in, layout_with, start_with}
use Rattle.fin_perform.specs.Performing.{Does, DoesStmt}
use Rattle.fin_perform.specs.Working.{run_of, turns_of, body_of, nothing_in, test_at}
use Rattle.fin_perform.proofs.Composing.{does_as, seq_does, nothing_does, both_do, paid_does, advances_still, advances_then}
use Rattle.fin_perform.proofs.Evaluating.{knowing, with_value_does}
use Rattle.fin_perform.proofs.Working.{run_left}

-- ---- the end of a body

either_trails : (b : Bool) (x y : Stage) → StageTrails x y → StageTrails (if b then x else Absent) (if b then y else Absent)
either_trails true x y k = k
either_trails false x y k = refl

-- what is gone is gone of both
kept_trails : (b s s' : List Stage) → length s' ≡ length s → ((t : ℕ) → StageTrails (stage_at s t) (stage_at s' t)) → (t : ℕ) → StageTrails (stage_at (kept b s) t) (stage_at (kept b s') t)
kept_trails [] s s' l h t = h t
kept_trails (x ∷ b) [] [] l h t = refl
kept_trails (x ∷ b) [] (v ∷ s') l h t = cc
kept_trails (x ∷ b) (u ∷ s) [] l h t = cc
kept_trails (x ∷ b) (u ∷ s) (v ∷ s') l h zero = either_trails (is_declared x) u v (h 0)
kept_trails (x ∷ b) (u ∷ s) (v ∷ s') l h (suc t) = kept_trails b s s' (omega (arith, l)) (λ k. h (suc k)) t

closed_trails : (b : List Stage) (r r' : Run) → RunTrails r r' → RunTrails (closed b r) (closed b r')
closed_trails b r r' tr = record {
  long = (onward_closed b r').long ∙ tr.long ∙ sym (onward_closed b r).long;
  stages = kept_trails b r.stages r'.stages tr.long tr.stages;
  work = tr.work;
  regular = λ h. tr.regular h;
}

closed_behind : (s : Start) (b : List Stage) (r : Run) (m : Machine) → Behind s r m → Behind s (closed b r) m
closed_behind s b r m k = record {
  run = closed b k.run;
  trails = closed_trails b r k.run k.trails;
  related = related_on s [] [] k.run (closed b k.run) m (onward_closed b k.run) k.related (λ l. live_closed s b [] k.run m (onward_closed b k.run) l);
}

-- some behind others
pub turns_joined : (w : World) (xs ys : List Stmt) (h : Here) (ctx : Context) (vars : Numbers) (r : Run)
    → turns_of w (xs ++ ys) h ctx vars r ≡ turns_of w ys (past_all (map past_stmt xs) h) ctx vars (turns_of w xs h ctx vars r)
turns_joined w [] ys h ctx vars r = refl
turns_joined w (y ∷ xs) ys h ctx vars r = turns_joined w xs ys (past_stmt y h) ctx vars (run_of w y h ctx vars r)

module _ (c : Checked) (room : ℕ) (inputs : List Storage) (p : Place) where
  abbrev world : World
  world = world_of c inputs

  abbrev set : Setting
  set = setting_of c inputs

  abbrev start : Start
  start = start_with c room inputs

  abbrev layout : Layout
  layout = layout_with c room

  -- codes of what a body does do the body, at whose end is gone what was declared in it
  pub closing_does : (cs : List Code) (f : Run → Run) → Does c room inputs p cs f → Does c room inputs p cs (λ r. closed r.stages (f r))
  closing_does cs f d = record {
    performs = record {
      does = λ r n ready k g. closed_behind start r.stages (f r) (meaning_all layout cs n) (d.performs.does r n ready k g);
      leaves = d.performs.leaves;
    };
    advances = λ r. advances_then r (f r) (closed r.stages (f r)) (d.advances r) (advances (f r) (closed r.stages (f r)) (onward_closed r.stages (f r)));
  }

  module _ (ctx : Context) (vars : Numbers) where
    known_does : (test : Expr) (xs : List Stmt) (line last : ℕ) (h : Here) (n : ℤ) (cs : List Code) → nothing_in (s.Cond test xs line last) h ctx ≡ false → test_at test h ctx ≡ Some n
        → DoesBody c room inputs p cs xs (behind_test test h) ctx vars → DoesStmt c room inputs p cs (s.Cond test xs line last) h ctx vars
    known_does test xs line last h n cs some e d =
        let parts : List Worked = worked_all world xs (behind_test test h) in
        let body : Action = λ ns r. body_of world xs (behind_test test h) ctx ns r in
        does_as c room inputs p cs (run_of world (s.Cond test xs line last) h ctx vars) (body vars)
        (λ r. run_left world (s.Cond test xs line last) h (Stmt-F.Cond test parts line last) (at_cond Worked (work_step world) test xs line last h) vars r ctx some
        ∙ ap (λ (o : Option ℤ). chosen set o test body vars r) e) d

    pub body_performs : BodyPerforms c room inputs p ctx vars
    body_performs = record {
      nothing = λ h. nothing_does c room inputs p;
      next = λ x xs h cs ds stay a b. both_do c room inputs p cs ds (run_of world x h ctx vars) (turns_of world xs (past_stmt x h) ctx vars) stay a b;
      last = λ xs x h cs ds stay a b.
          let g : Run → Run = run_of world x (past_all (map past_stmt xs) h) ctx vars in
          does_as c room inputs p (cs ++ ds) (turns_of world (xs ++ x ∷ []) h ctx vars) (λ r. g (turns_of world xs h ctx vars r)) (turns_joined world xs (x ∷ []) h ctx vars)
          (both_do c room inputs p cs ds (turns_of world xs h ctx vars) g stay a b);
      body = λ xs h cs d. closing_does cs (turns_of world xs h ctx vars) d;
      block = λ xs line last h cs some d.
          does_as c room inputs p cs (run_of world (s.Block xs line last) h ctx vars) (body_of world xs h ctx vars)
          (λ r. run_left world (s.Block xs line last) h (Stmt-F.Block (worked_all world xs h) line last) (at_block Worked (work_step world) xs line last h) vars r ctx some) d;
      known = known_does;
    }

pub bodies_perform : BodiesPerform
bodies_perform = body_performs

-- ---- tests that are asked

either_advances : (b : Bool) (r n : Run) → Advances r n → Advances r (if b then r else n)
either_advances true r n a = advances_still r
either_advances false r n a = a

pub tests_perform : TestsPerform
tests_perform c room inputs sc vars p fits given_fit stands test xs line last h ctx cs named enough some none d =
    let v : Lowered = value_code (heads_in c) test p.next in
    let body : Action = λ ns r. body_of (world_of c inputs) xs (behind_test test h) ctx ns r in
    let after : ℤ → Run → Run = λ z r. if int_eq z (pos 0) then r else body vars r in
    let rest : List Code = When v.value (Seq cs) ∷ [] in
    let asks : Run → Run = with_value (setting_of c inputs) test vars after in
    let inner : (z : ℤ) → Performs (layout_with c room) (runs (start_with c room inputs)) (knowing p (v.value, z)) cs (body vars) =
    λ z. record {
      does = λ r n ready k. d.performs.does r n (record { live = ready.live; locals = ready.locals; facts = ready.facts.1 }) k;
      leaves = λ r n ready k.
          let l = d.performs.leaves r n (record { live = ready.live; locals = ready.locals; facts = ready.facts.1 }) k in
          record { long = l.long; kept = l.kept; steady = l.steady };
    } in
    let asked : Does c room inputs p (prelude v ++ rest) asks =
    with_value_does c room inputs fits given_fit sc vars p stands test named enough rest after (λ z. record {
      performs = performs_when (layout_with c room) (runs (start_with c room inputs)) (knowing p (v.value, z)) v.value (λ r. z) cs (body vars) (λ r n ready k. ready.facts.0) (inner z);
      advances = λ r. either_advances (int_eq z (pos 0)) r (body vars r) (d.advances r);
    }) in
    does_as c room inputs p (cond_code v cs ∷ []) (run_of (world_of c inputs) (s.Cond test xs line last) h ctx vars) (λ r. asks (worked 1 r))
    (λ r. run_left (world_of c inputs) (s.Cond test xs line last) h (Stmt-F.Cond test (worked_all (world_of c inputs) xs (behind_test test h)) line last) (at_cond Worked (work_step (world_of c inputs)) test xs line last h) vars r ctx some
    ∙ ap (λ (o : Option ℤ). chosen (setting_of c inputs) o test body vars r) none)
    (seq_does c room inputs p (charge_of 1 ∷ prelude v ++ rest) (λ r. asks (worked 1 r)) (paid_does c room inputs p 1 (prelude v ++ rest) asks stands.stay asked))
