-- A loop, as a run enters it, does by coordinates what it does by pieces.
use Rattle.std.proofs.Common.{◌≡◌, ℕ, zero, suc, ◌+◌, ◌-◌, ◌<◌, ◌≤◌, Bool, true, List, [], ◌∷◌, map, length, Some, None, refl, sym, ap, ◌∙◌, arith}
use Rattle.std.specs.List.{list_all}
use Rattle.fin_ast.specs.declared.tree.Stmt.{Stmt, map-Stmt}
use Rattle.fin_ast.specs.declared.tree.Stmt.TheOpen.{Stmt-F}
use Rattle.fin_ast.specs.Value.{Numbers}
use Rattle.fin_ast.specs.Dense.{range_of}
use Rattle.fin_ast.proofs.Induction.{AllOf, Cases, by_kind, all_by_kind}
use Rattle.fin_stage.specs.Staged.{Run}
use Rattle.fin_simp.specs.Numbered.{Here, behind, behind_test, past_stmt, numbered, numbered_all}
use Rattle.fin_simp.specs.Left.{Marks}
use Rattle.fin_simp.specs.Rest.{Rest, all_rest, rest_step, all_written, written_step}
use Rattle.fin_simp.specs.Work.{World, Context, Worked, work_step, rests_in, asked_to_enter, inside}
use Rattle.fin_simp.specs.Costs.{Running}
use Rattle.fin_simp.specs.Pieces.{MovesOn, Moves}
use Rattle.fin_simp.specs.Moving.{access_stays, ReadsStay, worked_all, running, LoopsByPieces}
use Rattle.fin_simp.proofs.Equations.{at_block, at_loop, at_cond, at_bind, at_declare, at_freeze, at_thaw, at_update}
use Rattle.fin_simp.proofs.Comparing.{masks_compare}
use Rattle.fin_simp.proofs.Costing.{loop_costs}
use Rattle.fin_simp.proofs.Moving.{driven_move}
use Rattle.fin_simp.proofs.Origins.{body_stays}

-- what is told of statements beside their runs is the fold that tells it alone
module _ (w : World) (A : Type 0) (step : Here → Stmt-F A → A) (f : Worked → A) (same : (h : Here) (y : Stmt-F Worked) → f (work_step w h y) ≡ step h (map-Stmt Worked A f y)) where
  abbrev Told : Stmt → Type 0
  Told x = (h : Here) → f (numbered Worked (work_step w) x h) ≡ numbered A step x h

  bodies : (body : List Stmt) → AllOf Told body → (h : Here) → map f (worked_all w body h) ≡ numbered_all A step body h
  bodies [] all h = refl
  bodies (x ∷ xs) all h = ap (λ (a : A). a ∷ map f (worked_all w xs (past_stmt x h))) (all.0 h) ∙ ap (λ (rest : List A). numbered A step x h ∷ rest) (bodies xs all.1 (past_stmt x h))

  told_cases : Cases Told
  told_cases = record {
    block = λ body line last all h. ap f (at_block Worked (work_step w) body line last h) ∙ same h (Stmt-F.Block (worked_all w body h) line last)
        ∙ ap (λ (b : List A). step h (Stmt-F.Block b line last)) (bodies body all h) ∙ sym (at_block A step body line last h);
    loop = λ var range par body line last all h. ap f (at_loop Worked (work_step w) var range par body line last h) ∙ same h (Stmt-F.Loop var range par (worked_all w body h) line last)
        ∙ ap (λ (b : List A). step h (Stmt-F.Loop var range par b line last)) (bodies body all h) ∙ sym (at_loop A step var range par body line last h);
    cond = λ test body line last all h. ap f (at_cond Worked (work_step w) test body line last h) ∙ same h (Stmt-F.Cond test (worked_all w body (behind_test test h)) line last)
        ∙ ap (λ (b : List A). step h (Stmt-F.Cond test b line last)) (bodies body all (behind_test test h)) ∙ sym (at_cond A step test body line last h);
    bind = λ var value body line last all h. ap f (at_bind Worked (work_step w) var value body line last h) ∙ same h (Stmt-F.Bind var value (worked_all w body (behind value h)) line last)
        ∙ ap (λ (b : List A). step h (Stmt-F.Bind var value b line last)) (bodies body all (behind value h)) ∙ sym (at_bind A step var value body line last h);
    declare = λ tensor value line h. ap f (at_declare Worked (work_step w) tensor value line h) ∙ same h (Stmt-F.Declare tensor value line) ∙ sym (at_declare A step tensor value line h);
    freeze = λ tensor line h. ap f (at_freeze Worked (work_step w) tensor line h) ∙ same h (Stmt-F.Freeze tensor line) ∙ sym (at_freeze A step tensor line h);
    thaw = λ tensor line h. ap f (at_thaw Worked (work_step w) tensor line h) ∙ same h (Stmt-F.Thaw tensor line) ∙ sym (at_thaw A step tensor line h);
    update = λ tensor at by value line h. ap f (at_update Worked (work_step w) tensor at by value line h) ∙ same h (Stmt-F.Update tensor at by value line) ∙ sym (at_update A step tensor at by value line h);
  }

  pub told_of : (x : Stmt) → Told x
  told_of = by_kind Told told_cases

  pub told : (body : List Stmt) (h : Here) → map f (worked_all w body h) ≡ numbered_all A step body h
  told body h = bodies body (all_by_kind Told told_cases body) h

module _ (w : World) (body : List Stmt) (h : Here) (stay : ReadsStay w.setting body h) where
  -- in any context
  rests_stay : (ctx : Context) → list_all (access_stays w.setting) (rests_in ctx (worked_all w body h)).reads ≡ true
  rests_stay None = ap (λ (rs : List Rest). list_all (access_stays w.setting) (all_written rs).reads) (told w Rest written_step (λ (s : Worked). s.written) (λ k y. refl) body h) ∙ stay
  rests_stay (Some m) =
      ap (λ (rs : List (Marks → Rest)). list_all (access_stays w.setting) (all_rest rs m).reads) (told w (Marks → Rest) rest_step (λ (s : Worked). s.rest) (λ k y. refl) body h)
      ∙ body_stays (access_stays w.setting) body h m stay

  module _ (ctx : Context) (var : ℕ) (par : Bool) (vars : Numbers) (r : Run) (bound : var < length vars) where
    abbrev x : Running
    x = running w ctx var par (worked_all w body h) vars r

    abbrev rest : Rest
    rest = rests_in (inside ctx var None) (worked_all w body h)

    moves_on : (n c : ℕ) → (range_of w.setting var).0 ≤ c → c + n < (range_of w.setting var).1 → MovesOn x n c
    moves_on zero c from to = tt
    moves_on (suc n) c from to =
        (driven_move w.setting vars var c bound from (omega (arith, to)) w vars r rest.changed rest.reads refl (rests_stay (inside ctx var None)), moves_on n (c + 1) (omega (arith, from)) (omega (arith, to)))

    moves_by : (len : ℕ) → len ≡ (range_of w.setting var).1 - (range_of w.setting var).0 → Moves x len
    moves_by zero e = tt
    moves_by (suc n) e = moves_on n (range_of w.setting var).0 (omega arith) (omega (arith, e))

pub loops_by_pieces : LoopsByPieces
loops_by_pieces w h ctx var range par body line last vars r bound stay =
    let x = running w ctx var par (worked_all w body h) vars r in
    loop_costs.pieces x (asked_to_enter w (inside ctx var None) par (worked_all w body h) r) (masks_compare vars var (rests_in (inside ctx var None) (worked_all w body h))) (moves_by w body h stay ctx var par vars r bound x.loop.len refl)
