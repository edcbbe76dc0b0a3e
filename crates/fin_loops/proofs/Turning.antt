-- A loop of which something is left, in a run: behind what its entry asks it does its turns.
use Rattle.std.proofs.Common.{◌≡◌, ℕ, Bool, true, false, ◌&&◌, List, Option, None, sym, ap, ◌∙◌, subst, arith}
use Rattle.fin_ast.specs.declared.tree.Stmt.{Stmt}
use Rattle.fin_ast.specs.declared.tree.Stmt.TheOpen.{Stmt-F}
use Rattle.fin_stage.specs.Staged.{Run, regular, worked, asked_to_read}
use Rattle.fin_stage.proofs.Alive.{left}
use Rattle.fin_nest.specs.Senses.{Advances}
use Rattle.fin_simp.specs.Work.{World, Worked, work_step, all_fresh, rests_in, can_be_entered, asked_to_enter, inside, entry_of, done}
use Rattle.fin_simp.specs.Costs.{Running}
use Rattle.fin_simp.specs.Moving.{worked_all, running}
use Rattle.fin_simp.proofs.Equations.{at_loop}
use Rattle.fin_simp.proofs.GoingOn.{loops_are_enterable}
use Rattle.fin_drive.specs.Watches.{part_of}
use Rattle.fin_perform.specs.Working.{run_of, nothing_in}
use Rattle.fin_perform.proofs.Composing.{advances_still, advances_then}
use Rattle.fin_perform.proofs.Working.{run_left}
use Rattle.fin_loops.specs.Loops.{Loop}
use Rattle.fin_loops.specs.Entering.{stmt_of, Spot, world_at}
use Rattle.fin_loops.proofs.Advancing.{advances_worked, parts_advance}

-- what is asked takes back no work
asked_advances : (b : Bool) (r : Run) → Advances r (asked_to_read b r)
asked_advances true r = advances_still r
asked_advances false r = record { before = λ e. absurd (let h = left (false && r.small) r.ordered e in cc); work = omega arith }

module _ (l : Loop) (range : Option (ℕ × ℕ)) (par : Bool) (line last : ℕ) (some : nothing_in (stmt_of l range par line last) l.here l.context ≡ false) (q : Spot) where
  abbrev pub x : Stmt
  x = stmt_of l range par line last

  abbrev pub w : World
  w = world_at l q

  abbrev pub body : List Worked
  body = worked_all w l.body l.here

  abbrev pub does_loop : Run → Run
  does_loop = run_of w x l.here l.context q.vars

  -- the loop's coordinates, behind its entry
  abbrev pub entering : Run → Running
  entering r = running w l.context l.var par body q.vars r

  abbrev pub all_turns : Run → Run → Run
  all_turns r = part_of (entering r) (entering r).loop.lo (entering r).loop.len

  pub loop_is : (r : Run) → does_loop r ≡ done w l.here (Stmt-F.Loop l.var range par body line last) l.context q.vars r
  loop_is r = run_left w x l.here (Stmt-F.Loop l.var range par body line last) (at_loop Worked (work_step w) l.var range par l.body line last l.here) q.vars r l.context some

  -- behind what its entry asks, which is there in a regular run
  abbrev pub asked : Run → Run
  asked r = asked_to_enter w (inside l.context l.var None) par body r

  asked_turns : (r : Run) → does_loop r ≡ all_turns r (worked (entry_of (entering r).loop) (asked r))
  asked_turns r = loop_is r

  pub can_enter : (r : Run) → regular (does_loop r) ≡ true → can_be_entered w par (all_fresh body) (rests_in (inside l.context l.var None) body) r ≡ true
  can_enter r fine = loops_are_enterable w l.here l.context l.var range par l.body line last q.vars r (ap regular (sym (loop_is r)) ∙ fine)

  pub turns_are : (r : Run) → regular (does_loop r) ≡ true → does_loop r ≡ all_turns r (worked (entry_of (entering r).loop) r)
  turns_are r fine = asked_turns r ∙ ap (λ (b : Bool). all_turns r (worked (entry_of (entering r).loop) (asked_to_read b r))) (can_enter r fine)

  pub turns_advance : (r k : Run) → Advances k (all_turns r k)
  turns_advance r k = parts_advance w l.context l.var par l.body l.here q.vars r (entering r).loop.lo (entering r).loop.len k

  pub loop_advances : (r : Run) → Advances r (does_loop r)
  loop_advances r =
      let begun : Run = asked r in
      let paid : Run = worked (entry_of (entering r).loop) begun in
      subst (Advances r) (sym (asked_turns r))
      (advances_then r begun (all_turns r paid) (asked_advances (can_be_entered w par (all_fresh body) (rests_in (inside l.context l.var None) body) r) r)
      (advances_then begun paid (all_turns r paid) (advances_worked (entry_of (entering r).loop) begun) (turns_advance r paid)))
