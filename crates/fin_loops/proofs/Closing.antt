-- What isn't there before a loop isn't there behind some of its coordinates: what its body declares is gone at each end.
use Rattle.std.proofs.Common.{◌≡◌, ℕ, zero, suc, ◌+◌, ◌<◌, Bool, true, false, if◌then◌else◌, List, [], ◌∷◌, Some, length, refl, ap, pos, arith}
use Rattle.std.specs.Prelude.{slice_set}
use Rattle.fin_ast.specs.declared.tree.Stmt.{Stmt}
use Rattle.fin_ast.specs.Value.{Numbers}
use Rattle.fin_stage.specs.Stages.{Stage, Absent, is_declared, stage_at, kept}
use Rattle.fin_stage.specs.Staged.{Run, worked}
use Rattle.fin_simp.specs.Left.{Marks}
use Rattle.fin_simp.specs.Numbered.{Here}
use Rattle.fin_simp.specs.Rest.{is_none_kind}
use Rattle.fin_simp.specs.Work.{World, Context, marks_at, is_fixed, costing, first_share, turn, turns, ends_after, all_of}
use Rattle.fin_simp.specs.Costs.{Running}
use Rattle.fin_simp.specs.Moving.{worked_all, running}
use Rattle.fin_simp.proofs.GoingOn.{bodies_go_on}
use Rattle.fin_drive.specs.Watches.{part_of}
use Rattle.fin_loops.specs.Chunks.{AreAbsent}

absent_kept : (before stages : List Stage) (t : ℕ) → t < length before → stage_at before t ≡ Absent → stage_at (kept before stages) t ≡ Absent
absent_kept [] stages t lt e = absurd (omega (arith, lt))
absent_kept (b ∷ before) [] t lt e = refl
absent_kept (b ∷ before) (x ∷ stages) zero lt e = ap (λ (y : Stage). if is_declared y then x else Absent) e
absent_kept (b ∷ before) (x ∷ stages) (suc t) lt e = absent_kept before stages t (omega (arith, lt)) e

module _ (w : World) (own : ℕ → Bool) where
  abbrev Without : Run → Type 0
  Without r = AreAbsent w.setting own r

  body_without : (body : List Stmt) (h : Here) (m : Marks) (vars : Numbers) (r : Run) → Without r → Without (all_of (worked_all w body h) (Some m) vars r)
  body_without body h m vars r absent t o =
      let q = absent t o in
      let long = (bodies_go_on w body h (Some m) vars r).long in
      let lt = q.0 in
      (omega (arith, lt, long), absent_kept r.stages _ t q.0 q.1, q.2)

  module _ (x : Running) (goes : (m : Marks) (vars : Numbers) (r : Run) → Without r → Without (x.body m vars r)) where
    chosen_without : (none fixed : Bool) (share : ℕ) (m : Marks) (inner : Numbers) (r : Run) → Without r
        → Without (if none then r else (if fixed then costing share r (x.body m inner r) else x.body m inner (worked 1 r)))
    chosen_without true fixed share m inner r a = a
    chosen_without false true share m inner r a = λ t o. goes m inner r a t o
    chosen_without false false share m inner r a = goes m inner (worked 1 r) (λ t o. a t o)

    turn_without : (begins : Bool) (c : ℕ) (r : Run) → Without r → Without (turn x.loop x.rest x.body x.around x.vars begins c r)
    turn_without begins c r a =
        let here = marks_at x.loop x.vars x.around c in
        chosen_without (is_none_kind (x.rest here).kind) (is_fixed x.loop x.vars (x.rest here) c) (first_share begins) here (slice_set x.vars x.loop.var (pos c)) r a

    turns_without : (n c : ℕ) (begins : Bool) (r : Run) → Without r → Without (turns (turn x.loop x.rest x.body x.around x.vars) (ends_after x.loop x.vars) n begins c r)
    turns_without zero c begins r a = a
    turns_without (suc n) c begins r a =
        let next = turn x.loop x.rest x.body x.around x.vars begins c r in
        turns_without n (c + 1) (ends_after x.loop x.vars c) next (turn_without begins c r a)

  -- so many coordinates of a loop of a program, from one on
  pub parts_without : (ctx : Context) (var : ℕ) (par : Bool) (body : List Stmt) (h : Here) (vars : Numbers) (r0 : Run) (from count : ℕ) (r : Run)
      → Without r → Without (part_of (running w ctx var par (worked_all w body h) vars r0) from count r)
  parts_without ctx var par body h vars r0 from count r a =
      turns_without (running w ctx var par (worked_all w body h) vars r0) (λ m ns k. body_without body h m ns k) count from true r a
