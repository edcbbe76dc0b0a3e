-- A loop by pieces takes no work back.
use Rattle.std.proofs.Common.{ℕ, zero, suc, ◌+◌, Bool, true, false, if◌then◌else◌, List, arith, pos}
use Rattle.std.specs.Prelude.{slice_set}
use Rattle.fin_ast.specs.declared.tree.Stmt.{Stmt}
use Rattle.fin_ast.specs.Value.{Numbers}
use Rattle.fin_stage.specs.Staged.{Run, worked}
use Rattle.fin_nest.specs.Senses.{Advances}
use Rattle.fin_simp.specs.Left.{Marks}
use Rattle.fin_simp.specs.Numbered.{Here}
use Rattle.fin_simp.specs.Rest.{is_none_kind}
use Rattle.fin_simp.specs.Work.{World, Context, marks_at, is_fixed, costing, first_share, turn, turns, ends_after}
use Rattle.fin_simp.specs.Costs.{Running}
use Rattle.fin_simp.specs.Moving.{worked_all, running}
use Rattle.fin_drive.specs.Watches.{part_of}
use Rattle.fin_drive.proofs.Programs.{statements_go_on}
use Rattle.fin_perform.proofs.Composing.{advances_still, advances_then}

pub advances_worked : (n : ℕ) (r : Run) → Advances r (worked n r)
advances_worked n r = record { before = λ e. e; work = omega arith }

module _ (x : Running) (goes : (m : Marks) (vars : Numbers) (r : Run) → Advances r (x.body m vars r)) where
  costing_advances : (share : ℕ) (r n : Run) → Advances r n → Advances r (costing share r n)
  costing_advances share r n a = record { before = a.before; work = omega arith }

  chosen_advances : (none fixed : Bool) (share : ℕ) (m : Marks) (inner : Numbers) (r : Run)
      → Advances r (if none then r else (if fixed then costing share r (x.body m inner r) else x.body m inner (worked 1 r)))
  chosen_advances true fixed share m inner r = advances_still r
  chosen_advances false true share m inner r = costing_advances share r (x.body m inner r) (goes m inner r)
  chosen_advances false false share m inner r = advances_then r (worked 1 r) (x.body m inner (worked 1 r)) (advances_worked 1 r) (goes m inner (worked 1 r))

  turn_advances : (begins : Bool) (c : ℕ) (r : Run) → Advances r (turn x.loop x.rest x.body x.around x.vars begins c r)
  turn_advances begins c r =
      let here = marks_at x.loop x.vars x.around c in
      chosen_advances (is_none_kind (x.rest here).kind) (is_fixed x.loop x.vars (x.rest here) c) (first_share begins) here (slice_set x.vars x.loop.var (pos c)) r

  turns_advance : (n c : ℕ) (begins : Bool) (r : Run) → Advances r (turns (turn x.loop x.rest x.body x.around x.vars) (ends_after x.loop x.vars) n begins c r)
  turns_advance zero c begins r = advances_still r
  turns_advance (suc n) c begins r =
      let next = turn x.loop x.rest x.body x.around x.vars begins c r in
      advances_then r next _ (turn_advances begins c r) (turns_advance n (c + 1) (ends_after x.loop x.vars c) next)

-- so many coordinates of a loop of a program, from one on
pub parts_advance : (w : World) (ctx : Context) (var : ℕ) (par : Bool) (body : List Stmt) (h : Here) (vars : Numbers) (r0 : Run) (from count : ℕ) (r : Run)
    → Advances r (part_of (running w ctx var par (worked_all w body h) vars r0) from count r)
parts_advance w ctx var par body h vars r0 from count r =
    turns_advance (running w ctx var par (worked_all w body h) vars r0) (λ m ns k. statements_go_on w body h m ns k) count from true r
