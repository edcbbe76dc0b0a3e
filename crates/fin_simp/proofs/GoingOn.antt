-- The statements of a program, as the definition of work runs them, go on: work only rises and the flags only fall. So a
-- loop of a regular run was entered where what it asks for is there.
use Rattle.std.proofs.Common.{◌≡◌, ℕ, zero, suc, ◌+◌, ℤ, pos, Bool, true, false, List, [], ◌∷◌, map, Option, Some, None, refl, arith, if◌then◌else◌}
use Rattle.std.specs.Prelude.{◌&&◌, slice_set}
use Rattle.std.specs.Ordering.{int_eq}
use Rattle.fin_ast.specs.declared.tree.Expr.{Expr}
use Rattle.fin_ast.specs.declared.tree.Stmt.{Stmt}
use Rattle.fin_ast.specs.declared.tree.Stmt.TheOpen.{Stmt-F}
use Rattle.fin_ast.specs.Value.{Numbers}
use Rattle.fin_ast.specs.Dense.{Setting}
use Rattle.fin_ast.specs.Actions.{Declare, Freeze, Thaw, Update, in_turn}
use Rattle.fin_stage.specs.Staged.{Run, Action, worked, regular, asked_to_read, unalive, closed}
use Rattle.fin_stage.proofs.Alive.{left}
use Rattle.fin_stage.proofs.Onward.{Onward, onward_still, onward_then, onward_worked, onward_closed, onward_unalive, either_goes_on, value_goes_on, leaf_goes_on}
use Rattle.fin_stage.proofs.Trailing.{regular_before}
use Rattle.fin_simp.specs.Numbered.{Here}
use Rattle.fin_simp.specs.Left.{Marks}
use Rattle.fin_simp.specs.Rest.{Kind, Nothing, OneUpdate, Other, Rest, is_none_kind, test_rest, expr_rest}
use Rattle.fin_simp.specs.Work.{World, Context, Worked, work_step, all_of, all_fresh, rests_in, can_be_entered, asked_to_enter, enter, entry_of, Entered, inside, marks_within, looped, turn, turns, ends_after, is_fixed, marks_at, costing, first_share, chosen, bound, done, unless_nothing, literal_in}
use Rattle.fin_simp.specs.Moving.{worked_all}
use Rattle.fin_simp.specs.Entering.{LoopsAreEnterable}
use Rattle.fin_simp.proofs.Holding.{Each, InNode, all_held}

abbrev pub Goes : Action → Type 0
Goes a = (vars : Numbers) (r : Run) → Onward r (a vars r)

abbrev GoesIn : Worked → Type 0
GoesIn s = (ctx : Context) → Goes (s.run ctx)

in_turn_goes : (ctx : Context) (body : List Worked) → Each GoesIn body → Goes (in_turn (map (λ (s : Worked). s.run ctx) body))
in_turn_goes ctx [] all vars r = onward_still r
in_turn_goes ctx (s ∷ ss) all vars r = onward_then r (s.run ctx vars r) _ (all.0 ctx vars r) (in_turn_goes ctx ss all.1 vars (s.run ctx vars r))

all_goes : (ctx : Context) (body : List Worked) → Each GoesIn body → Goes (all_of body ctx)
all_goes ctx body all vars r =
    let n = in_turn (map (λ (s : Worked). s.run ctx) body) vars r in
    onward_then r n (closed r.stages n) (in_turn_goes ctx body all vars r) (onward_closed r.stages n)

-- a share in place of the work that was done
costing_goes : (n : ℕ) (r x : Run) → Onward r x → Onward r (costing n r x)
costing_goes n r x h = record { work = omega arith; alive = h.alive; small = h.small; ordered = h.ordered; long = h.long }

module _ (e : Entered) (rest : Marks → Rest) (body : Marks → Action) (m : Marks) (vars : Numbers) (goes : (m : Marks) → Goes (body m)) where
  chosen_goes : (none fixed : Bool) (share : ℕ) (here : Marks) (inner : Numbers) (r : Run)
      → Onward r (if none then r else (if fixed then costing share r (body here inner r) else body here inner (worked 1 r)))
  chosen_goes true fixed share here inner r = onward_still r
  chosen_goes false true share here inner r = costing_goes share r (body here inner r) (goes here inner r)
  chosen_goes false false share here inner r = onward_then r (worked 1 r) (body here inner (worked 1 r)) (onward_worked 1 r) (goes here inner (worked 1 r))

  turn_goes : (begins : Bool) (c : ℕ) (r : Run) → Onward r (turn e rest body m vars begins c r)
  turn_goes begins c r =
      let here = marks_at e vars m c in
      chosen_goes (is_none_kind (rest here).kind) (is_fixed e vars (rest here) c) (first_share begins) here (slice_set vars e.var (pos c)) r

  turns_go : (n c : ℕ) (begins : Bool) (r : Run) → Onward r (turns (turn e rest body m vars) (ends_after e vars) n begins c r)
  turns_go zero c begins r = onward_still r
  turns_go (suc n) c begins r =
      let next = turn e rest body m vars begins c r in
      onward_then r next _ (turn_goes begins c r) (turns_go n (c + 1) (ends_after e vars c) next)

  looped_goes : (r : Run) → Onward r (looped e rest body m vars r)
  looped_goes r = onward_then r (worked (entry_of e) r) _ (onward_worked (entry_of e) r) (turns_go e.len e.lo true (worked (entry_of e) r))

chosen_on : (w : Setting) (lit : Option ℤ) (test : Expr) (body : Action) → Goes body → Goes (chosen w lit test body)
chosen_on w (Some n) test body h vars r = h vars r
chosen_on w None test body h vars r =
    onward_then r (worked 1 r) _ (onward_worked 1 r)
    (value_goes_on w test vars (λ v x. if int_eq v (pos 0) then x else body vars x) (λ v x. either_goes_on (int_eq v (pos 0)) x x (body vars x) (onward_still x) (h vars x)) (worked 1 r))

bound_on : (w : Setting) (lit : Option ℤ) (var : ℕ) (value : Expr) (body : Action) → Goes body → Goes (bound w lit var value body)
bound_on w (Some n) var value body h vars r = h (slice_set vars var n) r
bound_on w None var value body h vars r =
    onward_then r (worked 1 r) _ (onward_worked 1 r) (value_goes_on w value vars (λ v x. body (slice_set vars var v) x) (λ v x. h (slice_set vars var v) x) (worked 1 r))

unless_goes : (k : Kind) (r n : Run) → Onward r n → Onward r (unless_nothing k r n)
unless_goes Nothing r n h = onward_still r
unless_goes OneUpdate r n h = h
unless_goes Other r n h = h

asked_goes : (b : Bool) (r : Run) → Onward r (asked_to_read b r)
asked_goes b r = either_goes_on b r r (unalive r) (onward_still r) (onward_unalive r)

module _ (w : World) where
  -- a loop, behind what its entry asks
  module _ (var : ℕ) (par : Bool) (body : List Worked) (all : Each GoesIn body) (ctx : Context) (vars : Numbers) (r : Run) where
    abbrev asked : Run
    asked = asked_to_enter w (inside ctx var None) par body r

    loop_goes : Onward asked (looped (enter w (inside ctx var None) var par body vars r) (λ m. rests_in (Some m) body) (λ m. all_of body (Some m)) (marks_within (inside ctx var None)) vars asked)
    loop_goes =
        looped_goes (enter w (inside ctx var None) var par body vars r) (λ m. rests_in (Some m) body) (λ m. all_of body (Some m)) (marks_within (inside ctx var None)) vars
        (λ m. all_goes (Some m) body all) asked

  done_goes : (h : Here) (y : Stmt-F Worked) → InNode GoesIn y → (ctx : Context) → Goes (done w h y ctx)
  done_goes h (Stmt-F.Block body line last) all ctx vars r = all_goes ctx body all vars r
  done_goes h (Stmt-F.Loop var range par body line last) all ctx vars r =
      onward_then r (asked var par body all ctx vars r) _ (asked_goes (can_be_entered w par (all_fresh body) (rests_in (inside ctx var None) body) r) r) (loop_goes var par body all ctx vars r)
  done_goes h (Stmt-F.Cond test body line last) all ctx vars r = chosen_on w.setting (literal_in ctx (test_rest test h)) test (all_of body ctx) (all_goes ctx body all) vars r
  done_goes h (Stmt-F.Bind var value body line last) all ctx vars r =
      let literal = literal_in ctx (λ m. (expr_rest value h.read m).literal) in
      bound_on w.setting literal var value (all_of body (inside ctx var literal)) (all_goes (inside ctx var literal) body all) vars r
  done_goes h (Stmt-F.Declare tensor value line) all ctx vars r = leaf_goes_on w.setting (Declare tensor) vars r
  done_goes h (Stmt-F.Freeze tensor line) all ctx vars r = leaf_goes_on w.setting (Freeze tensor) vars r
  done_goes h (Stmt-F.Thaw tensor line) all ctx vars r = leaf_goes_on w.setting (Thaw tensor) vars r
  done_goes h (Stmt-F.Update tensor at by value line) all ctx vars r = leaf_goes_on w.setting (Update tensor at by value) vars r

  goes_kept : (h : Here) (y : Stmt-F Worked) → InNode GoesIn y → GoesIn (work_step w h y)
  goes_kept h y all ctx vars r = unless_goes _ r (done w h y ctx vars r) (done_goes h y all ctx vars r)

  all_in : (body : List Stmt) (h : Here) → Each GoesIn (worked_all w body h)
  all_in body h = all_held Worked (work_step w) GoesIn goes_kept body h

  pub bodies_go_on : (body : List Stmt) (h : Here) (ctx : Context) → Goes (all_of (worked_all w body h) ctx)
  bodies_go_on body h ctx = all_goes ctx (worked_all w body h) (all_in body h)

-- ---- what is asked for is there where the run stays regular
asked_is_there : (b : Bool) (r : Run) → regular (asked_to_read b r) ≡ true → b ≡ true
asked_is_there true r g = refl
asked_is_there false r g = absurd (let h = left (false && r.small) r.ordered g in cc)

pub loops_are_enterable : LoopsAreEnterable
loops_are_enterable w h ctx var range par body line last vars r g =
    let parts = worked_all w body h in
    let all = all_in w body h in
    asked_is_there (can_be_entered w par (all_fresh parts) (rests_in (inside ctx var None) parts) r) r
    (regular_before (asked w var par parts all ctx vars r) (done w h (Stmt-F.Loop var range par parts line last) ctx vars r) (loop_goes w var par parts all ctx vars r) g)
