-- Work only rises, the flags only fall, and no tensor comes or goes, whatever a statement does.
use Rattle.std.proofs.Common.{◌≡◌, ℕ, ℤ, pos, zero, suc, ◌+◌, ◌≤◌, Bool, true, false, List, [], ◌∷◌, map, Option, Some, None, if◌then◌else◌, refl, ap, ◌∙◌, arith, length}
use Rattle.std.specs.Prelude.{slice_set}
use Rattle.std.proofs.lemmas.List.{length-set}
use Rattle.fin_base.specs.declared.reduce.Reduce.{Reduce}
use Rattle.fin_tensor.specs.Building.{Building, follows}
use Rattle.fin_ast.specs.declared.tree.Expr.{Expr}
use Rattle.fin_ast.specs.declared.tree.Stmt.{Stmt}
use Rattle.fin_ast.specs.Value.{Numbers, place, coordinates, value_of}
use Rattle.fin_ast.specs.Dense.{Setting}
use Rattle.fin_stage.specs.Stages.{Stage, Absent, Built, Frozen, stage_at, kept}
use Rattle.fin_stage.specs.Staged.{Run, Action, worked, with_stage, unalive, unsmall, unordered, with_value, tensors_of, can_read, has_small_indices, asked_to_read, asked_for_small, are_small, closed, braced, repeated, is_made, declare, freeze_at, thaw_at, put_at, update_at, update, leaf, staging, stage_all}
use Rattle.fin_ast.proofs.Alike.{none, AreAll, act_all_is}
use Rattle.fin_ast.specs.Actions.{Leaf, Declare, Freeze, Thaw, Update}

pub record Onward (r n : Run) : Type 0 where
  pub work : r.work ≤ n.work
  pub alive : n.alive ≡ true → r.alive ≡ true
  pub small : n.small ≡ true → r.small ≡ true
  pub ordered : n.ordered ≡ true → r.ordered ≡ true
  pub long : length n.stages ≡ length r.stages

pub onward_still : (r : Run) → Onward r r
onward_still r = record { work = omega arith; alive = λ e. e; small = λ e. e; ordered = λ e. e; long = refl }

pub onward_then : (a b c : Run) → Onward a b → Onward b c → Onward a c
onward_then a b c f g = record {
  work = omega (arith, f.work, g.work);
  alive = λ e. f.alive (g.alive e);
  small = λ e. f.small (g.small e);
  ordered = λ e. f.ordered (g.ordered e);
  long = g.long ∙ f.long;
}

pub onward_worked : (n : ℕ) (r : Run) → Onward r (worked n r)
onward_worked n r = record { work = omega arith; alive = λ e. e; small = λ e. e; ordered = λ e. e; long = refl }

pub onward_stage : (tensor : ℕ) (x : Stage) (r : Run) → Onward r (with_stage tensor x r)
onward_stage tensor x r = record { work = omega arith; alive = λ e. e; small = λ e. e; ordered = λ e. e; long = length-set r.stages tensor x }

pub onward_unalive : (r : Run) → Onward r (unalive r)
onward_unalive r = record { work = omega arith; alive = λ e. absurd (cc); small = λ e. e; ordered = λ e. e; long = refl }

pub onward_unsmall : (r : Run) → Onward r (unsmall r)
onward_unsmall r = record { work = omega arith; alive = λ e. e; small = λ e. absurd (cc); ordered = λ e. e; long = refl }

pub onward_unordered : (r : Run) → Onward r (unordered r)
onward_unordered r = record { work = omega arith; alive = λ e. e; small = λ e. e; ordered = λ e. absurd (cc); long = refl }

long_kept : (before stages : List Stage) → length (kept before stages) ≡ length stages
long_kept [] stages = refl
long_kept (b ∷ before) [] = refl
long_kept (b ∷ before) (x ∷ stages) = ap suc (long_kept before stages)

pub onward_closed : (before : List Stage) (r : Run) → Onward r (closed before r)
onward_closed before r = record { work = omega arith; alive = λ e. e; small = λ e. e; ordered = λ e. e; long = long_kept before r.stages }

pub either_goes_on : (b : Bool) (r x y : Run) → Onward r x → Onward r y → Onward r (if b then x else y)
either_goes_on true r x y f g = f
either_goes_on false r x y f g = g

-- ---- actions

abbrev pub GoesOn : Action → Type 0
GoesOn a = (vars : Numbers) (r : Run) → Onward r (a vars r)

pub asked_goes_on : (w : Setting) (e : Expr) (vars : Numbers) (r : Run) → Onward r (asked_for_small (has_small_indices e vars) (asked_to_read (can_read e (tensors_of w r)) r))
asked_goes_on w e vars r =
    let read : Run = asked_to_read (can_read e (tensors_of w r)) r in
    onward_then r read _ (either_goes_on (can_read e (tensors_of w r)) r r (unalive r) (onward_still r) (onward_unalive r)) (either_goes_on (has_small_indices e vars) read read (unsmall read) (onward_still read) (onward_unsmall read))

pub braced_goes_on : (a : Action) → GoesOn a → GoesOn (braced a)
braced_goes_on a h vars r = onward_then r (a vars r) (braced a vars r) (h vars r) (onward_closed r.stages (a vars r))

pub repeated_goes_on : (n lo var : ℕ) (a : Action) → GoesOn a → GoesOn (repeated n lo var a)
repeated_goes_on zero lo var a h vars r = onward_still r
repeated_goes_on (suc n) lo var a h vars r =
    let turn : Run = a (slice_set vars var (pos lo)) (worked 1 r) in
    onward_then r turn _ (onward_then r (worked 1 r) turn (onward_worked 1 r) (h (slice_set vars var (pos lo)) (worked 1 r))) (repeated_goes_on n (lo + 1) var a h vars turn)

-- ---- statements

pub declare_goes_on : (w : Setting) (tensor : ℕ) (r : Run) → Onward r (declare w tensor r)
declare_goes_on w tensor r = either_goes_on (is_made w tensor) r _ (unalive r) (onward_then r (with_stage tensor _ r) _ (onward_stage tensor _ r) (onward_worked _ (with_stage tensor _ r))) (onward_unalive r)

pub freeze_goes_on : (tensor : ℕ) (x : Stage) (r : Run) → Onward r (freeze_at tensor x r)
freeze_goes_on tensor Absent r = onward_unalive r
freeze_goes_on tensor (Built b) r = onward_then r (with_stage tensor _ r) _ (onward_stage tensor _ r) (onward_worked _ (with_stage tensor _ r))
freeze_goes_on tensor (Frozen format f) r = onward_unalive r

pub thaw_goes_on : (tensor : ℕ) (x : Stage) (r : Run) → Onward r (thaw_at tensor x r)
thaw_goes_on tensor Absent r = onward_unalive r
thaw_goes_on tensor (Built b) r = onward_unalive r
thaw_goes_on tensor (Frozen format f) r = onward_then r (with_stage tensor _ r) _ (onward_stage tensor _ r) (onward_worked _ (with_stage tensor _ r))

put_goes_on : (tensor : ℕ) (b : Building) (at : Option (List ℕ)) (by : Reduce) (v : ℤ) (r : Run) → Onward r (put_at tensor b at by v r)
put_goes_on tensor b None by v r = onward_still r
put_goes_on tensor b (Some cs) by v r = either_goes_on (follows b cs) r _ (unordered r) (onward_stage tensor _ r) (onward_unordered r)

update_at_goes_on : (tensor : ℕ) (x : Stage) (at : List ℤ) (by : Reduce) (v : ℤ) (r : Run) → Onward r (update_at tensor x at by v r)
update_at_goes_on tensor Absent at by v r = onward_unalive r
update_at_goes_on tensor (Built b) at by v r = put_goes_on tensor b (coordinates b.function.shape at) by v r
update_at_goes_on tensor (Frozen format f) at by v r = onward_unalive r

pub update_goes_on : (w : Setting) (tensor : ℕ) (at : List ℤ) (by : Reduce) (v : ℤ) (r : Run) → Onward r (update w tensor at by v r)
update_goes_on w tensor at by v r =
    onward_then r _ (update w tensor at by v r) (either_goes_on (is_made w tensor) r _ (unalive r) (update_at_goes_on tensor (stage_at r.stages tensor) at by v r) (onward_unalive r)) (onward_worked 1 _)

pub small_goes_on : (b : Bool) (r : Run) → Onward r (asked_for_small b r)
small_goes_on b r = either_goes_on b r r (unsmall r) (onward_still r) (onward_unsmall r)

module _ (w : Setting) where
  abbrev pub Goes : (Run → Run) → Type 0
  Goes f = (r : Run) → Onward r (f r)

  pub value_goes_on : (e : Expr) (vars : Numbers) (after : ℤ → Run → Run) → ((v : ℤ) → Goes (after v)) → Goes (with_value w e vars after)
  value_goes_on e vars after h r =
      let ready : Run = asked_for_small (has_small_indices e vars) (asked_to_read (can_read e (tensors_of w r)) r) in
      onward_then r ready (with_value w e vars after r) (asked_goes_on w e vars r) (h (value_of e vars (tensors_of w r)) ready)

  pub leaf_goes_on : (l : Leaf) (vars : Numbers) → Goes (leaf w l vars)
  leaf_goes_on (Declare tensor) vars r = declare_goes_on w tensor r
  leaf_goes_on (Freeze tensor) vars r = freeze_goes_on tensor (stage_at r.stages tensor) r
  leaf_goes_on (Thaw tensor) vars r = either_goes_on (is_made w tensor) r _ (unalive r) (thaw_goes_on tensor (stage_at r.stages tensor) r) (onward_unalive r)
  leaf_goes_on (Update tensor at by value) vars r =
      let small : Run → Run = asked_for_small (are_small vars at) in
      value_goes_on value vars (λ v x. update w tensor (map (place vars) at) by v (small x)) (λ v x. onward_then x (small x) _ (small_goes_on (are_small vars at) x) (update_goes_on w tensor (map (place vars) at) by v (small x))) r

  pub parts_go_on : AreAll (staging w) none Goes
  parts_go_on = record {
    range = λ var. refl;
    numbers = λ var n low high. tt;
    still = onward_still;
    joined = λ f f' g g' h h' r. onward_then r (f r) (f' (f r)) (h r) (h' (f r));
    value = λ e vars f g _ _ h r. onward_then r (worked 1 r) _ (onward_worked 1 r) (value_goes_on e vars f (λ v. h v tt) (worked 1 r));
    entry = λ var vars. onward_worked 1;
    turn = λ var vars n f g h r. onward_then r (worked 1 r) (f (worked 1 r)) (onward_worked 1 r) (h (worked 1 r));
    brace = λ f g h r. onward_then r (f r) _ (h r) (onward_closed r.stages (f r));
    leaf = λ l vars _ _. leaf_goes_on l vars;
  }

  pub all_go_on : (body : List Stmt) → GoesOn (stage_all w body)
  all_go_on = act_all_is (staging w) Goes parts_go_on
