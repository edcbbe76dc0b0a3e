-- A run that follows another one has its functions: it differs in work and in last updates alone, which come no later.
use Rattle.std.proofs.Common.{◌≡◌, ℕ, zero, suc, Bool, true, false, List, [], ◌∷◌, map, length, Option, Some, None, if◌then◌else◌, refl, sym, ap, ◌∙◌, subst, ℤ, pos, arith}
use Rattle.std.specs.Option.{option_or}
use Rattle.std.proofs.Math.Path.{fun_ext}
use Rattle.fin_base.specs.declared.reduce.Reduce.{Reduce}
use Rattle.fin_base.specs.Words.{apply}
use Rattle.fin_tensor.specs.Building.{Building, started, follows, updated}
use Rattle.fin_tensor.specs.TensorFunction.{TensorFunction}
use Rattle.fin_ast.specs.declared.tree.Stmt.TheVariants as s
use Rattle.fin_ast.specs.Value.{Numbers, place, coordinates, value_of}
use Rattle.fin_ast.specs.Actions.{Leaf, Declare, Freeze, Thaw, Update}
use Rattle.fin_ast.specs.Dense.{Setting, made_at, shape_at}
use Rattle.fin_ast.proofs.Acting.{act_declare, act_freeze, act_thaw, act_update}
use Rattle.fin_stage.specs.Stages.{Stage, Absent, Built, Frozen, stage_at, function_in, frozen_in, is_declared, kept, work_of_declaration}
use Rattle.fin_stage.specs.Staged.{Run, worked, with_stage, unalive, unordered, format_at, regular, closed, tensors_of, can_read, has_small_indices, asked_to_read, asked_for_small, are_small, is_made, declare, freeze_at, thaw_at, put_at, update_at, update, leaf, staging}
use Rattle.fin_stage.specs.Trailing.{StageTrails, RunTrails, Monotone}
use Rattle.fin_stage.proofs.Trailing.{stage_monotone}
use Rattle.fin_work.specs.Following.{Follows}

abbrev pub at_work : ℕ → Run → Run
at_work k r = record r { work = k }

pub to_trails : (r r' : Run) → Follows r r' → RunTrails r (at_work r.work r')
to_trails r r' f = record { long = f.long; stages = f.stages; work = refl; regular = f.regular }

pub from_trails : (r r' : Run) → RunTrails r r' → Follows r r'
from_trails r r' t = record { long = t.long; stages = t.stages; regular = t.regular }

-- ---- the same but for work
pub record SameDone (x y : Run) : Type 0 where
  pub stages : y.stages ≡ x.stages
  pub regular : regular y ≡ regular x

pub follows_same : (r x y : Run) → SameDone x y → Follows r x → Follows r y
follows_same r x y e f = record {
  long = ap (λ (xs : List Stage). length xs) e.stages ∙ f.long;
  stages = λ t. subst (λ (xs : List Stage). StageTrails (stage_at r.stages t) (stage_at xs t)) (sym e.stages) (f.stages t);
  regular = λ q. e.regular ∙ f.regular q;
}

pub same_follows : (x y r : Run) → SameDone x y → Follows x r → Follows y r
same_follows x y r e f = record {
  long = f.long ∙ sym (ap (λ (xs : List Stage). length xs) e.stages);
  stages = λ t. subst (λ (xs : List Stage). StageTrails (stage_at xs t) (stage_at r.stages t)) (sym e.stages) (f.stages t);
  regular = λ q. f.regular (sym e.regular ∙ q);
}

-- ---- leaves take no notice of the work
free_if : (b : Bool) (x x' y y' : Run) → SameDone x x' → SameDone y y' → SameDone (if b then x else y) (if b then x' else y')
free_if true x x' y y' p q = p
free_if false x x' y y' p q = q

module _ (w : Setting) (k : ℕ) (r : Run) where
  abbrev paid : Run
  paid = at_work k r

  unalive_free : SameDone (unalive paid) (unalive r)
  unalive_free = record { stages = refl; regular = refl }

  abbrev begun : ℕ → Run → Run
  begun t x = worked (work_of_declaration (format_at w t).levels (shape_at w t)) (with_stage t (Built (started (format_at w t) (shape_at w t))) x)

  declare_free : (t : ℕ) → SameDone (declare w t paid) (declare w t r)
  declare_free t = free_if (is_made w t) (begun t paid) (begun t r) (unalive paid) (unalive r) (record { stages = refl; regular = refl }) unalive_free

  freeze_free : (t : ℕ) (x : Stage) → SameDone (freeze_at t x paid) (freeze_at t x r)
  freeze_free t Absent = unalive_free
  freeze_free t (Built b) = record { stages = refl; regular = refl }
  freeze_free t (Frozen format f) = unalive_free

  thaw_free : (t : ℕ) (x : Stage) → SameDone (thaw_at t x paid) (thaw_at t x r)
  thaw_free t Absent = unalive_free
  thaw_free t (Built b) = unalive_free
  thaw_free t (Frozen format f) = record { stages = refl; regular = refl }

  put_free : (t : ℕ) (b : Building) (o : Option (List ℕ)) (by : Reduce) (v : ℤ) → SameDone (put_at t b o by v paid) (put_at t b o by v r)
  put_free t b None by v = record { stages = refl; regular = refl }
  put_free t b (Some cs) by v =
      let x = Built (updated b cs (λ old. apply by old v)) in
      free_if (follows b cs) (with_stage t x paid) (with_stage t x r) (unordered paid) (unordered r) (record { stages = refl; regular = refl }) (record { stages = refl; regular = refl })

  update_free : (t : ℕ) (x : Stage) (at : List ℤ) (by : Reduce) (v : ℤ) → SameDone (update_at t x at by v paid) (update_at t x at by v r)
  update_free t Absent at by v = unalive_free
  update_free t (Built b) at by v = put_free t b (coordinates b.function.shape at) by v
  update_free t (Frozen format f) at by v = unalive_free

worked_free : (n : ℕ) (x y : Run) → SameDone x y → SameDone (worked n x) (worked n y)
worked_free n x y e = record { stages = e.stages; regular = e.regular }

read_work : (b : Bool) (k : ℕ) (r : Run) → asked_to_read b (at_work k r) ≡ at_work k (asked_to_read b r)
read_work true k r = refl
read_work false k r = refl

small_work : (b : Bool) (k : ℕ) (r : Run) → asked_for_small b (at_work k r) ≡ at_work k (asked_for_small b r)
small_work true k r = refl
small_work false k r = refl

module _ (w : Setting) where
  updating_free : (k : ℕ) (r : Run) (t : ℕ) (at : List ℤ) (by : Reduce) (v : ℤ) → SameDone (update w t at by v (at_work k r)) (update w t at by v r)
  updating_free k r t at by v =
      let x = stage_at r.stages t in
      worked_free 1 (if is_made w t then update_at t x at by v (at_work k r) else unalive (at_work k r)) (if is_made w t then update_at t x at by v r else unalive r)
      (free_if (is_made w t) (update_at t x at by v (at_work k r)) (update_at t x at by v r) (unalive (at_work k r)) (unalive r) (update_free w k r t x at by v) (unalive_free w k r))

  leaf_free : (l : Leaf) (vars : Numbers) (k : ℕ) (r : Run) → SameDone (leaf w l vars (at_work k r)) (leaf w l vars r)
  leaf_free (Declare t) vars k r = declare_free w k r t
  leaf_free (Freeze t) vars k r = freeze_free w k r t (stage_at r.stages t)
  leaf_free (Thaw t) vars k r =
      let x = stage_at r.stages t in
      free_if (is_made w t) (thaw_at t x (at_work k r)) (thaw_at t x r) (unalive (at_work k r)) (unalive r) (thaw_free w k r t x) (unalive_free w k r)
  leaf_free (Update t at by value) vars k r =
      let ts = tensors_of w r in
      let v = value_of value vars ts in
      let zs = map (place vars) at in
      let a = can_read value ts in
      let b = has_small_indices value vars in
      let c = are_small vars at in
      let r1 = asked_to_read a r in
      let r2 = asked_for_small b r1 in
      let moves : asked_for_small c (asked_for_small b (asked_to_read a (at_work k r))) ≡ at_work k (asked_for_small c r2)
      = ap (λ (x : Run). asked_for_small c (asked_for_small b x)) (read_work a k r) ∙ ap (asked_for_small c) (small_work b k r1) ∙ small_work c k r2 in
      subst (λ (x : Run). SameDone (update w t zs by v x) (update w t zs by v (asked_for_small c r2))) (sym moves) (updating_free k (asked_for_small c r2) t zs by v)

  -- ---- leaves, done to both runs
  monotone_same : (f g : Run → Run) → ((r : Run) → f r ≡ g r) → Monotone f → Monotone g
  monotone_same f g e m r r' t q = subst (λ (x : Run). RunTrails x (g r')) (e r) (subst (λ (x : Run). RunTrails (f r) x) (e r') (m r r' t (ap regular (e r) ∙ q)))

  leaf_monotone : (l : Leaf) (vars : Numbers) → Monotone (leaf w l vars)
  leaf_monotone (Declare t) vars = monotone_same _ _ (λ r. act_declare (staging w) vars r t (pos 0) 0) (stage_monotone w (s.Declare t (pos 0) 0) vars)
  leaf_monotone (Freeze t) vars = monotone_same _ _ (λ r. act_freeze (staging w) vars r t 0) (stage_monotone w (s.Freeze t 0) vars)
  leaf_monotone (Thaw t) vars = monotone_same _ _ (λ r. act_thaw (staging w) vars r t 0) (stage_monotone w (s.Thaw t 0) vars)
  leaf_monotone (Update t at by value) vars = monotone_same _ _ (λ r. act_update (staging w) vars r t at by value 0) (stage_monotone w (s.Update t at by value 0) vars)

  pub leaf_follows : (l : Leaf) (vars : Numbers) (r r' : Run) → Follows r r' → regular (leaf w l vars r) ≡ true → Follows (leaf w l vars r) (leaf w l vars r')
  leaf_follows l vars r r' f q =
      follows_same (leaf w l vars r) (leaf w l vars (at_work r.work r')) (leaf w l vars r') (leaf_free l vars r.work r')
      (from_trails (leaf w l vars r) (leaf w l vars (at_work r.work r')) (leaf_monotone l vars r (at_work r.work r') (to_trails r r' f) q))

  -- ---- what can be read is the same
  frozen_same : (x y : Stage) → StageTrails x y → frozen_in x ≡ frozen_in y
  frozen_same Absent y k = sym (ap frozen_in k)
  frozen_same (Built b) y k = sym (ap frozen_in k.1.0)
  frozen_same (Frozen format f) y k = sym (ap frozen_in k)

  pub same_tensors : (r r' : Run) → Follows r r' → tensors_of w r ≡ tensors_of w r'
  same_tensors r r' f = fun_ext (λ t. ap (option_or (made_at w.given t)) (frozen_same (stage_at r.stages t) (stage_at r'.stages t) (f.stages t)))

function_same : (x y : Stage) → StageTrails x y → function_in y ≡ function_in x
function_same Absent y k = ap function_in k
function_same (Built b) y k = ap function_in k.1.0 ∙ ap (λ (f : TensorFunction). Some f) k.1.1.function
function_same (Frozen format f) y k = ap function_in k

pub same_function : (r r' : Run) → Follows r r' → (t : ℕ) → function_in (stage_at r'.stages t) ≡ function_in (stage_at r.stages t)
same_function r r' f t = function_same (stage_at r.stages t) (stage_at r'.stages t) (f.stages t)

-- ---- the end of a body
kept_at : (before stages : List Stage) → length before ≡ length stages → (t : ℕ) → stage_at (kept before stages) t ≡ (if is_declared (stage_at before t) then stage_at stages t else Absent)
kept_at [] [] e t = refl
kept_at [] (x ∷ stages) e t = absurd (omega (arith, e))
kept_at (b ∷ before) [] e t = absurd (omega (arith, e))
kept_at (b ∷ before) (x ∷ stages) e zero = refl
kept_at (b ∷ before) (x ∷ stages) e (suc t) = kept_at before stages (omega (arith, e)) t

kept_long : (before stages : List Stage) → length before ≡ length stages → length (kept before stages) ≡ length stages
kept_long [] stages e = refl
kept_long (b ∷ before) [] e = refl
kept_long (b ∷ before) (x ∷ stages) e = ap suc (kept_long before stages (omega (arith, e)))

same_declared : (x y : Stage) → StageTrails x y → is_declared y ≡ is_declared x
same_declared Absent y k = ap is_declared k
same_declared (Built b) y k = ap is_declared k.1.0
same_declared (Frozen format f) y k = ap is_declared k

either_trails : (b : Bool) (x y : Stage) → StageTrails x y → StageTrails (if b then x else Absent) (if b then y else Absent)
either_trails true x y k = k
either_trails false x y k = refl

pub closed_follows : (b b' r r' : Run) → length b.stages ≡ length r.stages → Follows b b' → Follows r r' → Follows (closed b.stages r) (closed b'.stages r')
closed_follows b b' r r' e fb f =
    let e' : length b'.stages ≡ length r'.stages = fb.long ∙ e ∙ sym f.long in
    record {
      long = kept_long b'.stages r'.stages e' ∙ f.long ∙ sym (kept_long b.stages r.stages e);
      stages = λ t.
          subst (λ (x : Stage). StageTrails x (stage_at (kept b'.stages r'.stages) t)) (sym (kept_at b.stages r.stages e t))
          (subst (StageTrails (if is_declared (stage_at b.stages t) then stage_at r.stages t else Absent)) (sym (kept_at b'.stages r'.stages e' t ∙ ap (λ (d : Bool). if d then stage_at r'.stages t else Absent) (same_declared (stage_at b.stages t) (stage_at b'.stages t) (fb.stages t))))
          (either_trails (is_declared (stage_at b.stages t)) (stage_at r.stages t) (stage_at r'.stages t) (f.stages t)));
      regular = f.regular;
    }

-- a body's end changes nothing where its run follows what was before
left_absent : (x n y : Stage) → StageTrails x y → StageTrails n y → StageTrails (if is_declared x then n else Absent) y
left_absent Absent n y k h = k
left_absent (Built b) n y k h = h
left_absent (Frozen format f) n y k h = h

pub closed_skips : (b r r' : Run) → length b.stages ≡ length r.stages → Follows b r' → Follows r r' → Follows (closed b.stages r) r'
closed_skips b r r' e fb f = record {
  long = f.long ∙ sym (kept_long b.stages r.stages e);
  stages = λ t. subst (λ (x : Stage). StageTrails x (stage_at r'.stages t)) (sym (kept_at b.stages r.stages e t)) (left_absent (stage_at b.stages t) (stage_at r.stages t) (stage_at r'.stages t) (fb.stages t) (f.stages t));
  regular = f.regular;
}
