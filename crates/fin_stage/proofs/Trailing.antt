-- A statement does to a run that trails another one what it does to that one.
use Rattle.std.proofs.Common.{◌≡◌, ℕ, zero, suc, ◌+◌, ◌<◌, ⊎_elim, Bool, true, false, ◌&&◌, List, [], ◌∷◌, map, length, take, Option, Some, None, if◌then◌else◌, refl, sym, ap, ◌∙◌, subst, ℤ, arith, get_or-set_same, get_or-set_other}
use Rattle.std.specs.Prelude.{not, nat_eq, slice_set}
use Rattle.std.specs.Option.{option_or}
use Rattle.std.specs.Ordering.{nat_cmp, ordering_reverse}
use Rattle.std.specs.Cmp.{IsTotalOrder}
use Rattle.std.specs.Cmp.Lexicographic.{slice_cmp}
use Rattle.std.specs.declared.cmp.Ordering.{Ordering}
use Rattle.std.specs.declared.cmp.Ordering.TheVariants.{Less, Equal, Greater}
use Rattle.std.proofs.Math.ListN.{length-set}
use Rattle.std.proofs.Math.Path.{fun_ext}
use Rattle.std.proofs.lemmas.Bool.{cases_eq, cases_lt, eqb-true}
use Rattle.std.proofs.lemmas.List.{get_or_past}
use Rattle.std.proofs.lemmas.Cmp.{nat_list_cmp_total}
use Rattle.fin_base.specs.declared.reduce.Reduce.{Reduce}
use Rattle.fin_base.specs.Words.{apply}
use Rattle.fin_tensor.specs.declared.format.Format.{Format}
use Rattle.fin_tensor.specs.TensorFunction.{TensorFunction}
use Rattle.fin_tensor.specs.Order.{ordered_levels}
use Rattle.fin_tensor.specs.Building.{Building, unchanged, started, is_less, comes_behind, follows, last_of, updated}
use Rattle.fin_tensor.specs.Canon.{undecorated}
use Rattle.fin_ast.specs.declared.tree.Expr.{Expr}
use Rattle.fin_ast.specs.declared.tree.Stmt.{Stmt}
use Rattle.fin_ast.specs.Value.{Numbers, Tensors, place, coordinates, value_of}
use Rattle.fin_ast.specs.Actions.{Leaf, Declare, Freeze, Thaw, Update}
use Rattle.fin_ast.specs.Dense.{Setting, made_at, shape_at}
use Rattle.fin_ast.proofs.Alike.{none, AreAll, act_is, act_all_is}
use Rattle.fin_stage.specs.Stages.{Stage, Absent, Built, Frozen, stage_at, frozen_in, is_declared, kept, work_of_declaration, work_of_storing}
use Rattle.fin_stage.specs.Staged.{Run, worked, with_stage, unalive, unordered, regular, tensors_of, can_read, has_small_indices, asked_to_read, asked_for_small, are_small, with_value, closed, format_at, is_made, declare, freeze_at, freeze, thaw_at, thaw, put_at, update_at, update, leaf, staging, stage_of, stage_all}
use Rattle.fin_stage.specs.Trailing.{Trails, StageTrails, RunTrails, Monotone, skipped, ChangesNothing}
use Rattle.fin_stage.proofs.Alive.{left, right, both}
use Rattle.fin_stage.proofs.Onward.{Onward, onward_then, onward_still, onward_worked, onward_closed, small_goes_on, update_goes_on, value_goes_on, leaf_goes_on}

-- ---- what doesn't come before, twice
abbrev cmp : List ℕ → List ℕ → Ordering
cmp = slice_cmp nat_cmp

abbrev NotLess : List ℕ → List ℕ → Type 0
NotLess a b = not (is_less (cmp a b)) ≡ true

pub not_less_then : (a b c : List ℕ) → NotLess b a → NotLess c b → NotLess c a
not_less_then a b c x y = by (cmp c a) refl (cmp b a) refl where
  o : IsTotalOrder (slice_cmp nat_cmp)
  o = nat_list_cmp_total

  by_less : cmp c a ≡ Less → (q : Ordering) → cmp b a ≡ q → ⊥
  by_less e Less h = let f = ap (λ r. not (is_less r)) h in cc
  by_less e Equal h =
      let turned : cmp a c ≡ Greater = o.antisymm a c ∙ ap ordering_reverse e in
      let g : cmp c b ≡ Less = o.antisymm c b ∙ ap ordering_reverse (o.congr b a c h ∙ turned) in
      let f = ap (λ r. not (is_less r)) g in cc
  by_less e Greater h =
      let turned : cmp a b ≡ Less = o.antisymm a b ∙ ap ordering_reverse h in
      let g : cmp c b ≡ Less = o.trans c a b e turned in
      let f = ap (λ r. not (is_less r)) g in cc

  by : (r : Ordering) → cmp c a ≡ r → (q : Ordering) → cmp b a ≡ q → NotLess c a
  by Less e q h = absurd (by_less e q h)
  by Equal e q h = ap (λ r. not (is_less r)) e
  by Greater e q h = ap (λ r. not (is_less r)) e

-- what comes behind an update that came behind another one
pub behind_then : (d : ℕ) (o : Option (List ℕ)) (cs ds : List ℕ) → comes_behind d o cs ≡ true → comes_behind d (last_of d cs) ds ≡ true → comes_behind d o ds ≡ true
behind_then d None cs ds x y = refl
behind_then d (Some last) cs ds x y = by (nat_eq d 0) refl where
  by : (z : Bool) → nat_eq d 0 ≡ z → comes_behind d (Some last) ds ≡ true
  by true e = let zero_is : d ≡ 0 = eqb-true d 0 e in subst (λ k. comes_behind k (Some last) ds ≡ true) (sym zero_is) refl
  by false e = not_less_then (take d last) (take d cs) (take d ds) x (sym (ap (λ (z : Bool). comes_behind d (if z then None else Some cs) ds) e) ∙ y)

-- ---- buildings and runs

pub trails_itself : (b : Building) → Trails b b
trails_itself b = record { format = refl; function = refl; last = λ cs h. h }

stage_itself : (x : Stage) → StageTrails x x
stage_itself Absent = refl
stage_itself (Built b) = (b, (refl, trails_itself b))
stage_itself (Frozen format f) = refl

pub run_itself : (r : Run) → RunTrails r r
run_itself r = record { long = refl; stages = λ t. stage_itself (stage_at r.stages t); work = refl; regular = λ h. h }

-- what is tested holds where the run stays regular
pub made_by : (b : Bool) (x r : Run) → regular (if b then x else unalive r) ≡ true → b ≡ true
made_by true x r e = refl
made_by false x r e = cc

pub regular_before : (r n : Run) → Onward r n → regular n ≡ true → regular r ≡ true
regular_before r n o g =
    both (r.alive && r.small) r.ordered
    (both r.alive r.small (o.alive (left n.alive n.small (left (n.alive && n.small) n.ordered g))) (o.small (right n.alive n.small (left (n.alive && n.small) n.ordered g))))
    (o.ordered (right (n.alive && n.small) n.ordered g))

-- ---- an update that is left out

in_order : (b : Bool) (x r : Run) → regular (if b then x else unordered r) ≡ true → b ≡ true
in_order true x r e = refl
in_order false x r e = right (r.alive && r.small) false e

module _ (r r' : Run) (t : ℕ) (tr : RunTrails r r') where
  -- one stage of the run changes, and stays before the other's
  one_changes : (x : Stage) → ((b : Building) → stage_at r.stages t ≡ Built b → StageTrails x (stage_at r'.stages t)) → (b : Building) → stage_at r.stages t ≡ Built b → (j : ℕ) → StageTrails (stage_at (slice_set r.stages t x) j) (stage_at r'.stages j)
  one_changes x h b is j = ⊎_elim
      (λ (e : j ≡ t). ⊎_elim
      (λ lt. subst (λ (k : ℕ). StageTrails (stage_at (slice_set r.stages t x) k) (stage_at r'.stages k)) (sym e) (subst (λ (y : Stage). StageTrails y (stage_at r'.stages t)) (sym (get_or-set_same r.stages t x Absent lt)) (h b is)))
      (λ le. let none = get_or_past r.stages t Absent le in absurd (cc))
      (cases_lt t (length r.stages)))
      (λ ne. subst (λ (y : Stage). StageTrails y (stage_at r'.stages j)) (sym (get_or-set_other r.stages t j x Absent ne)) (tr.stages j))
      (cases_eq j t)

  pub skip_trails : (w : Setting) (at : List ℤ) (by : Reduce) (v : ℤ) → ChangesNothing t at by v r → regular (skipped w t at by v r) ≡ true → RunTrails (skipped w t at by v r) r'
  skip_trails w at by v same g =
      let made : is_made w t ≡ true = made_by (is_made w t) (update_at t (stage_at r.stages t) at by v r) r g in
      let run : skipped w t at by v r ≡ update_at t (stage_at r.stages t) at by v r = ap (λ (x : Bool). if x then update_at t (stage_at r.stages t) at by v r else unalive r) made in
      subst (λ (x : Run). RunTrails x r') (sym run) (by_stage (stage_at r.stages t) refl (ap regular (sym run) ∙ g)) where
        put_trails : (b : Building) → stage_at r.stages t ≡ Built b → (o : Option (List ℕ)) → coordinates b.function.shape at ≡ o → regular (put_at t b o by v r) ≡ true → RunTrails (put_at t b o by v r) r'
        put_trails b is None e h = tr
        put_trails b is (Some cs) e h =
            let new : Building = updated b cs (λ old. apply by old v) in
            let order : follows b cs ≡ true = in_order (follows b cs) (with_stage t (Built new) r) r h in
            let goes : put_at t b (Some cs) by v r ≡ with_stage t (Built new) r = ap (λ (x : Bool). if x then with_stage t (Built new) r else unordered r) order in
            let before : StageTrails (Built b) (stage_at r'.stages t) = subst (λ (x : Stage). StageTrails x (stage_at r'.stages t)) is (tr.stages t) in
            let old : Trails b before.0 = before.1.1 in
            let now : Trails new before.0 = record {
              format = old.format;
              function = old.function ∙ sym (same b is cs e);
              last = λ ds k. old.last ds (behind_then (ordered_levels b.format.levels) b.last cs ds order k);
            } in
            subst (λ (x : Run). RunTrails x r') (sym goes) (record {
              long = tr.long ∙ sym (length-set r.stages t (Built new));
              stages = one_changes (Built new) (λ c e. (before.0, (before.1.0, now))) b is;
              work = tr.work;
              regular = λ k. tr.regular k;
            })

        by_stage : (x : Stage) → stage_at r.stages t ≡ x → regular (update_at t x at by v r) ≡ true → RunTrails (update_at t x at by v r) r'
        by_stage Absent is h = cc
        by_stage (Built b) is h = put_trails b is (coordinates b.function.shape at) refl h
        by_stage (Frozen format f) is h = cc

-- ---- an update that both do: behind it the buildings are the same

pub worked_trails : (k : ℕ) (r r' : Run) → RunTrails r r' → RunTrails (worked k r) (worked k r')
worked_trails k r r' tr = record { long = tr.long; stages = tr.stages; work = ap (λ z. z + k) tr.work; regular = λ h. tr.regular h }

-- both set one stage
module _ (t : ℕ) (r r' : Run) (tr : RunTrails r r') where
  set_trails : (x : Stage) (j : ℕ) → StageTrails (stage_at (slice_set r.stages t x) j) (stage_at (slice_set r'.stages t x) j)
  set_trails x j = ⊎_elim
      (λ (e : j ≡ t). ⊎_elim
      (λ lt. let lt' : t < length r'.stages = omega (arith, lt, tr.long) in
      subst (λ (k : ℕ). StageTrails (stage_at (slice_set r.stages t x) k) (stage_at (slice_set r'.stages t x) k)) (sym e)
      (subst (λ (y : Stage). StageTrails y (stage_at (slice_set r'.stages t x) t)) (sym (get_or-set_same r.stages t x Absent lt)) (subst (StageTrails x) (sym (get_or-set_same r'.stages t x Absent lt')) (stage_itself x))))
      (λ le. subst (λ (k : ℕ). StageTrails (stage_at (slice_set r.stages t x) k) (stage_at (slice_set r'.stages t x) k)) (sym e)
      (subst (λ (y : Stage). StageTrails y (stage_at (slice_set r'.stages t x) t)) (sym (get_or_past (slice_set r.stages t x) t Absent (omega (arith, le, length-set r.stages t x)))) (get_or_past (slice_set r'.stages t x) t Absent (omega (arith, le, tr.long, length-set r'.stages t x)))))
      (cases_lt t (length r.stages)))
      (λ ne. subst (λ (y : Stage). StageTrails y (stage_at (slice_set r'.stages t x) j)) (sym (get_or-set_other r.stages t j x Absent ne)) (subst (StageTrails (stage_at r.stages j)) (sym (get_or-set_other r'.stages t j x Absent ne)) (tr.stages j)))
      (cases_eq j t)

  pub both_set : (x : Stage) → RunTrails (with_stage t x r) (with_stage t x r')
  both_set x = record { long = length-set r'.stages t x ∙ tr.long ∙ sym (length-set r.stages t x); stages = set_trails x; work = tr.work; regular = λ q. tr.regular q }

module _ (w : Setting) (t : ℕ) (at : List ℤ) (by : Reduce) (v : ℤ) (r r' : Run) (tr : RunTrails r r') where
  put_both : (b b' : Building) → Trails b b' → (o : Option (List ℕ)) → regular (put_at t b o by v r) ≡ true → RunTrails (put_at t b o by v r) (put_at t b' o by v r')
  put_both b b' k None h = tr
  put_both b b' k (Some cs) h =
      let new : Building = updated b cs (λ old. apply by old v) in
      let order : follows b cs ≡ true = in_order (follows b cs) (with_stage t (Built new) r) r h in
      let goes : put_at t b (Some cs) by v r ≡ with_stage t (Built new) r = ap (λ (x : Bool). if x then with_stage t (Built new) r else unordered r) order in
      let format : updated b' cs (λ old. apply by old v) ≡ updated (record b { function = b'.function }) cs (λ old. apply by old v) = ap (λ (f : Format). updated (record { format = f; function = b'.function; last = b'.last }) cs (λ old. apply by old v)) k.format in
      let same : updated b' cs (λ old. apply by old v) ≡ new = format ∙ ap (λ (f : TensorFunction). updated (record b { function = f }) cs (λ old. apply by old v)) k.function in
      let goes' : put_at t b' (Some cs) by v r' ≡ with_stage t (Built new) r' = ap (λ (x : Bool). if x then with_stage t (Built (updated b' cs (λ old. apply by old v))) r' else unordered r') (k.last cs order) ∙ ap (λ (y : Building). with_stage t (Built y) r') same in
      subst (λ (x : Run). RunTrails x (put_at t b' (Some cs) by v r')) (sym goes) (subst (RunTrails (with_stage t (Built new) r)) (sym goes') (both_set t r r' tr (Built new)))

  both_by_stage : (x y : Stage) → StageTrails x y → regular (update_at t x at by v r) ≡ true → RunTrails (update_at t x at by v r) (update_at t y at by v r')
  both_by_stage Absent y k h = cc
  both_by_stage (Built b) y k h =
      let b' = k.0 in
      let shape : coordinates b.function.shape at ≡ coordinates b'.function.shape at = ap (λ (f : TensorFunction). coordinates f.shape at) (sym k.1.1.function) in
      subst (λ (z : Stage). RunTrails (update_at t (Built b) at by v r) (update_at t z at by v r')) (sym k.1.0)
      (subst (λ o. RunTrails (put_at t b (coordinates b.function.shape at) by v r) (put_at t b' o by v r')) shape (put_both b b' k.1.1 (coordinates b.function.shape at) h))
  both_by_stage (Frozen format f) y k h = cc

  pub update_trails : regular (update w t at by v r) ≡ true → RunTrails (update w t at by v r) (update w t at by v r')
  update_trails g =
      let made : is_made w t ≡ true = made_by (is_made w t) (update_at t (stage_at r.stages t) at by v r) r g in
      let run : (x : Run) → update w t at by v x ≡ worked 1 (update_at t (stage_at x.stages t) at by v x) = λ x. ap (λ (z : Bool). worked 1 (if z then update_at t (stage_at x.stages t) at by v x else unalive x)) made in
      subst (λ (x : Run). RunTrails x (update w t at by v r')) (sym (run r)) (subst (RunTrails (worked 1 (update_at t (stage_at r.stages t) at by v r))) (sym (run r'))
      (worked_trails 1 _ _ (both_by_stage (stage_at r.stages t) (stage_at r'.stages t) (tr.stages t) (ap regular (sym (run r)) ∙ g))))

pub update_monotone : (w : Setting) (t : ℕ) (at : List ℤ) (by : Reduce) (v : ℤ) → Monotone (update w t at by v)
update_monotone w t at by v r r' tr g = update_trails w t at by v r r' tr g

-- ---- a freeze, which forgets the last update
freeze_trails : (t : ℕ) (r r' : Run) → RunTrails r r' → (x y : Stage) → StageTrails x y → regular (freeze_at t x r) ≡ true → RunTrails (freeze_at t x r) (freeze_at t y r')
freeze_trails t r r' tr Absent y k g = cc
freeze_trails t r r' tr (Built b) y k g =
    let b' = k.0 in
    let x : Stage = Frozen (undecorated b.format) b.function in
    let size : ℕ = work_of_storing b.format b.function in
    let same : freeze_at t (Built b') r' ≡ worked size (with_stage t x r') =
    ap (λ (f : Format). worked (work_of_storing f b'.function) (with_stage t (Frozen (undecorated f) b'.function) r')) k.1.1.format
    ∙ ap (λ (f : TensorFunction). worked (work_of_storing b.format f) (with_stage t (Frozen (undecorated b.format) f) r')) k.1.1.function in
    subst (λ (z : Stage). RunTrails (freeze_at t (Built b) r) (freeze_at t z r')) (sym k.1.0) (subst (RunTrails (freeze_at t (Built b) r)) (sym same) (worked_trails size (with_stage t x r) (with_stage t x r') (both_set t r r' tr x)))
freeze_trails t r r' tr (Frozen format f) y k g = cc

pub freeze_monotone : (t : ℕ) → Monotone (freeze t)
freeze_monotone t r r' tr g = freeze_trails t r r' tr (stage_at r.stages t) (stage_at r'.stages t) (tr.stages t) g

-- ---- a declaration and a thaw

declare_monotone : (w : Setting) (t : ℕ) → Monotone (declare w t)
declare_monotone w t r r' tr g =
    let x : Stage = Built (started (format_at w t) (shape_at w t)) in
    let n : ℕ = work_of_declaration (format_at w t).levels (shape_at w t) in
    let made : is_made w t ≡ true = made_by (is_made w t) (worked n (with_stage t x r)) r g in
    let goes : (y : Run) → worked n (with_stage t x y) ≡ declare w t y = λ y. sym (ap (λ (b : Bool). if b then worked n (with_stage t x y) else unalive y) made) in
    subst (RunTrails (declare w t r)) (goes r') (subst (λ (y : Run). RunTrails y (worked n (with_stage t x r'))) (goes r) (worked_trails n (with_stage t x r) (with_stage t x r') (both_set t r r' tr x)))

thaw_trails : (t : ℕ) (r r' : Run) → RunTrails r r' → (x y : Stage) → StageTrails x y → regular (thaw_at t x r) ≡ true → RunTrails (thaw_at t x r) (thaw_at t y r')
thaw_trails t r r' tr Absent y k g = cc
thaw_trails t r r' tr (Built b) y k g = cc
thaw_trails t r r' tr (Frozen format f) y k g =
    let x : Stage = Built (unchanged format f) in
    subst (λ (z : Stage). RunTrails (thaw_at t (Frozen format f) r) (thaw_at t z r')) (sym k) (worked_trails (work_of_storing format f) (with_stage t x r) (with_stage t x r') (both_set t r r' tr x))

thaw_monotone : (w : Setting) (t : ℕ) → Monotone (thaw w t)
thaw_monotone w t r r' tr g =
    let made : is_made w t ≡ true = made_by (is_made w t) (thaw_at t (stage_at r.stages t) r) r g in
    let goes : (y : Run) → thaw_at t (stage_at y.stages t) y ≡ thaw w t y = λ y. sym (ap (λ (b : Bool). if b then thaw_at t (stage_at y.stages t) y else unalive y) made) in
    subst (RunTrails (thaw w t r)) (goes r') (subst (λ (y : Run). RunTrails y (thaw_at t (stage_at r'.stages t) r')) (goes r) (thaw_trails t r r' tr (stage_at r.stages t) (stage_at r'.stages t) (tr.stages t) (ap regular (goes r) ∙ g)))

-- ---- values: what can be read is frozen, and the same

frozen_same : (x y : Stage) → StageTrails x y → frozen_in x ≡ frozen_in y
frozen_same Absent y k = sym (ap frozen_in k)
frozen_same (Built b) y k = sym (ap frozen_in k.1.0)
frozen_same (Frozen format f) y k = sym (ap frozen_in k)

same_tensors : (w : Setting) (r r' : Run) → RunTrails r r' → tensors_of w r ≡ tensors_of w r'
same_tensors w r r' tr = fun_ext (λ t. ap (option_or (made_at w.given t)) (frozen_same (stage_at r.stages t) (stage_at r'.stages t) (tr.stages t)))

asked : (b c : Bool) (r : Run) → regular (asked_for_small c (asked_to_read b r)) ≡ true → (b ≡ true) × (c ≡ true)
asked true true r g = (refl, refl)
asked true false r g = let h = right r.alive false (left (r.alive && false) r.ordered g) in absurd (cc)
asked false true r g = cc
asked false false r g = cc

value_monotone : (w : Setting) (e : Expr) (vars : Numbers) (f : ℤ → Run → Run) → ((v : ℤ) (r : Run) → Onward r (f v r)) → ((v : ℤ) → Monotone (f v)) → Monotone (with_value w e vars f)
value_monotone w e vars f on mono r r' tr g =
    let ready : Run → Tensors → Run = λ x ts. asked_for_small (has_small_indices e vars) (asked_to_read (can_read e ts) x) in
    let ts : Tensors = tensors_of w r in
    let v : ℤ = value_of e vars ts in
    let two = asked (can_read e ts) (has_small_indices e vars) r (regular_before (ready r ts) (f v (ready r ts)) (on v (ready r ts)) g) in
    let still : (x : Run) → ready x ts ≡ x = λ x. ap (λ (b : Bool). asked_for_small b (asked_to_read (can_read e ts) x)) two.1 ∙ ap (λ (b : Bool). asked_to_read b x) two.0 in
    let here : f v r ≡ with_value w e vars f r = ap (f v) (sym (still r)) in
    let there : f v r' ≡ with_value w e vars f r' = ap (f v) (sym (still r')) ∙ ap (λ (us : Tensors). f (value_of e vars us) (ready r' us)) (same_tensors w r r' tr) in
    subst (RunTrails (with_value w e vars f r)) there (subst (λ (x : Run). RunTrails x (f v r')) here (mono v r r' tr (ap regular here ∙ g)))

small_monotone : (b : Bool) → Monotone (asked_for_small b)
small_monotone true r r' tr g = tr
small_monotone false r r' tr g = let h = right r.alive false (left (r.alive && false) r.ordered g) in absurd (cc)

-- ---- a body's end

same_declared : (x y : Stage) → StageTrails x y → is_declared x ≡ is_declared y
same_declared Absent y k = sym (ap is_declared k)
same_declared (Built b) y k = sym (ap is_declared k.1.0)
same_declared (Frozen format f) y k = sym (ap is_declared k)

either_trails : (b : Bool) (x y : Stage) → StageTrails x y → StageTrails (if b then x else Absent) (if b then y else Absent)
either_trails true x y k = k
either_trails false x y k = refl

kept_trails : (b b' s s' : List Stage) → length b' ≡ length b → length s' ≡ length s → ((t : ℕ) → StageTrails (stage_at b t) (stage_at b' t)) → ((t : ℕ) → StageTrails (stage_at s t) (stage_at s' t))
    → (t : ℕ) → StageTrails (stage_at (kept b s) t) (stage_at (kept b' s') t)
kept_trails [] [] s s' lb ls hb hs t = hs t
kept_trails [] (y ∷ b') s s' lb ls hb hs t = cc
kept_trails (x ∷ b) [] s s' lb ls hb hs t = cc
kept_trails (x ∷ b) (y ∷ b') [] [] lb ls hb hs t = refl
kept_trails (x ∷ b) (y ∷ b') [] (z ∷ s') lb ls hb hs t = cc
kept_trails (x ∷ b) (y ∷ b') (z ∷ s) [] lb ls hb hs t = cc
kept_trails (x ∷ b) (y ∷ b') (u ∷ s) (v ∷ s') lb ls hb hs zero =
    subst (λ (d : Bool). StageTrails (if is_declared x then u else Absent) (if d then v else Absent)) (same_declared x y (hb 0)) (either_trails (is_declared x) u v (hs 0))
kept_trails (x ∷ b) (y ∷ b') (u ∷ s) (v ∷ s') lb ls hb hs (suc t) = kept_trails b b' s s' (omega (arith, lb)) (omega (arith, ls)) (λ k. hb (suc k)) (λ k. hs (suc k)) t

long_kept : (before stages : List Stage) → length (kept before stages) ≡ length stages
long_kept before stages = Onward.long (onward_closed before (record { stages = stages; work = 0; alive = true; small = true; ordered = true }))

closed_trails : (b b' r r' : Run) → RunTrails b b' → RunTrails r r' → RunTrails (closed b.stages r) (closed b'.stages r')
closed_trails b b' r r' tb tr = record {
  long = long_kept b'.stages r'.stages ∙ tr.long ∙ sym (long_kept b.stages r.stages);
  stages = kept_trails b.stages b'.stages r.stages r'.stages tb.long tr.long tb.stages tr.stages;
  work = tr.work;
  regular = λ h. tr.regular h;
}

-- ---- statements

record GoesOn (f : Run → Run) : Type 0 where
  on : (r : Run) → Onward r (f r)
  mono : Monotone f

module _ (w : Setting) where
  leaf_monotone : (l : Leaf) (vars : Numbers) → Monotone (leaf w l vars)
  leaf_monotone (Declare t) vars = declare_monotone w t
  leaf_monotone (Freeze t) vars = freeze_monotone t
  leaf_monotone (Thaw t) vars = thaw_monotone w t
  leaf_monotone (Update t at by value) vars =
      let small : Run → Run = asked_for_small (are_small vars at) in
      let zs : List ℤ = map (place vars) at in
      value_monotone w value vars (λ v x. update w t zs by v (small x)) (λ v x. onward_then x (small x) _ (small_goes_on (are_small vars at) x) (update_goes_on w t zs by v (small x)))
      (λ v r r' tr g. update_monotone w t zs by v (small r) (small r') (small_monotone (are_small vars at) r r' tr (regular_before (small r) (update w t zs by v (small r)) (update_goes_on w t zs by v (small r)) g)) g)

  parts_go_on : AreAll (staging w) none GoesOn
  parts_go_on = record {
    range = λ var. refl;
    numbers = λ var n low high. tt;
    still = record { on = onward_still; mono = λ r r' tr g. tr };
    joined = λ f f' g g' a b. record {
      on = λ r. onward_then r (f r) (f' (f r)) (a.on r) (b.on (f r));
      mono = λ r r' tr g. b.mono (f r) (f r') (a.mono r r' tr (regular_before (f r) (f' (f r)) (b.on (f r)) g)) g;
    };
    value = λ e vars f g _ _ a. record {
      on = λ r. onward_then r (worked 1 r) _ (onward_worked 1 r) (value_goes_on w e vars f (λ v. (a v tt).on) (worked 1 r));
      mono = λ r r' tr g. value_monotone w e vars f (λ v. (a v tt).on) (λ v. (a v tt).mono) (worked 1 r) (worked 1 r') (worked_trails 1 r r' tr) g;
    };
    entry = λ var vars. record { on = onward_worked 1; mono = λ r r' tr g. worked_trails 1 r r' tr };
    turn = λ var vars n f g a. record {
      on = λ r. onward_then r (worked 1 r) (f (worked 1 r)) (onward_worked 1 r) (a.on (worked 1 r));
      mono = λ r r' tr g. a.mono (worked 1 r) (worked 1 r') (worked_trails 1 r r' tr) g;
    };
    brace = λ f g a. record {
      on = λ r. onward_then r (f r) _ (a.on r) (onward_closed r.stages (f r));
      mono = λ r r' tr g. closed_trails r r' (f r) (f r') tr (a.mono r r' tr g);
    };
    leaf = λ l vars _ _. record { on = leaf_goes_on w l vars; mono = leaf_monotone l vars };
  }

  pub stage_monotone : (x : Stmt) (vars : Numbers) → Monotone (stage_of w x vars)
  stage_monotone x vars = (act_is (staging w) GoesOn parts_go_on x vars).mono

  pub stages_monotone : (body : List Stmt) (vars : Numbers) → Monotone (stage_all w body vars)
  stages_monotone body vars = (act_all_is (staging w) GoesOn parts_go_on body vars).mono
