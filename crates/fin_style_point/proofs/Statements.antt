-- A body that is an update statement of a program is one update.
use Rattle.std.proofs.Common.{◌≡◌, ℕ, ◌+◌, Bool, true, false, ◌&&◌, List, map, Option, Some, None, if◌then◌else◌, refl, sym, ap, ◌∙◌, subst, ℤ, arith}
use Rattle.std.specs.Option.{option_or}
use Rattle.fin_base.specs.declared.reduce.Reduce.{Reduce}
use Rattle.fin_base.specs.Words.{apply}
use Rattle.fin_tensor.specs.Building.{Building, follows, updated}
use Rattle.fin_ast.specs.declared.tree.Expr.{Expr}
use Rattle.fin_ast.specs.declared.tree.Index.{Index}
use Rattle.fin_ast.specs.Value.{Numbers, place, coordinates, value_of}
use Rattle.fin_ast.specs.Actions.{Update}
use Rattle.fin_ast.specs.Dense.{Setting, made_at}
use Rattle.fin_stage.specs.Stages.{Stage, Absent, Built, Frozen, stage_at, frozen_in}
use Rattle.fin_stage.specs.Staged.{Run, worked, regular, is_made, with_stage, unalive, unordered, tensors_of}
use Rattle.fin_stage.specs.Staged.{can_read, has_small_indices, are_small, asked_to_read, asked_for_small, put_at, update_at, update, leaf}
use Rattle.fin_stage.specs.Trailing.{StageTrails, RunTrails, skipped}
use Rattle.fin_stage.proofs.Alive.{left, right}
use Rattle.fin_stage.proofs.Onward.{small_goes_on, update_goes_on}
use Rattle.fin_stage.proofs.Trailing.{regular_before, update_monotone}
use Rattle.fin_ir.specs.Value.{value_in}
use Rattle.fin_looplet.specs.Lists.{seens}
use Rattle.fin_nest.specs.Nests.{views_of}
use Rattle.fin_nest.specs.Senses.{Advances}
use Rattle.fin_style_point.specs.Changes.{behind, paid_first}
use Rattle.fin_style_point.specs.Statements.{shared, StatementsAreUpdates}

-- ---- work beside an update

if_worked : (k : ℕ) (b : Bool) (x y : Run) → (if b then worked k x else worked k y) ≡ worked k (if b then x else y)
if_worked k true x y = refl
if_worked k false x y = refl

if_work : (b : Bool) (x y : Run) → x.work ≡ y.work → (if b then x else y).work ≡ y.work
if_work true x y e = e
if_work false x y e = refl

module _ (w : Setting) (t : ℕ) (zs : List ℤ) (by : Reduce) (v : ℤ) (q : Run) where
  put_worked : (k : ℕ) (b : Building) (o : Option (List ℕ)) → put_at t b o by v (worked k q) ≡ worked k (put_at t b o by v q)
  put_worked k b None = refl
  put_worked k b (Some cs) = if_worked k (follows b cs) (with_stage t (Built (updated b cs (λ old. apply by old v))) q) (unordered q)

  at_worked : (k : ℕ) (x : Stage) → update_at t x zs by v (worked k q) ≡ worked k (update_at t x zs by v q)
  at_worked k Absent = refl
  at_worked k (Built b) = put_worked k b (coordinates b.function.shape zs)
  at_worked k (Frozen format f) = refl

  skipped_worked : (k : ℕ) → skipped w t zs by v (worked k q) ≡ worked k (skipped w t zs by v q)
  skipped_worked k =
      ap (λ (x : Run). if is_made w t then x else unalive (worked k q)) (at_worked k (stage_at q.stages t))
      ∙ if_worked k (is_made w t) (update_at t (stage_at q.stages t) zs by v q) (unalive q)

  put_work : (b : Building) (o : Option (List ℕ)) → (put_at t b o by v q).work ≡ q.work
  put_work b None = refl
  put_work b (Some cs) = if_work (follows b cs) (with_stage t (Built (updated b cs (λ old. apply by old v))) q) (unordered q) refl

  at_work : (x : Stage) → (update_at t x zs by v q).work ≡ q.work
  at_work Absent = refl
  at_work (Built b) = put_work b (coordinates b.function.shape zs)
  at_work (Frozen format f) = refl

  skipped_work : (skipped w t zs by v q).work ≡ q.work
  skipped_work = if_work (is_made w t) (update_at t (stage_at q.stages t) zs by v q) (unalive q) (at_work (stage_at q.stages t))

  -- the work of a piece in place of its own
  shared_is : (begins : Bool) → shared begins q (update w t zs by v q) ≡ skipped w t zs by v (paid_first begins q)
  shared_is true = ap (λ k. record (skipped w t zs by v q) { work = k + 2 }) (sym skipped_work) ∙ sym (skipped_worked 2)
  shared_is false = let none : q.work + 0 ≡ q.work = omega arith in ap (λ k. record (skipped w t zs by v q) { work = k }) (none ∙ sym skipped_work)

-- ---- what the statement asks for

by_small : (b : Bool) (x : Run) → regular (asked_for_small b x) ≡ true → b ≡ true
by_small true x h = refl
by_small false x h = right x.alive false (left (x.alive && false) x.ordered h)

by_read : (b : Bool) (x : Run) → regular (asked_to_read b x) ≡ true → b ≡ true
by_read true x h = refl
by_read false x h = left false x.small (left (false && x.small) x.ordered h)

-- what reads see is the same of a run that trails
still : (x y : Stage) → StageTrails x y → frozen_in y ≡ frozen_in x
still Absent y h = ap frozen_in h
still (Built b) y h = ap frozen_in h.1.0
still (Frozen format f) y h = ap frozen_in h

same_tensors : (w : Setting) (r r' : Run) → RunTrails r r' → tensors_of w r' ≡ tensors_of w r
same_tensors w r r' t = λ i j. option_or (made_at w.given j) (still (stage_at r.stages j) (stage_at r'.stages j) (t.stages j) i)

module _ (w : Setting) (t : ℕ) (at : List Index) (by : Reduce) (e : Expr) (vars : Numbers) where
  abbrev done : Run → Run
  done = leaf w (Update t at by e) vars

  record Asked (r : Run) : Type 0 where
    reads : can_read e (tensors_of w r) ≡ true
    small : has_small_indices e vars ≡ true
    places : are_small vars at ≡ true

  asked : (r : Run) → regular (leaf w (Update t at by e) vars r) ≡ true → Asked r
  asked r g =
      let v = value_of e vars (tensors_of w r) in
      let first : Run = asked_to_read (can_read e (tensors_of w r)) r in
      let second : Run = asked_for_small (has_small_indices e vars) first in
      let third : Run = asked_for_small (are_small vars at) second in
      let g3 : regular third ≡ true = regular_before third (update w t (map (place vars) at) by v third) (update_goes_on w t (map (place vars) at) by v third) g in
      let g2 : regular second ≡ true = regular_before second third (small_goes_on (are_small vars at) second) g3 in
      let g1 : regular first ≡ true = regular_before first second (small_goes_on (has_small_indices e vars) first) g2 in
      record { reads = by_read (can_read e (tensors_of w r)) r g1; small = by_small (has_small_indices e vars) first g2; places = by_small (are_small vars at) second g3 }

  runs : (r : Run) → Asked r → leaf w (Update t at by e) vars r ≡ update w t (map (place vars) at) by (value_of e vars (tensors_of w r)) r
  runs r a =
      let put : Run → Run = update w t (map (place vars) at) by (value_of e vars (tensors_of w r)) in
      ap (λ b. put (asked_for_small (are_small vars at) (asked_for_small (has_small_indices e vars) (asked_to_read b r)))) a.reads
      ∙ ap (λ b. put (asked_for_small (are_small vars at) (asked_for_small b r))) a.small ∙ ap (λ b. put (asked_for_small b r)) a.places

  before : (r : Run) → regular (leaf w (Update t at by e) vars r) ≡ true → regular r ≡ true
  before r g =
      let put : Run → Run = update w t (map (place vars) at) by (value_of e vars (tensors_of w r)) in
      regular_before r (put r) (update_goes_on w t (map (place vars) at) by (value_of e vars (tensors_of w r)) r) (ap regular (sym (runs r (asked r g))) ∙ g)

  leaf_monotone : (r r' : Run) → RunTrails r r' → regular (leaf w (Update t at by e) vars r) ≡ true → RunTrails (leaf w (Update t at by e) vars r) (leaf w (Update t at by e) vars r')
  leaf_monotone r r' tr g =
      let zs = map (place vars) at in
      let v = value_of e vars (tensors_of w r) in
      let same = same_tensors w r r' tr in
      let a = asked r g in
      let a' : Asked r' = record { reads = ap (can_read e) same ∙ a.reads; small = a.small; places = a.places } in
      let one : done r ≡ update w t zs by v r = runs r a in
      let other : done r' ≡ update w t zs by v r' = runs r' a' ∙ ap (λ ts. update w t zs by (value_of e vars ts) r') same in
      subst (λ (x : Run). RunTrails x (done r')) (sym one) (subst (RunTrails (update w t zs by v r)) (sym other) (update_monotone w t zs by v r r' tr (ap regular (sym one) ∙ g)))

shared_trails : (b : Bool) (r r' x x' : Run) → r'.work ≡ r.work → RunTrails x x' → RunTrails (shared b r x) (shared b r' x')
shared_trails b r r' x x' e t = record { long = t.long; stages = t.stages; work = ap (λ k. k + (if b then 2 else 0)) e; regular = t.regular }

pub statements_are_updates : StatementsAreUpdates
statements_are_updates layout s n shape c at e vars is =
    let w = s.setting in
    let t = c.tensor in
    let by = c.by in
    record {
      shape_is = is.shape_is;
      loose = is.loose;
      advances = λ ts m fits begins i r. subst (λ (x : Run). Advances r x) (sym (is.body ts m fits begins i r))
          (record { before = λ g. before w t at by e vars r g; work = omega arith });
      monotone = λ ts m fits begins i r r' tr g.
          let done : Run → Run = leaf w (Update t at by e) vars in
          let one = is.body ts m fits begins i r in
          let other = is.body ts m fits begins i r' in
          let all : RunTrails (shared begins r (done r)) (shared begins r' (done r')) =
          shared_trails begins r r' (done r) (done r') tr.work (leaf_monotone w t at by e vars r r' tr (ap regular (sym one) ∙ g)) in
          subst (λ (x : Run). RunTrails x (n.body (seens (views_of ts m.locals n i)) begins i r')) (sym one) (subst (RunTrails (shared begins r (done r))) (sym other) all);
      prepared = is.prepared;
      does = λ ts m fits r q live beside begins i g.
          let one = is.body ts m fits begins i q in
          let a = asked w t at by e vars q (ap regular (sym one) ∙ g) in
          let same = beside.tensors in
          let read = ap (can_read e) (sym same) ∙ Asked.reads a in
          one ∙ ap (shared begins q) (runs w t at by e vars q a) ∙ shared_is w t (map (place vars) at) by (value_of e vars (tensors_of w q)) q begins
          ∙ ap (λ ts. skipped w t (map (place vars) at) by (value_of e vars ts) (paid_first begins q)) same
          ∙ ap (λ v. skipped w t (map (place vars) at) by v (paid_first begins q)) (sym (is.sees ts m fits r live read (Asked.small a)))
          ∙ ap (λ zs. skipped w t zs by (value_in (behind m (is.prepared ts m fits).locals) c.value) (paid_first begins q)) (sym (is.places ts m fits r live (Asked.places a)));
      words = λ bits ts m fits r live i g. is.words bits ts m fits r live (ap regular (sym (is.body ts m fits true i r)) ∙ g);
    }
