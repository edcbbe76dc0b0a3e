-- An update without its work.
use Rattle.std.proofs.Common.{◌≡◌, ℕ, ◌+◌, ◌≤◌, Bool, true, false, List, [], ◌∷◌, map, Option, Some, None, if◌then◌else◌, refl, sym, ap, ◌∙◌, subst, inl, ℤ, arith}
use Rattle.std.specs.List.{list_all}
use Rattle.fin_base.specs.declared.reduce.Reduce.{Reduce}
use Rattle.fin_base.specs.Words.{apply}
use Rattle.fin_tensor.specs.Building.{Building, follows, updated}
use Rattle.fin_tensor.specs.declared.storage.Storage.{Storage}
use Rattle.fin_ast.specs.declared.checked.Checked.{Checked}
use Rattle.fin_ast.specs.declared.tree.Index.{Index}
use Rattle.fin_ast.specs.declared.tree.Expr.{Expr}
use Rattle.fin_ast.specs.Accepted.{FitProgram}
use Rattle.fin_ast.specs.Actions.{Update}
use Rattle.fin_ast.specs.Dense.{Setting, setting_of}
use Rattle.fin_ast.specs.Scope.{Scope, is_index, is_named_expr}
use Rattle.fin_ast.specs.Shaped.{FitHeaders}
use Rattle.fin_ast.specs.Value.{Numbers, place, coordinates, value_of}
use Rattle.fin_ir.specs.declared.code.Code.{Code}
use Rattle.fin_ir.specs.declared.expression.IExpr.{IExpr}
use Rattle.fin_ir.specs.declared.layout.Layout.{Layout}
use Rattle.fin_ir.specs.Meaning.{meaning_all}
use Rattle.fin_stage.specs.Stages.{Stage, Absent, Built, Frozen, stage_at}
use Rattle.fin_stage.specs.Staged.{Run, worked, with_stage, unalive, unordered, regular, tensors_of, can_read, has_small_indices, are_small, asked_to_read, asked_for_small, with_value, is_made, put_at, update_at, leaf}
use Rattle.fin_stage.specs.Trailing.{RunTrails, Monotone, skipped}
use Rattle.fin_stage.proofs.Onward.{Onward}
use Rattle.fin_read.specs.Values.{Lowered, index_code, value_code}
use Rattle.fin_nest.specs.Related.{Start, Live}
use Rattle.fin_nest.specs.Senses.{runs}
use Rattle.fin_nest.specs.Performs.{Place, Ready, Performs}
use Rattle.fin_nest.proofs.Senses.{advances}
use Rattle.fin_nest.proofs.Lifting.{trailing_performs}
use Rattle.fin_nest.proofs.Performing.{from_live}
use Rattle.fin_nest.proofs.Keeping.{keeps_left}
use Rattle.fin_simp.specs.Work.{costing}
use Rattle.fin_perform.specs.Codes.{put_code, unpaid_update, end_of}
use Rattle.fin_perform.specs.Layouts.{heads_in, layout_with, start_with}
use Rattle.fin_perform.specs.Performing.{Does}
use Rattle.fin_perform.specs.Standing.{StandsIn}
use Rattle.fin_perform.proofs.Composing.{does_as}
use Rattle.fin_perform.proofs.Evaluating.{knowing, with_value_does}
use Rattle.fin_perform.proofs.Leaves.{put_keeps, after_goes_on, after_monotone, are_asked, indices_go}
use Rattle.fin_perform.proofs.Updating.{skipped_goes}

-- ---- its own work is none

either_work : (b : Bool) (x y : Run) (n : ℕ) → x.work ≡ n → y.work ≡ n → (if b then x else y).work ≡ n
either_work true x y n e f = e
either_work false x y n e f = f

put_work : (t : ℕ) (b : Building) (o : Option (List ℕ)) (by : Reduce) (v : ℤ) (r : Run) → (put_at t b o by v r).work ≡ r.work
put_work t b None by v r = refl
put_work t b (Some cs) by v r = either_work (follows b cs) (with_stage t (Built (updated b cs (λ old. apply by old v))) r) (unordered r) r.work refl refl

stage_work : (t : ℕ) (x : Stage) (at : List ℤ) (by : Reduce) (v : ℤ) (r : Run) → (update_at t x at by v r).work ≡ r.work
stage_work t Absent at by v r = refl
stage_work t (Built b) at by v r = put_work t b (coordinates b.function.shape at) by v r
stage_work t (Frozen format f) at by v r = refl

skipped_work : (w : Setting) (t : ℕ) (at : List ℤ) (by : Reduce) (v : ℤ) (r : Run) → (skipped w t at by v r).work ≡ r.work
skipped_work w t at by v r = either_work (is_made w t) (update_at t (stage_at r.stages t) at by v r) (unalive r) r.work (stage_work t (stage_at r.stages t) at by v r) refl

asked_work : (b c d : Bool) (r : Run) → (asked_for_small b (asked_for_small c (asked_to_read d r))).work ≡ r.work
asked_work true true true r = refl
asked_work true true false r = refl
asked_work true false true r = refl
asked_work true false false r = refl
asked_work false true true r = refl
asked_work false true false r = refl
asked_work false false true r = refl
asked_work false false false r = refl

small_work : (b : Bool) (r : Run) → (asked_for_small b r).work ≡ r.work
small_work true r = refl
small_work false r = refl

-- ---- with work and without

unworked_trails : (a b : Run) → RunTrails (worked 1 a) (worked 1 b) → RunTrails a b
unworked_trails a b tr = record { long = tr.long; stages = tr.stages; work = omega (arith, tr.work); regular = λ h. tr.regular h }

unworked_onward : (r n : Run) → Onward r (worked 1 n) → n.work ≡ r.work → Onward r n
unworked_onward r n o e = record { work = omega (arith, e); alive = o.alive; small = o.small; ordered = o.ordered; long = o.long }

costs_nothing : (r n : Run) → n.work ≡ r.work → costing 0 r (worked 1 n) ≡ n
costs_nothing r n e =
    let same : r.work + 0 ≡ n.work = omega (arith, e) in
    ap (λ k. record { stages = n.stages; work = k; alive = n.alive; small = n.small; ordered = n.ordered }) same

module _ (c : Checked) (room : ℕ) (inputs : List Storage) (fits : FitHeaders c.program.headers c.dims) (given_fit : FitProgram c inputs)
    (sc : Scope) (vars : Numbers) (p : Place) (stands : StandsIn c sc vars p) (t : ℕ) (loose : p.steady t ≡ false)
    (at : List Index) (by : Reduce) (e : Expr) (indices : list_all (is_index sc) at ≡ true) (named : is_named_expr e sc ≡ true) (enough : end_of (value_code (heads_in c) e p.next) ≤ room) where
  abbrev start : Start
  start = start_with c room inputs

  abbrev w : Setting
  w = setting_of c inputs

  abbrev layout : Layout
  layout = layout_with c room

  abbrev v : Lowered
  v = value_code (heads_in c) e p.next

  abbrev zs : List ℤ
  zs = map (place vars) at

  abbrev xs : List IExpr
  xs = map index_code at

  abbrev asked : Run → Run
  asked = asked_for_small (are_small vars at)

  abbrev after : ℤ → Run → Run
  after z r = skipped w t zs by z (asked r)

  after_work : (z : ℤ) (r : Run) → (after z r).work ≡ r.work
  after_work z r = skipped_work w t zs by z (asked r) ∙ small_work (are_small vars at) r

  goes_on : (z : ℤ) (r : Run) → Onward r (after z r)
  goes_on z r = unworked_onward r (after z r) (after_goes_on c room inputs fits given_fit sc vars p stands t loose at by e indices named enough z r) (after_work z r)

  monotone : (z : ℤ) → Monotone (after z)
  monotone z r r' tr g = unworked_trails (after z r) (after z r') (after_monotone c room inputs fits given_fit sc vars p stands t loose at by e indices named enough z r r' tr g)

  put_performs : (z : ℤ) → Performs layout (runs start) (knowing p (v.value, z)) (put_code (heads_in c) t at by v.value ∷ []) (after z)
  put_performs z =
      let q : Place = knowing p (v.value, z) in
      let codes : List Code = put_code (heads_in c) t at by v.value ∷ [] in
      trailing_performs start layout q codes (after z) (λ r. advances r (after z r) (goes_on z r)) (monotone z)
      (from_live start q codes (after z) (goes_on z)
      (λ r m ready live g.
      let small = are_asked c room inputs fits given_fit sc vars p stands t loose at by e indices named enough z r g in
      let here : Ready layout m p = record { live = ready.live; locals = ready.locals; facts = ready.facts.1 } in
      let is : after z r ≡ skipped w t zs by z r = ap (λ (b : Bool). skipped w t zs by z (asked_for_small b r)) small in
      let places = indices_go c room inputs fits given_fit sc vars p stands t loose at by e indices named enough m here small in
      inl (subst (λ (n : Run). Live start [] n (meaning_all layout codes m)) (sym is)
      (skipped_goes c room inputs fits given_fit [] r m live t xs zs places by v.value z ready.facts.0 (sym (ap regular is) ∙ g))))
      (λ m ready. keeps_left t m (meaning_all layout codes m) q loose (put_keeps layout t _ xs by v.value m)))

  value_is : (r : Run) → costing 0 r (leaf w (Update t at by e) vars r) ≡ with_value w e vars after r
  value_is r =
      let z : ℤ = value_of e vars (tensors_of w r) in
      let ready : Run = asked_for_small (has_small_indices e vars) (asked_to_read (can_read e (tensors_of w r)) r) in
      costs_nothing r (after z ready) (skipped_work w t zs by z (asked ready) ∙ asked_work (are_small vars at) (has_small_indices e vars) (can_read e (tensors_of w r)) r)

  pub unpaid_does : Does c room inputs p (unpaid_update (heads_in c) t at by v) (λ r. costing 0 r (leaf w (Update t at by e) vars r))
  unpaid_does =
      does_as c room inputs p (unpaid_update (heads_in c) t at by v) (λ r. costing 0 r (leaf w (Update t at by e) vars r)) (with_value w e vars after) value_is
      (with_value_does c room inputs fits given_fit sc vars p stands e named enough (put_code (heads_in c) t at by v.value ∷ []) after
      (λ z. record { performs = put_performs z; advances = λ r. advances r (after z r) (goes_on z r) }))
