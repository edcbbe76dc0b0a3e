-- An update that names nothing of its loop, done at once, means the nest along which it is left.
use Rattle.std.proofs.Common.{◌≡◌, ℕ, ◌+◌, ◌<◌, ◌≤◌, Bool, true, false, ◌&&◌, List, [], map, length, Some, refl, sym, ap, ◌∙◌, subst, ℤ, pos, arith}
use Rattle.std.specs.Prelude.{not, slice_set, slice_get, slice_index_or, ◌==◌}
use Rattle.std.specs.List.{list_all}
use Rattle.fin_tensor.specs.declared.storage.Storage.{Storage}
use Rattle.fin_ast.specs.declared.header.Header.{Header}
use Rattle.fin_ast.specs.Dense.{setting_of}
use Rattle.fin_ast.specs.Scope.{Scope, is_bound, is_index, is_access, is_named_expr, holds_of, within_loop}
use Rattle.fin_ast.specs.Value.{Numbers, Tensors, number, place, value_of}
use Rattle.fin_ir.specs.declared.code.Code.{Code}
use Rattle.fin_ir.specs.declared.layout.Layout.{Layout}
use Rattle.fin_ir.specs.Machine.{Machine, seen}
use Rattle.fin_ir.specs.Value.{value_in}
use Rattle.fin_ir.proofs.Values.{value_local}
use Rattle.fin_stage.specs.Staged.{Run, tensors_of, can_read, has_small_indices, are_small}
use Rattle.fin_stage.proofs.Alive.{left, right}
use Rattle.fin_read.specs.Means.{IsWithin, IsValued}
use Rattle.fin_read.specs.Steps.{Agree, stepped}
use Rattle.fin_read.specs.Values.{Lowered as Valued, index_code, value_code, prelude, shape_of}
use Rattle.fin_read.proofs.Valuing.{values_mean}
use Rattle.fin_looplet.specs.View.{Store, value}
use Rattle.fin_nest.specs.Courses.{nest_with, Meant}
use Rattle.fin_nest.specs.Nests.{Nest, Fits, Separate}
use Rattle.fin_nest.specs.Performs.{Place, Hold, Ready}
use Rattle.fin_nest.specs.Related.{Start, Live}
use Rattle.fin_nest.specs.Senses.{runs}
use Rattle.fin_simp.specs.Work.{World, costing, first_share}
use Rattle.fin_style_point.specs.declared.changing.Change.{Change}
use Rattle.fin_style_point.specs.declared.nest.Nest as point
use Rattle.fin_style_point.specs.Changes.{is_bitwise, behind, Prepared}
use Rattle.fin_style_point.specs.Parts.{all_looplets, course_of}
use Rattle.fin_style_point.specs.Statements.{IsStatement}
use Rattle.fin_style_point.specs.Steps.{AllFlat}
use Rattle.fin_style_point.proofs.Statements.{statements_are_updates}
use Rattle.fin_style_point.proofs.Updates.{updates_are_at_once}
use Rattle.fin_perform.specs.Codes.{end_of}
use Rattle.fin_perform.specs.Layouts.{heads_in, layout_with, start_with}
use Rattle.fin_perform.specs.Meanings.{body_deed}
use Rattle.fin_perform.specs.Standing.{StandsIn}
use Rattle.fin_perform.proofs.Behind.{code_from, stepped_long, stepped_kept}
use Rattle.fin_perform.proofs.Evaluating.{words, words_long, words_agree, words_same}
use Rattle.fin_perform.proofs.Leaves.{indices_go}
use Rattle.fin_perform.proofs.Scoped.{Alike, alike}
use Rattle.fin_perform.proofs.Seen.{all_seen}
use Rattle.fin_perform.proofs.Valued.{steps_go}
use Rattle.fin_loops.specs.AtOnce.{change_of, once_code_of, OnceMeans}
use Rattle.fin_loops.specs.Loops.{Loop, slots, behind_of, InScope}
use Rattle.fin_loops.specs.Only.{Written, put_by, is_named_update, update_names, IsOnly}
use Rattle.fin_loops.specs.Points.{AreSettled, marks_at_point, ChangesNoMore}
use Rattle.fin_loops.specs.Told.{is_fixed_along}
use Rattle.fin_loops.proofs.FixedFolds.{seen_is}
use Rattle.fin_loops.proofs.Points.{in_all}
use Rattle.fin_loops.proofs.Standing.{world, whole, pinned, pin_kept, outside, outside_stands, facts_of, all_bound, bound_is, facts_hold}
use Rattle.fin_loops.proofs.Unnamed.{put_same, named_outside_loop}

module _ (l : Loop) (n : point.Nest) (flat : AllFlat (all_looplets n)) (settled : AreSettled (slots l) (all_looplets n)) (fixed : is_fixed_along l n ≡ true)
    (fewer : ChangesNoMore l (marks_at_point l n)) (u : Written) (only : IsOnly (body_deed l.body l.here (Some (marks_at_point l n))) u) (free : update_names l.var u ≡ false)
    (plain : is_bitwise u.by ≡ false) (room : ℕ) (inputs : List Storage) (sc : Scope) (vars : Numbers) (good : InScope l room inputs sc vars)
    (apart : Separate (whole l n room inputs sc vars good)) (enough : end_of (value_code (heads_in l.checked) u.value n.next) ≤ room) where
  abbrev w : World
  w = world l n room inputs sc vars good

  abbrev nest : Nest Run
  nest = whole l n room inputs sc vars good

  abbrev layout : Layout
  layout = layout_with l.checked room

  abbrev start : Start
  start = start_with l.checked room inputs

  abbrev change : Change
  change = change_of (heads_in l.checked) n.next u

  abbrev shape : List ℕ
  shape = shape_of (heads_in l.checked) u.tensor

  abbrev v : Valued
  v = value_code (heads_in l.checked) u.value n.next

  -- ---- where the nest stands

  abbrev around : Place
  around = outside l n room inputs sc vars good apart

  stands : StandsIn l.checked sc vars (outside l n room inputs sc vars good apart)
  stands = outside_stands l n room inputs sc vars good apart

  loose : nest.steady u.tensor ≡ false
  loose = ap not (fewer u.tensor only.written)

  -- the names of the update are good there
  named : is_named_update u sc ≡ true
  named = named_outside_loop l.var sc u free (only.named (within_loop sc l.var) good.named)

  indices : list_all (is_index sc) u.at ≡ true
  indices =
      right (holds_of (λ (y : Header). length u.at == length y.format.levels) (slice_get sc.headers u.tensor)) (list_all (is_index sc) u.at)
      (left (is_access sc u.tensor u.at) (is_named_expr u.value sc) named)

  named_value : is_named_expr u.value sc ≡ true
  named_value = right (is_access sc u.tensor u.at) (is_named_expr u.value sc) named

  hold : (m : Machine) → ((x : ℕ) → is_bound sc x ≡ true → slice_index_or m.locals x (pos 0) ≡ number vars x) → Hold m (facts_of vars (all_bound sc))
  hold m h = facts_hold vars m (all_bound sc) (λ x e. value_local (seen m) m.locals x ∙ h x (sym (bound_is sc x) ∙ e))

  module _ (ts : Store) (m : Machine) (fits : Fits layout ts m nest) where
    numbers : (x : ℕ) → is_bound sc x ≡ true → slice_index_or m.locals x (pos 0) ≡ number vars x
    numbers x e = fits.pinned x (number vars x) (pinned l n room inputs sc vars good apart x e)

    ready : Ready layout m (outside l n room inputs sc vars good apart)
    ready = record { live = fits.live; locals = fits.locals; facts = hold m numbers }

    -- behind the steps of the value
    abbrev prepared : Prepared layout nest (prelude v) m
    prepared = record {
      locals = stepped (seen m) v.steps m.locals;
      is = steps_go layout v.steps m fits.live;
      long = stepped_long (seen m) v.steps m.locals;
      kept = λ x k. stepped_kept (seen m) n.next v.steps m.locals (code_from (heads_in l.checked) u.value n.next) x k.below;
    }

    abbrev after : Machine
    after = behind m (stepped (seen m) v.steps m.locals)

    ready_after : Ready layout (behind m (stepped (seen m) v.steps m.locals)) (outside l n room inputs sc vars good apart)
    ready_after = record {
      live = fits.live;
      locals = stepped_long (seen m) v.steps m.locals ∙ fits.locals;
      facts = hold after (λ x e.
          stepped_kept (seen m) n.next v.steps m.locals (code_from (heads_in l.checked) u.value n.next) x (pin_kept l n room inputs sc vars good apart x e).below ∙ numbers x e);
    }

    places : are_small vars u.at ≡ true → map (value_in after) (map index_code u.at) ≡ map (place vars) u.at
    places small = indices_go l.checked room inputs good.shaped good.given sc vars around stands u.tensor loose u.at u.by u.value indices named_value enough after ready_after small

    sees : (r : Run) → Live start [] r m → can_read u.value (tensors_of (setting_of l.checked inputs) r) ≡ true → has_small_indices u.value vars ≡ true
        → value_in after v.value ≡ value_of u.value vars (tensors_of (setting_of l.checked inputs) r)
    sees r live can small =
        let fs : Tensors = tensors_of (setting_of l.checked inputs) r in
        let ps : Numbers = words l.checked room inputs good.shaped good.given sc vars around stands u.value named_value enough m in
        let long : length ps ≡ n.next = words_long l.checked room inputs good.shaped good.given sc vars around stands u.value named_value enough m ready in
        let of_words = words_same l.checked room inputs good.shaped good.given sc vars around stands u.value named_value enough m ready in
        let same : Alike sc vars ps of_words fs u.value = alike sc vars ps of_words fs u.value named_value in
        let agree : Agree (length ps) m.locals ps =
        subst (λ (k : ℕ). Agree k m.locals ps) (sym long) (words_agree l.checked room inputs good.shaped good.given sc vars around stands u.value named_value enough m) in
        let inside : IsWithin sc (length ps) = subst (IsWithin sc) (sym long) stands.within in
        let q : IsValued (seen m) v n.next m.locals (value_of u.value ps fs) =
        values_mean (heads_in l.checked) (seen m) fs sc ps u.value n.next m.locals (all_seen l.checked room inputs good.shaped good.given [] r m live) inside named_value can
        (same.small ∙ small) (omega (arith, long)) agree (omega (arith, enough, fits.locals)) in
        q.value (stepped (seen m) v.steps m.locals) (λ k lt. refl) ∙ same.value

  -- ---- the body at a coordinate is the update

  is_statement : IsStatement layout start nest shape change u.at u.value vars
  is_statement = record {
    shape_is = refl;
    loose = loose;
    body = λ ts m fits begins i r.
        seen_is l n w vars flat settled fixed ts m.locals (value ts m.locals n.hi) i begins r
        ∙ ap (λ (q : Run). costing (first_share begins) r q) (only.does w (slice_set vars l.var i) r ∙ ap (costing 0 r) (put_same l.var i vars w u r free));
    prepared = prepared;
    places = λ ts m fits r live small. places ts m fits small;
    sees = λ ts m fits r live can small. sees ts m fits r live can small;
    words = λ bits ts m fits r live g. let h : false ≡ true = sym plain ∙ bits in cc;
  }

  pub once_meant : Meant layout (runs start) nest (once_code_of (heads_in l.checked) n u)
  once_meant =
      (updates_are_at_once start layout n (behind_of l w sc vars) shape change flat apart (statements_are_updates layout start nest shape change u.at u.value vars is_statement)).0

pub once_means : OnceMeans
once_means l n code u var flat settled fixed fewer only free plain is enough s layout b stands fine =
    subst (λ (c : Code). Meant layout (runs s) (nest_with b (course_of n)) c) (sym is)
    (in_all l (λ s' k b'. Separate (nest_with b' (course_of n)) → code.room ≤ k.locals → Meant k (runs s') (nest_with b' (course_of n)) (once_code_of (heads_in l.checked) n u))
    (λ room inputs sc vars good apart le.
    once_meant l n flat settled fixed fewer u only free plain room inputs sc vars good apart (omega (arith, enough, le)))
    s layout b stands.ours stands.separate fine)
