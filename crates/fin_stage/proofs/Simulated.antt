-- The same, statement by statement and for whole programs.
use Rattle.std.proofs.Common.{◌≡◌, ℕ, ℤ, Bool, true, false, List, [], ◌∷◌, map, Option, Some, None, if◌then◌else◌, refl, sym, ap, ◌∙◌}
use Rattle.std.specs.Prelude.{slice_set, slice_get}
use Rattle.fin_base.specs.Words.{apply}
use Rattle.fin_base.specs.declared.reduce.Reduce.{Reduce}
use Rattle.fin_tensor.specs.TensorFunction.{TensorFunction, filled}
use Rattle.fin_tensor.specs.Building.{Building, unchanged, follows, updated, started}
use Rattle.fin_tensor.specs.Canon.{undecorated}
use Rattle.fin_tensor.specs.declared.storage.Storage.{Storage}
use Rattle.fin_ast.specs.declared.header.Header.{Header}
use Rattle.fin_ast.specs.declared.checked.Checked.{Checked}
use Rattle.fin_ast.specs.declared.tree.Stmt.{Stmt}
use Rattle.fin_ast.specs.Actions.{Leaf, Declare, Freeze, Thaw, Update}
use Rattle.fin_ast.specs.Value.{Numbers, place, coordinates, value_of}
use Rattle.fin_ast.specs.Dense as dense
use Rattle.fin_ast.specs.Dense.{Setting, State, Made, made_at, range_of, shape_at, fill_of, tensors_in, run_of, run_all, setting_of, unbound, evaluated}
use Rattle.fin_stage.specs.Stages.{Stage, Absent, Built, Frozen, stage_at, function_in, work_of_declaration}
use Rattle.fin_stage.specs.Staged.{Run, worked, with_stage, unalive, unordered, with_value, asked_for_small, are_small, is_made, freeze_at, thaw_at, put_at, update_at, update, format_at, leaf, staging, stage_all, before_all, staged}
use Rattle.fin_ast.proofs.Alike.{AreAlike, none, no_leaf_in, Any, act_all_alike}
use Rattle.fin_ast.proofs.Leaves.{neither}
use Rattle.fin_stage.proofs.Onward.{onward_then, onward_still, onward_worked, onward_closed, small_goes_on, update_goes_on, leaf_goes_on}
use Rattle.fin_stage.proofs.Fits.{same_fill}
use Rattle.fin_stage.proofs.Simulating.{functions, function_at, set_functions, same_function, Good, good_before, Simulates, small_same, value_simulates, close_simulates}

unfallen : (b : Bool) (x : Run) → (b ≡ false → Good x → ⊥) → Good x → b ≡ true
unfallen true x f g = refl
unfallen false x f g = absurd (f refl g)

module _ (w : Setting) where
  abbrev Same : Run → State → Type 0
  Same r t = t.made ≡ functions r.stages

  -- ---- single statements
  declare_same : (tensor : ℕ) (m : Bool) (r : Run) (t : State) → Same r t
      → Good (if m then worked (work_of_declaration (format_at w tensor).levels (shape_at w tensor)) (with_stage tensor (Built (started (format_at w tensor) (shape_at w tensor))) r) else unalive r)
      → Same (if m then worked (work_of_declaration (format_at w tensor).levels (shape_at w tensor)) (with_stage tensor (Built (started (format_at w tensor) (shape_at w tensor))) r) else unalive r) (dense.declared w tensor t)
  declare_same tensor false r t h g = absurd (let e : false ≡ true = g.alive in cc)
  declare_same tensor true r t h g =
      let x : Stage = Built (started (format_at w tensor) (shape_at w tensor)) in
      ap (λ (fs : Made). slice_set fs tensor (Some (filled (shape_at w tensor) (fill_of w tensor)))) h
      ∙ ap (λ (v : ℤ). slice_set (functions r.stages) tensor (Some (filled (shape_at w tensor) v))) (sym (same_fill w (slice_get w.headers tensor)))
      ∙ set_functions r.stages tensor x

  freeze_same : (tensor : ℕ) (x : Stage) (r : Run) (t : State) → stage_at r.stages tensor ≡ x → Same r t → Good (freeze_at tensor x r) → Same (freeze_at tensor x r) t
  freeze_same tensor Absent r t e h g = absurd (let f : false ≡ true = g.alive in cc)
  freeze_same tensor (Built b) r t e h g = h ∙ sym (same_function r.stages tensor (Frozen (undecorated b.format) b.function) (ap function_in e))
  freeze_same tensor (Frozen format f) r t e h g = absurd (let k : false ≡ true = g.alive in cc)

  thaw_same : (tensor : ℕ) (x : Stage) (r : Run) (t : State) → stage_at r.stages tensor ≡ x → Same r t → Good (thaw_at tensor x r) → Same (thaw_at tensor x r) t
  thaw_same tensor Absent r t e h g = absurd (let f : false ≡ true = g.alive in cc)
  thaw_same tensor (Built b) r t e h g = absurd (let f : false ≡ true = g.alive in cc)
  thaw_same tensor (Frozen format f) r t e h g = h ∙ sym (same_function r.stages tensor (Built (unchanged format f)) (ap function_in e))

  thaw_if : (tensor : ℕ) (m : Bool) (r : Run) (t : State) → Same r t → Good (if m then thaw_at tensor (stage_at r.stages tensor) r else unalive r) → Same (if m then thaw_at tensor (stage_at r.stages tensor) r else unalive r) t
  thaw_if tensor true r t h g = thaw_same tensor (stage_at r.stages tensor) r t refl h g
  thaw_if tensor false r t h g = absurd (let f : false ≡ true = g.alive in cc)

  put_same : (tensor : ℕ) (b : Building) (o : Option (List ℕ)) (by : Reduce) (v : ℤ) (r : Run) (t : State) → stage_at r.stages tensor ≡ Built b → Same r t → Good (put_at tensor b o by v r) → slice_set t.made tensor (Some (dense.updated_at b.function o by v)) ≡ functions (put_at tensor b o by v r).stages
  put_same tensor b None by v r t e h g = ap (λ (fs : Made). slice_set fs tensor (Some b.function)) h ∙ set_functions r.stages tensor (Built b) ∙ same_function r.stages tensor (Built b) (ap function_in e)
  put_same tensor b (Some cs) by v r t e h g = follow (follows b cs) g where
    follow : (k : Bool) → Good (if k then with_stage tensor (Built (updated b cs (λ old. apply by old v))) r else unordered r) → slice_set t.made tensor (Some (dense.updated_at b.function (Some cs) by v)) ≡ functions (if k then with_stage tensor (Built (updated b cs (λ old. apply by old v))) r else unordered r).stages
    follow true g' = ap (λ (fs : Made). slice_set fs tensor (Some (dense.updated_at b.function (Some cs) by v))) h ∙ set_functions r.stages tensor (Built (updated b cs (λ old. apply by old v)))
    follow false g' = absurd (let f : false ≡ true = g'.ordered in cc)

  update_at_same : (tensor : ℕ) (x : Stage) (at : List ℤ) (by : Reduce) (v : ℤ) (r : Run) (t : State) → stage_at r.stages tensor ≡ x → Same r t → Good (update_at tensor x at by v r) → Same (update_at tensor x at by v r) (dense.updated tensor at by v t)
  update_at_same tensor Absent at by v r t e h g = absurd (let f : false ≡ true = g.alive in cc)
  update_at_same tensor (Frozen format f) at by v r t e h g = absurd (let k : false ≡ true = g.alive in cc)
  update_at_same tensor (Built b) at by v r t e h g =
      let there : made_at t.made tensor ≡ Some b.function = ap (λ (fs : Made). made_at fs tensor) h ∙ function_at r.stages tensor ∙ ap function_in e in
      ap (λ (o : Option TensorFunction). slice_set t.made tensor (dense.updated_if o at by v)) there ∙ put_same tensor b (coordinates b.function.shape at) by v r t e h g

  update_if : (tensor : ℕ) (m : Bool) (at : List ℤ) (by : Reduce) (v : ℤ) (r : Run) (t : State) → Same r t → Good (worked 1 (if m then update_at tensor (stage_at r.stages tensor) at by v r else unalive r)) → Same (worked 1 (if m then update_at tensor (stage_at r.stages tensor) at by v r else unalive r)) (dense.updated tensor at by v t)
  update_if tensor true at by v r t h g = update_at_same tensor (stage_at r.stages tensor) at by v r t refl h (record { alive = g.alive; small = g.small; ordered = g.ordered })
  update_if tensor false at by v r t h g = absurd (let f : false ≡ true = g.alive in cc)

  -- ---- all statements
  leaf_same : (l : Leaf) (vars : Numbers) → Simulates w (leaf w l vars) (dense.leaf w l vars)
  leaf_same (Declare tensor) vars = record { on = leaf_goes_on w (Declare tensor) vars; same = λ r t h g. declare_same tensor (is_made w tensor) r t h g }
  leaf_same (Freeze tensor) vars = record { on = leaf_goes_on w (Freeze tensor) vars; same = λ r t h g. freeze_same tensor (stage_at r.stages tensor) r t refl h g }
  leaf_same (Thaw tensor) vars = record { on = leaf_goes_on w (Thaw tensor) vars; same = λ r t h g. thaw_if tensor (is_made w tensor) r t h g }
  leaf_same (Update tensor at by value) vars =
      let small : Run → Run = asked_for_small (are_small vars at) in
      value_simulates w value vars (λ v x. update w tensor (map (place vars) at) by v (small x)) (λ v. dense.updated tensor (map (place vars) at) by v) (λ v. record {
        on = λ x. onward_then x (small x) _ (small_goes_on (are_small vars at) x) (update_goes_on w tensor (map (place vars) at) by v (small x));
        same = λ x u h g. update_if tensor (is_made w tensor) (map (place vars) at) by v (small x) u (h ∙ ap functions (sym (small_same w (are_small vars at) x))) g;
      })

  parts_simulate : AreAlike (staging w) (dense.evaluating w) neither none Any (Simulates w)
  parts_simulate = record {
    range = λ var. refl;
    numbers = λ var n low high. tt;
    still = record { on = onward_still; same = λ r t h g. h };
    joined = λ f f' d d' a b. record {
      on = λ r. onward_then r (f r) (f' (f r)) (a.on r) (b.on (f r));
      same = λ r t h g. b.same (f r) (d t) (a.same r t h (good_before (f r) (f' (f r)) (b.on (f r)) g)) g;
    };
    value = λ e vars f d _ _ a.
        let v : Simulates w (with_value w e vars f) (λ t. d (value_of e vars (tensors_in w t)) t) = value_simulates w e vars f d (λ v. a v tt) in
        record { on = λ r. onward_then r (worked 1 r) _ (onward_worked 1 r) (v.on (worked 1 r)); same = λ r. v.same (worked 1 r) };
    entry = λ var vars. record { on = onward_worked 1; same = λ r t h g. h };
    turn = λ var vars n f d a. record { on = λ r. onward_then r (worked 1 r) (f (worked 1 r)) (onward_worked 1 r) (a.on (worked 1 r)); same = λ r t. a.same (worked 1 r) (dense.ticked t) };
    brace = λ f d a. record {
      on = λ r. onward_then r (f r) _ (a.on r) (onward_closed r.stages (f r));
      same = λ r t h g. close_simulates w r (f r) t (d t) h (a.same r t h (record { alive = g.alive; small = g.small; ordered = g.ordered }));
    };
    leaf = λ l vars _ _. leaf_same l vars;
  }

  pub statements_simulate : (body : List Stmt) (vars : Numbers) → Simulates w (stage_all w body vars) (dense.run_all w body vars)
  statements_simulate body vars = act_all_alike (staging w) (dense.evaluating w) neither none Any (Simulates w) parts_simulate body (no_leaf_in body) vars (λ x. tt)

abbrev none_of : Header → Option TensorFunction
none_of h = None

pub none_made : (hs : List Header) → map (λ (h : Header). none_of h) hs ≡ functions (map (λ h. Absent) hs)
none_made [] = refl
none_made (h ∷ hs) = ap (λ (fs : Made). None ∷ fs) (none_made hs)

-- where all flags hold at the end, the functions are those of dense evaluation
pub staged_is_dense : (c : Checked) (inputs : List Storage) → Good (staged c inputs) → (evaluated c inputs).made ≡ functions (staged c inputs).stages
staged_is_dense c inputs g = (statements_simulate (setting_of c inputs) c.program.body (unbound c.dims)).same (before_all c.program.headers) (dense.started c.program.headers) (none_made c.program.headers) g
