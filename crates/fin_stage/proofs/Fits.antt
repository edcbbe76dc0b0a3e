-- The stages of tensors fit the headers, whatever a statement does.
use Rattle.std.proofs.Common.{◌≡◌, ℕ, ℤ, pos, zero, suc, Bool, true, false, List, [], ◌∷◌, map, Option, Some, None, if◌then◌else◌, refl, sym, ap, subst, inl, inr, ◌⊎◌}
use Rattle.std.specs.Prelude.{slice_set, slice_get, unwrap_or, option_map}
use Rattle.fin_base.specs.Words.{apply}
use Rattle.fin_base.specs.declared.reduce.Reduce.{Reduce}
use Rattle.fin_tensor.specs.TensorFunction.{value_at}
use Rattle.fin_tensor.specs.Building.{Building, unchanged, no_format, started, follows, updated}
use Rattle.fin_tensor.specs.Canon.{undecorated}
use Rattle.fin_tensor.proofs.Cells.{keeps_cells, filled_has_cells}
use Rattle.fin_ast.specs.declared.header.Header.{Header}
use Rattle.fin_ast.specs.declared.tree.Expr.{Expr}
use Rattle.fin_ast.specs.declared.tree.Stmt.{Stmt}
use Rattle.fin_ast.specs.Value.{Numbers, place, coordinates, value_of}
use Rattle.fin_ast.specs.Dense.{Setting, shape_at}
use Rattle.fin_ast.proofs.InBox.{in_box}
use Rattle.fin_stage.specs.Stages.{Stage, Absent, Built, Frozen, stage_at, is_declared, kept}
use Rattle.fin_stage.specs.Staged.{Run, worked, unalive, unsmall, unordered, with_value, tensors_of, can_read, has_small_indices, asked_to_read, asked_for_small, are_small, braced, is_made, declare, freeze_at, thaw_at, put_at, update_at, update, format_at, leaf, staging, stage_of, stage_all}
use Rattle.fin_stage.specs.Fitting.{FunctionFits, StageFits, StagesFit}
use Rattle.fin_ast.proofs.Alike.{none, AreAll, act_is, act_all_is}
use Rattle.fin_ast.specs.Actions.{Leaf, Declare, Freeze, Thaw, Update}

-- ---- one stage of a list

-- what stands at a place after one place was set
pub set_cases : (xs : List Stage) (k : ℕ) (x : Stage) (j : ℕ) → ((j ≡ k) × (stage_at (slice_set xs k x) j ≡ x)) ⊎ (stage_at (slice_set xs k x) j ≡ stage_at xs j)
set_cases [] k x j = inr refl
set_cases (y ∷ xs) zero x zero = inl (refl, refl)
set_cases (y ∷ xs) zero x (suc j) = inr refl
set_cases (y ∷ xs) (suc k) x zero = inr refl
set_cases (y ∷ xs) (suc k) x (suc j) = elim (set_cases xs k x j) [ inl h ↦ inl (ap suc h.0, h.1) | inr h ↦ inr h ]

-- and after a body's end
pub kept_cases : (before stages : List Stage) (j : ℕ) → (stage_at (kept before stages) j ≡ Absent) ⊎ (stage_at (kept before stages) j ≡ stage_at stages j)
kept_cases [] stages j = inr refl
kept_cases (b ∷ before) [] j = inr refl
kept_cases (b ∷ before) (x ∷ stages) zero = elim (is_declared b) as (λ t. ((if t then x else Absent) ≡ Absent) ⊎ ((if t then x else Absent) ≡ x)) [ true ↦ inr refl | false ↦ inl refl ]
kept_cases (b ∷ before) (x ∷ stages) (suc j) = kept_cases before stages j

pub absent_at : (headers : List Header) (j : ℕ) → stage_at (map (λ h. Absent) headers) j ≡ Absent
absent_at [] j = refl
absent_at (h ∷ headers) zero = refl
absent_at (h ∷ headers) (suc j) = absent_at headers j

module _ (w : Setting) where
  set_fits : (stages : List Stage) (tensor : ℕ) (x : Stage) → StagesFit w stages → StageFits w tensor x → StagesFit w (slice_set stages tensor x)
  set_fits stages tensor x h fx j = elim (set_cases stages tensor x j) [
    | inl e ↦ subst (λ (y : Stage). StageFits w j y) (sym e.1) (subst (λ (k : ℕ). StageFits w k x) (sym e.0) fx)
    | inr e ↦ subst (λ (y : Stage). StageFits w j y) (sym e) (h j)
  ]

  kept_fits : (before stages : List Stage) → StagesFit w stages → StagesFit w (kept before stages)
  kept_fits before stages h j = elim (kept_cases before stages j) [
    | inl e ↦ subst (λ (y : Stage). StageFits w j y) (sym e) tt
    | inr e ↦ subst (λ (y : Stage). StageFits w j y) (sym e) (h j)
  ]

  pub nothing_fits : (headers : List Header) → StagesFit w (map (λ h. Absent) headers)
  nothing_fits headers j = subst (λ (y : Stage). StageFits w j y) (sym (absent_at headers j)) tt

  -- ---- single statements

  pub same_fill : (o : Option Header) → (unwrap_or (option_map (λ (h : Header). h.format) o) no_format).fill ≡ unwrap_or (option_map (λ (h : Header). h.format.fill) o) (pos 0)
  same_fill None = refl
  same_fill (Some h) = refl

  started_fits : (tensor : ℕ) → StageFits w tensor (Built (started (format_at w tensor) (shape_at w tensor)))
  started_fits tensor = (refl, record { shape = refl; fill = same_fill (slice_get w.headers tensor); cells = filled_has_cells (shape_at w tensor) (format_at w tensor).fill })

  either : (b : Bool) (x y : Run) → StagesFit w x.stages → StagesFit w y.stages → StagesFit w (if b then x else y).stages
  either true x y f g = f
  either false x y f g = g

  declare_fits : (tensor : ℕ) (r : Run) → StagesFit w r.stages → StagesFit w (declare w tensor r).stages
  declare_fits tensor r h = either (is_made w tensor) _ (unalive r) (set_fits r.stages tensor _ h (started_fits tensor)) h

  freeze_fits : (tensor : ℕ) (x : Stage) (r : Run) → StageFits w tensor x → StagesFit w r.stages → StagesFit w (freeze_at tensor x r).stages
  freeze_fits tensor Absent r fx h = h
  freeze_fits tensor (Built b) r fx h = set_fits r.stages tensor (Frozen (undecorated b.format) b.function) h fx
  freeze_fits tensor (Frozen format f) r fx h = h

  thaw_fits : (tensor : ℕ) (x : Stage) (r : Run) → StageFits w tensor x → StagesFit w r.stages → StagesFit w (thaw_at tensor x r).stages
  thaw_fits tensor Absent r fx h = h
  thaw_fits tensor (Built b) r fx h = h
  thaw_fits tensor (Frozen format f) r fx h = set_fits r.stages tensor (Built (unchanged format f)) h (ap undecorated fx.0, fx.1)

  put_fits : (tensor : ℕ) (b : Building) (at : List ℤ) (o : Option (List ℕ)) (by : Reduce) (v : ℤ) (r : Run) → coordinates b.function.shape at ≡ o → StageFits w tensor (Built b) → StagesFit w r.stages → StagesFit w (put_at tensor b o by v r).stages
  put_fits tensor b at None by v r e fx h = h
  put_fits tensor b at (Some cs) by v r e fx h =
      let f : FunctionFits w tensor b.function = fx.1 in
      let new : FunctionFits w tensor (updated b cs (λ old. apply by old v)).function = record {
        shape = f.shape;
        fill = f.fill;
        cells = keeps_cells b.function cs (apply by (value_at b.function cs) v) f.cells (in_box b.function.shape at cs e);
      } in
      either (follows b cs) _ (unordered r) (set_fits r.stages tensor (Built (updated b cs (λ old. apply by old v))) h (fx.0, new)) h

  update_at_fits : (tensor : ℕ) (x : Stage) (at : List ℤ) (by : Reduce) (v : ℤ) (r : Run) → StageFits w tensor x → StagesFit w r.stages → StagesFit w (update_at tensor x at by v r).stages
  update_at_fits tensor Absent at by v r fx h = h
  update_at_fits tensor (Built b) at by v r fx h = put_fits tensor b at (coordinates b.function.shape at) by v r refl fx h
  update_at_fits tensor (Frozen format f) at by v r fx h = h

  small_fits : (b : Bool) (r : Run) → StagesFit w r.stages → StagesFit w (asked_for_small b r).stages
  small_fits b r h = either b r (unsmall r) h h

  update_fits : (tensor : ℕ) (at : List ℤ) (by : Reduce) (v : ℤ) (r : Run) → StagesFit w r.stages → StagesFit w (update w tensor at by v r).stages
  update_fits tensor at by v r h = either (is_made w tensor) (update_at tensor (stage_at r.stages tensor) at by v r) (unalive r) (update_at_fits tensor (stage_at r.stages tensor) at by v r (h tensor) h) h

  -- ---- all statements

  abbrev pub KeepsFit : (Run → Run) → Type 0
  KeepsFit f = (r : Run) → StagesFit w r.stages → StagesFit w (f r).stages

  value_fits : (e : Expr) (vars : Numbers) (after : ℤ → Run → Run) → ((v : ℤ) → KeepsFit (after v)) → KeepsFit (with_value w e vars after)
  value_fits e vars after g r h =
      let read : Run = asked_to_read (can_read e (tensors_of w r)) r in
      g (value_of e vars (tensors_of w r)) (asked_for_small (has_small_indices e vars) read) (small_fits (has_small_indices e vars) read (either (can_read e (tensors_of w r)) r (unalive r) h h))

  leaf_fits : (l : Leaf) (vars : Numbers) → KeepsFit (leaf w l vars)
  leaf_fits (Declare tensor) vars r h = declare_fits tensor r h
  leaf_fits (Freeze tensor) vars r h = freeze_fits tensor (stage_at r.stages tensor) r (h tensor) h
  leaf_fits (Thaw tensor) vars r h = either (is_made w tensor) (thaw_at tensor (stage_at r.stages tensor) r) (unalive r) (thaw_fits tensor (stage_at r.stages tensor) r (h tensor) h) h
  leaf_fits (Update tensor at by value) vars r h =
      let small : Run → Run = asked_for_small (are_small vars at) in
      value_fits value vars (λ v x. update w tensor (map (place vars) at) by v (small x)) (λ v x g. update_fits tensor (map (place vars) at) by v (small x) (small_fits (are_small vars at) x g)) r h

  parts_fit : AreAll (staging w) none KeepsFit
  parts_fit = record {
    range = λ var. refl;
    numbers = λ var n low high. tt;
    still = λ r h. h;
    joined = λ f f' g g' k k' r h. k' (f r) (k r h);
    value = λ e vars f g _ _ k r h. value_fits e vars f (λ v. k v tt) (worked 1 r) h;
    entry = λ var vars r h. h;
    turn = λ var vars n f g k r h. k (worked 1 r) h;
    brace = λ f g k r h. kept_fits r.stages (f r).stages (k r h);
    leaf = λ l vars _ _. leaf_fits l vars;
  }

  pub stage_fits : (x : Stmt) (vars : Numbers) → KeepsFit (stage_of w x vars)
  stage_fits = act_is (staging w) KeepsFit parts_fit

  pub stages_fit : (body : List Stmt) (vars : Numbers) → KeepsFit (stage_all w body vars)
  stages_fit = act_all_is (staging w) KeepsFit parts_fit

  pub braced_fits : (body : List Stmt) (vars : Numbers) → KeepsFit (braced (stage_all w body) vars)
  braced_fits body vars r h = kept_fits r.stages (stage_all w body vars r).stages (stages_fit body vars r h)
