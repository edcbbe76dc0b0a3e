-- Where each statement was asked for what it can do, a run by stages makes what dense evaluation makes.
use Rattle.std.proofs.Common.{◌≡◌, ℕ, zero, suc, ℤ, Bool, true, false, List, [], ◌∷◌, map, Option, Some, None, if◌then◌else◌, refl, sym, ap, ◌∙◌, subst}
use Rattle.std.specs.Prelude.{slice_set, is_some}
use Rattle.std.specs.Option.{option_or}
use Rattle.fin_base.specs.Words.{operate, negated}
use Rattle.fin_tensor.specs.TensorFunction.{TensorFunction}
use Rattle.fin_ast.specs.declared.tree.Expr.{Expr, ind-Expr, map-Expr, fold-roll-Expr}
use Rattle.fin_ast.specs.declared.tree.Expr.TheOpen.{Expr-F}
use Rattle.fin_ast.specs.Value.{Numbers, Tensors, Reading, place, read, value_step, value_of}
use Rattle.fin_ast.specs.Dense as dense
use Rattle.fin_ast.specs.Dense.{Setting, State, Made, made_at, tensors_in}
use Rattle.fin_stage.specs.Stages.{Stage, Absent, Built, Frozen, stage_at, function_in, frozen_in, is_declared, kept}
use Rattle.fin_stage.specs.Staged.{Run, with_value, tensors_of, reads_step, can_read, has_small_indices, asked_to_read, asked_for_small, close}
use Rattle.fin_stage.proofs.Onward.{Onward, value_goes_on}
use Rattle.fin_stage.proofs.Alive.{left, right}

-- ---- lists of stages and of functions
abbrev pub functions : List Stage → Made
functions stages = map function_in stages

pub function_at : (stages : List Stage) (t : ℕ) → made_at (functions stages) t ≡ function_in (stage_at stages t)
function_at [] t = refl
function_at (x ∷ stages) zero = refl
function_at (x ∷ stages) (suc t) = function_at stages t

pub set_functions : (stages : List Stage) (t : ℕ) (x : Stage) → slice_set (functions stages) t (function_in x) ≡ functions (slice_set stages t x)
set_functions [] t x = refl
set_functions (y ∷ stages) zero x = refl
set_functions (y ∷ stages) (suc t) x = ap (λ (fs : Made). function_in y ∷ fs) (set_functions stages t x)

-- a stage with the same function changes none
pub same_function : (stages : List Stage) (t : ℕ) (x : Stage) → function_in (stage_at stages t) ≡ function_in x → functions (slice_set stages t x) ≡ functions stages
same_function [] t x e = refl
same_function (y ∷ stages) zero x e = ap (λ (o : Option TensorFunction). o ∷ functions stages) (sym e)
same_function (y ∷ stages) (suc t) x e = ap (λ (fs : Made). function_in y ∷ fs) (same_function stages t x e)

there_is : (x : Stage) → is_some (function_in x) ≡ is_declared x
there_is Absent = refl
there_is (Built b) = refl
there_is (Frozen format f) = refl

kept_function : (b : Bool) (x : Stage) → (if b then function_in x else None) ≡ function_in (if b then x else Absent)
kept_function true x = refl
kept_function false x = refl

kept_functions : (before stages : List Stage) → dense.kept (map is_some (functions before)) (functions stages) ≡ functions (kept before stages)
kept_functions [] stages = refl
kept_functions (b ∷ before) [] = refl
kept_functions (b ∷ before) (x ∷ stages) =
    ap (λ (d : Bool). (if d then function_in x else None) ∷ dense.kept (map is_some (functions before)) (functions stages)) (there_is b)
    ∙ ap (λ (o : Option TensorFunction). o ∷ dense.kept (map is_some (functions before)) (functions stages)) (kept_function (is_declared b) x)
    ∙ ap (λ (fs : Made). function_in (if is_declared b then x else Absent) ∷ fs) (kept_functions before stages)

-- ---- values
module _ (vars : Numbers) (ts us : Tensors) (same : (t : ℕ) → is_some (ts t) ≡ true → ts t ≡ us t) where
  abbrev Kept : Type 0
  Kept = (e : Expr) × (can_read e ts ≡ true → value_of e vars ts ≡ value_of e vars us)

  same_step : (y : Expr-F Kept) → reads_step (map-Expr Expr (Tensors → Bool) can_read (map-Expr Kept Expr (λ k. k.0) y)) ts ≡ true → value_step (map-Expr Expr Reading value_of (map-Expr Kept Expr (λ k. k.0) y)) vars ts ≡ value_step (map-Expr Expr Reading value_of (map-Expr Kept Expr (λ k. k.0) y)) vars us
  same_step (Expr-F.Num n) e = refl
  same_step (Expr-F.Var var line) e = refl
  same_step (Expr-F.Read tensor at line) e = ap (λ (f : Option TensorFunction). read f (map (place vars) at)) (same tensor e)
  same_step (Expr-F.Neg inner) e = ap negated (inner.1 e)
  same_step (Expr-F.Two op x y) e = ap (λ (v : ℤ). operate op v (value_of y.0 vars ts)) (x.1 (left (can_read x.0 ts) (can_read y.0 ts) e)) ∙ ap (operate op (value_of x.0 vars us)) (y.1 (right (can_read x.0 ts) (can_read y.0 ts) e))

  pub same_value : (e : Expr) → can_read e ts ≡ true → value_of e vars ts ≡ value_of e vars us
  same_value = ind-Expr (λ e. can_read e ts ≡ true → value_of e vars ts ≡ value_of e vars us) (λ z y is e.
      let reads = ap (λ (u : Expr-F Expr). reads_step (map-Expr Expr (Tensors → Bool) can_read u)) is ∙ sym (fold-roll-Expr (Tensors → Bool) reads_step z) in
      let values = ap (λ (u : Expr-F Expr). value_step (map-Expr Expr Reading value_of u)) is ∙ sym (fold-roll-Expr Reading value_step z) in
      ap (λ (f : Reading). f vars ts) (sym values) ∙ same_step y (ap (λ (f : Tensors → Bool). f ts) reads ∙ e) ∙ ap (λ (f : Reading). f vars us) values)

frozen_is : (g : Option TensorFunction) (x : Stage) → is_some (option_or g (frozen_in x)) ≡ true → option_or g (frozen_in x) ≡ option_or g (function_in x)
frozen_is (Some f) x e = refl
frozen_is None Absent e = cc
frozen_is None (Built b) e = cc
frozen_is None (Frozen format f) e = refl

-- ---- runs
pub record Good (r : Run) : Type 0 where
  pub alive : r.alive ≡ true
  pub small : r.small ≡ true
  pub ordered : r.ordered ≡ true

pub good_before : (r n : Run) → Onward r n → Good n → Good r
good_before r n o g = record { alive = o.alive g.alive; small = o.small g.small; ordered = o.ordered g.ordered }

module _ (w : Setting) where
  abbrev Same : Run → State → Type 0
  Same r t = t.made ≡ functions r.stages

  -- what can be read has its value
  value_is : (e : Expr) (vars : Numbers) (r : Run) (t : State) → Same r t → can_read e (tensors_of w r) ≡ true → value_of e vars (tensors_of w r) ≡ value_of e vars (tensors_in w t)
  value_is e vars r t h c = same_value vars (tensors_of w r) (tensors_in w t) (λ k some. frozen_is (made_at w.given k) (stage_at r.stages k) some ∙ ap (option_or (made_at w.given k)) (sym (ap (λ (fs : Made). made_at fs k) h ∙ function_at r.stages k))) e c

  -- what the one does goes on, and where it is good, the other does the same
  pub record Simulates (f : Run → Run) (g : State → State) : Type 0 where
    pub on : (r : Run) → Onward r (f r)
    pub same : (r : Run) (t : State) → Same r t → Good (f r) → Same (f r) (g t)

  pub small_same : (b : Bool) (r : Run) → (asked_for_small b r).stages ≡ r.stages
  small_same true r = refl
  small_same false r = refl

  pub small_good : (b : Bool) (r : Run) → Good (asked_for_small b r) → Good r
  small_good true r g = g
  small_good false r g = record { alive = g.alive; small = absurd (let e : false ≡ true = g.small in cc); ordered = g.ordered }

  read_good : (b : Bool) (r : Run) → Good (asked_to_read b r) → b ≡ true
  read_good true r g = refl
  read_good false r g = absurd (let e : false ≡ true = g.alive in cc)

  -- the value of an expression, and the run behind it
  pub value_simulates : (e : Expr) (vars : Numbers) (after : ℤ → Run → Run) (d : ℤ → State → State) → ((v : ℤ) → Simulates (after v) (d v)) → Simulates (with_value w e vars after) (λ t. d (value_of e vars (tensors_in w t)) t)
  value_simulates e vars after d f = record {
    on = value_goes_on w e vars after (λ v. (f v).on);
    same = λ r t h g.
        let v : ℤ = value_of e vars (tensors_of w r) in
        let asked : Run = asked_to_read (can_read e (tensors_of w r)) r in
        let ready : Run = asked_for_small (has_small_indices e vars) asked in
        let gr : Good asked = small_good (has_small_indices e vars) asked (good_before ready (after v ready) ((f v).on ready) g) in
        let c : can_read e (tensors_of w r) ≡ true = read_good (can_read e (tensors_of w r)) r gr in
        let same_stages : ready.stages ≡ r.stages = small_same (has_small_indices e vars) asked ∙ ap (λ (b : Bool). (asked_to_read b r).stages) c in
        let sr : Same ready t = h ∙ ap functions (sym same_stages) in
        subst (λ (x : ℤ). Same (after v ready) (d x t)) (value_is e vars r t h c) ((f v).same ready t sr g);
  }

  pub close_simulates : (before r : Run) (s t : State) → Same before s → Same r t → Same (close before r) (dense.close s t)
  close_simulates before r s t hb h = ap (λ (fs : Made). dense.kept (map is_some fs) t.made) hb ∙ ap (dense.kept (map is_some (functions before.stages))) h ∙ kept_functions before.stages r.stages
