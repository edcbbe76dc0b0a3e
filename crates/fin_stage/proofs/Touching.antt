-- Which statements update a tensor, and which declare it.
use Rattle.std.proofs.Common.{◌≡◌, ℕ, ℤ, Bool, true, false, List, map, Option, Some, None, if◌then◌else◌, refl, sym, ap, ◌∙◌, inl, inr, ◌⊎◌, arith}
use Rattle.std.specs.Prelude.{slice_set, nat_eq}
use Rattle.std.proofs.lemmas.Bool.Decides.{nat_tests}
use Rattle.fin_base.specs.declared.reduce.Reduce.{Reduce}
use Rattle.fin_base.specs.Words.{apply}
use Rattle.fin_tensor.specs.Building.{Building, unchanged, follows, updated, started}
use Rattle.fin_tensor.specs.Canon.{undecorated}
use Rattle.fin_ast.specs.declared.tree.Expr.{Expr}
use Rattle.fin_ast.specs.declared.tree.Stmt.{Stmt}
use Rattle.fin_ast.specs.Actions.{Leaf, Declare, Freeze, Thaw, Update}
use Rattle.fin_ast.specs.Value.{Numbers, place, coordinates, value_of}
use Rattle.fin_ast.specs.Dense.{Setting, shape_at}
use Rattle.fin_stage.specs.Stages.{Stage, Absent, Built, Frozen, stage_at, kept}
use Rattle.fin_stage.specs.Staged.{Run, worked, with_stage, unalive, unsmall, unordered, asked_to_read, asked_for_small, has_small_indices, can_read, tensors_of, are_small, is_made, freeze_at, thaw_at, put_at, update_at, format_at, leaf, staging, stage_of}
use Rattle.fin_ast.proofs.Leaves.{has_leaf, have_leaf}
use Rattle.fin_ast.proofs.Alike.{AreAll, act_has}
use Rattle.fin_stage.proofs.Fits.{set_cases, kept_cases}

abbrev pub is_update_of : ℕ → Leaf → Bool
is_update_of t (Declare tensor) = false
is_update_of t (Freeze tensor) = false
is_update_of t (Thaw tensor) = false
is_update_of t (Update tensor at by value) = nat_eq tensor t

abbrev pub is_declaration_of : ℕ → Leaf → Bool
is_declaration_of t (Declare tensor) = nat_eq tensor t
is_declaration_of t (Freeze tensor) = false
is_declaration_of t (Thaw tensor) = false
is_declaration_of t (Update tensor at by value) = false

-- a statement that updates the tensor, or one in its bodies
abbrev pub touches : ℕ → Stmt → Bool
touches t = has_leaf (is_update_of t)

abbrev pub any_touches : ℕ → List Stmt → Bool
any_touches t = have_leaf (is_update_of t)

-- and one that declares it
abbrev pub declares : ℕ → Stmt → Bool
declares t = has_leaf (is_declaration_of t)

abbrev pub any_declares : ℕ → List Stmt → Bool
any_declares t = have_leaf (is_declaration_of t)

pub same_tensor : (a b : ℕ) → nat_eq a b ≡ true → a ≡ b
same_tensor a b e = grind (arith, nat_tests)

pub itself : (a : ℕ) → nat_eq a a ≡ true
itself a = grind (arith, nat_tests)

-- ---- what isn't updated keeps its last update, or has none
abbrev pub last_in : Stage → Option (List ℕ)
last_in Absent = None
last_in (Built b) = b.last
last_in (Frozen format f) = None

abbrev pub LastKept : ℕ → List Stage → List Stage → Type 0
LastKept t before after = (last_in (stage_at after t) ≡ last_in (stage_at before t)) ⊎ (last_in (stage_at after t) ≡ None)

last_then : (t : ℕ) (a b c : List Stage) → LastKept t a b → LastKept t b c → LastKept t a c
last_then t a b c (inl e) (inl f) = inl (f ∙ e)
last_then t a b c (inr e) (inl f) = inr (f ∙ e)
last_then t a b c h (inr f) = inr f

pub last_closed : (t : ℕ) (before stages : List Stage) → LastKept t stages (kept before stages)
last_closed t before stages = elim (kept_cases before stages t) [ inl e ↦ inr (ap last_in e) | inr e ↦ inl (ap last_in e) ]

-- a tensor that is led to a stage without an update
pub last_set : (t tensor : ℕ) (x : Stage) (stages : List Stage) → last_in x ≡ None → LastKept t stages (slice_set stages tensor x)
last_set t tensor x stages n = elim (set_cases stages tensor x t) [ inl e ↦ inr (ap last_in e.1 ∙ n) | inr e ↦ inl (ap last_in e) ]

last_other : (t tensor : ℕ) (x : Stage) (stages : List Stage) → nat_eq tensor t ≡ false → LastKept t stages (slice_set stages tensor x)
last_other t tensor x stages apart = elim (set_cases stages tensor x t) [
  | inl e ↦ absurd (let c : ◌≡◌ {A = Bool} true false = sym (itself tensor) ∙ ap (nat_eq tensor) (sym e.0) ∙ apart in cc)
  | inr e ↦ inl (ap last_in e)
]

module _ (w : Setting) (t : ℕ) where
  abbrev Keeps : (Run → Run) → Type 0
  Keeps f = (r : Run) → LastKept t r.stages (f r).stages

  either : (b : Bool) (r x y : Run) → LastKept t r.stages x.stages → LastKept t r.stages y.stages → LastKept t r.stages (if b then x else y).stages
  either true r x y f g = f
  either false r x y f g = g

  ready_keeps : (e : Expr) (vars : Numbers) (r : Run) → LastKept t r.stages (asked_for_small (has_small_indices e vars) (asked_to_read (can_read e (tensors_of w r)) r)).stages
  ready_keeps e vars r =
      let read : Run = asked_to_read (can_read e (tensors_of w r)) r in
      either (has_small_indices e vars) r read (unsmall read) (either (can_read e (tensors_of w r)) r r (unalive r) (inl refl) (inl refl)) (either (can_read e (tensors_of w r)) r r (unalive r) (inl refl) (inl refl))

  freeze_keeps : (tensor : ℕ) (x : Stage) (r : Run) → LastKept t r.stages (freeze_at tensor x r).stages
  freeze_keeps tensor Absent r = inl refl
  freeze_keeps tensor (Built b) r = last_set t tensor (Frozen (undecorated b.format) b.function) r.stages refl
  freeze_keeps tensor (Frozen format f) r = inl refl

  thaw_keeps : (tensor : ℕ) (x : Stage) (r : Run) → LastKept t r.stages (thaw_at tensor x r).stages
  thaw_keeps tensor Absent r = inl refl
  thaw_keeps tensor (Built b) r = inl refl
  thaw_keeps tensor (Frozen format f) r = last_set t tensor (Built (unchanged format f)) r.stages refl

  put_keeps : (tensor : ℕ) (b : Building) (o : Option (List ℕ)) (by : Reduce) (v : ℤ) (r : Run) → nat_eq tensor t ≡ false → LastKept t r.stages (put_at tensor b o by v r).stages
  put_keeps tensor b None by v r apart = inl refl
  put_keeps tensor b (Some cs) by v r apart = either (follows b cs) r (with_stage tensor (Built (updated b cs (λ old. apply by old v))) r) (unordered r) (last_other t tensor _ r.stages apart) (inl refl)

  update_keeps : (tensor : ℕ) (x : Stage) (at : List ℤ) (by : Reduce) (v : ℤ) (r : Run) → nat_eq tensor t ≡ false → LastKept t r.stages (update_at tensor x at by v r).stages
  update_keeps tensor Absent at by v r apart = inl refl
  update_keeps tensor (Built b) at by v r apart = put_keeps tensor b (coordinates b.function.shape at) by v r apart
  update_keeps tensor (Frozen format f) at by v r apart = inl refl

  leaf_keeps : (l : Leaf) (vars : Numbers) → is_update_of t l ≡ false → Keeps (leaf w l vars)
  leaf_keeps (Declare tensor) vars e r = either (is_made w tensor) r _ (unalive r) (last_set t tensor (Built (started (format_at w tensor) (shape_at w tensor))) r.stages refl) (inl refl)
  leaf_keeps (Freeze tensor) vars e r = freeze_keeps tensor (stage_at r.stages tensor) r
  leaf_keeps (Thaw tensor) vars e r = either (is_made w tensor) r (thaw_at tensor (stage_at r.stages tensor) r) (unalive r) (thaw_keeps tensor (stage_at r.stages tensor) r) (inl refl)
  leaf_keeps (Update tensor at by value) vars e r =
      let x : Run = asked_for_small (has_small_indices value vars) (asked_to_read (can_read value (tensors_of w r)) r) in
      let y : Run = asked_for_small (are_small vars at) x in
      let v : ℤ = value_of value vars (tensors_of w r) in
      last_then t r.stages y.stages _ (either (are_small vars at) r x (unsmall x) (ready_keeps value vars r) (ready_keeps value vars r))
      (either (is_made w tensor) y (update_at tensor (stage_at y.stages tensor) (map (place vars) at) by v y) (unalive y) (update_keeps tensor (stage_at y.stages tensor) (map (place vars) at) by v y e) (inl refl))

  parts_keep : AreAll (staging w) (is_update_of t) Keeps
  parts_keep = record {
    range = λ var. refl;
    numbers = λ var n low high. tt;
    still = λ r. inl refl;
    joined = λ f f' g g' h h' r. last_then t r.stages (f r).stages (f' (f r)).stages (h r) (h' (f r));
    value = λ e vars f g _ _ h r.
        let x : Run = asked_for_small (has_small_indices e vars) (asked_to_read (can_read e (tensors_of w r)) (worked 1 r)) in
        last_then t r.stages x.stages _ (ready_keeps e vars (worked 1 r)) (h (value_of e vars (tensors_of w r)) tt x);
    entry = λ var vars r. inl refl;
    turn = λ var vars n f g h r. h (worked 1 r);
    brace = λ f g h r. last_then t r.stages (f r).stages _ (h r) (last_closed t r.stages (f r).stages);
    leaf = λ l vars e _. leaf_keeps l vars e;
  }

  pub untouched : (x : Stmt) → touches t x ≡ false → (vars : Numbers) → Keeps (stage_of w x vars)
  untouched = act_has (staging w) Keeps (is_update_of t) parts_keep
