-- Each statement of an accepted program finds its tensors in the stages that it needs.
use Rattle.std.proofs.Common.{◌≡◌, ◌<◌, ℕ, zero, suc, Bool, true, false, ◌&&◌, ◌||◌, List, [], ◌∷◌, Option, Some, None, if◌then◌else◌, refl, sym, ap, ◌∙◌, subst, arith, length}
use Rattle.std.specs.Prelude.{slice_get, is_some, is_none, not}
use Rattle.std.specs.Option.{option_or}
use Rattle.fin_base.specs.declared.refusal.Rule.{Rule}
use Rattle.fin_base.specs.declared.refusal.Refusal.{Refusal}
use Rattle.fin_tensor.specs.TensorFunction.{TensorFunction}
use Rattle.fin_tensor.specs.Building.{Building}
use Rattle.fin_ast.specs.declared.header.Header.{Header}
use Rattle.fin_ast.specs.declared.mode.Mode.{Mode}
use Rattle.fin_ast.specs.declared.mode.Mode.TheVariants.{Undeclared, Update, Read}
use Rattle.fin_ast.specs.declared.tree.Expr.{Expr, ind-Expr, map-Expr, fold-roll-Expr}
use Rattle.fin_ast.specs.declared.tree.Expr.TheOpen.{Expr-F}
use Rattle.fin_ast.specs.Modes.{is_input_at}
use Rattle.fin_ast.specs.Life.{is_update, is_read}
use Rattle.fin_ast.specs.Scope.{holds_of}
use Rattle.fin_ast.specs.Value.{Numbers, Tensors}
use Rattle.fin_ast.specs.Dense.{Setting, made_at}
use Rattle.fin_life.specs.Passage.{ModeOf, turned, expr_breach, breach_of_expr}
use Rattle.fin_stage.specs.Stages.{Stage, Absent, Built, Frozen, stage_at, frozen_in, readable}
use Rattle.fin_stage.specs.Staged.{Run, worked, with_stage, tensors_of, reads_step, can_read, has_small_indices, asked_to_read, asked_for_small, is_made}
use Rattle.fin_stage.proofs.Onward.{Onward, onward_stage}
use Rattle.fin_ast.proofs.Unbroken.{first_none, second_none, unbroken}
use Rattle.fin_stage.proofs.Agreeing.{Agrees, AllAgree, set_agree, stay_agree}

-- ---- what modes say of stages
pub neither : (a b : Bool) → (a || b) ≡ false → (a ≡ false) × (b ≡ false)
neither true b e = cc
neither false b e = (refl, e)

pub not_not : (b : Bool) → not b ≡ false → b ≡ true
not_not true e = refl
not_not false e = cc

pub left : (a b : Bool) → (a && b) ≡ true → a ≡ true
left true b h = refl
left false b h = h

pub right : (a b : Bool) → (a && b) ≡ true → b ≡ true
right true b h = h
right false b h = cc

pub both : (a b : Bool) → a ≡ true → b ≡ true → (a && b) ≡ true
both true b e h = h
both false b e h = e

pub is_there : {A : Type 0} (xs : List A) (k : ℕ) → is_some (slice_get xs k) ≡ true → k < length xs
is_there [] k e = cc
is_there (x ∷ xs) zero e = omega arith
is_there (x ∷ xs) (suc k) e = omega (arith, is_there xs k e)

pub holds_there : (test : Header → Bool) (hs : List Header) (k : ℕ) → holds_of test (slice_get hs k) ≡ true → k < length hs
holds_there test hs k e = is_there hs k (some_of (slice_get hs k) e) where
  some_of : (o : Option Header) → holds_of test o ≡ true → is_some o ≡ true
  some_of None e = cc
  some_of (Some h) e = refl

-- a tensor in read mode can be read
pub reads_it : (m : Mode) (g : Option TensorFunction) (x : Stage) → is_read m ≡ true → Agrees m g x → is_some (option_or g (frozen_in x)) ≡ true
reads_it Undeclared g x e a = cc
reads_it Update g x e a = cc
reads_it Read None (Frozen format f) e a = refl
reads_it Read None Absent e a = absurd a
reads_it Read None (Built b) e a = absurd a
reads_it Read (Some g) x e a = refl

pub builds_it : (m : Mode) (g : Option TensorFunction) (x : Stage) → is_update m ≡ true → Agrees m g x → (b : Building) × (m ≡ Update) × (g ≡ None) × (x ≡ Built b)
builds_it Undeclared g x e a = cc
builds_it Read g x e a = cc
builds_it Update None (Built b) e a = (b, refl, refl, refl)
builds_it Update None Absent e a = absurd a
builds_it Update None (Frozen format f) e a = absurd a
builds_it Update (Some g) x e a = absurd a

module _ (hs : List Header) (w : Setting) (given_is : (t : ℕ) → is_some (made_at w.given t) ≡ is_input_at hs t) where
  pub not_given : (t : ℕ) → is_input_at hs t ≡ false → made_at w.given t ≡ None
  not_given t e = none_of (made_at w.given t) (given_is t ∙ e) where
    none_of : (o : Option TensorFunction) → is_some o ≡ false → o ≡ None
    none_of None h = refl
    none_of (Some f) h = cc

  pub made_by : (t : ℕ) → is_input_at hs t ≡ false → is_made w t ≡ true
  made_by t e = ap is_none (not_given t e)

  -- ---- reads
  module _ (now : ModeOf) (stages : List Stage) (a : AllAgree w now stages) where
    abbrev Kept : Type 0
    Kept = (e : Expr) × (breach_of_expr now e ≡ None → can_read e (readable w.given stages) ≡ true)

    reads_step_by : (y : Expr-F Kept) → expr_breach now (map-Expr Expr (Option Refusal) (breach_of_expr now) (map-Expr Kept Expr (λ k. k.0) y)) ≡ None → reads_step (map-Expr Expr (Tensors → Bool) can_read (map-Expr Kept Expr (λ k. k.0) y)) (readable w.given stages) ≡ true
    reads_step_by (Expr-F.Num n) e = refl
    reads_step_by (Expr-F.Var var line) e = refl
    reads_step_by (Expr-F.Read tensor at line) e = reads_it (now tensor) (made_at w.given tensor) (stage_at stages tensor) (not_not (is_read (now tensor)) (unbroken _ Rule.L2 line e)) (a tensor)
    reads_step_by (Expr-F.Neg inner) e = inner.1 e
    reads_step_by (Expr-F.Two op x y) e = both (can_read x.0 (readable w.given stages)) (can_read y.0 (readable w.given stages)) (x.1 (first_none _ _ e)) (y.1 (second_none _ _ e))

    can_read_by : (e : Expr) → breach_of_expr now e ≡ None → can_read e (readable w.given stages) ≡ true
    can_read_by = ind-Expr (λ e. breach_of_expr now e ≡ None → can_read e (readable w.given stages) ≡ true) (λ z y is e.
        let breach = ap (λ (u : Expr-F Expr). expr_breach now (map-Expr Expr (Option Refusal) (breach_of_expr now) u)) is ∙ sym (fold-roll-Expr (Option Refusal) (expr_breach now) z) in
        let reads = ap (λ (u : Expr-F Expr). reads_step (map-Expr Expr (Tensors → Bool) can_read u)) is ∙ sym (fold-roll-Expr (Tensors → Bool) reads_step z) in
        ap (λ (f : Tensors → Bool). f (readable w.given stages)) (sym reads) ∙ reads_step_by y (breach ∙ e))

  -- ---- a run whose stages agree with modes
  pub record Living (now : ModeOf) (r : Run) : Type 0 where
    pub alive : r.alive ≡ true
    pub long : length r.stages ≡ length hs
    pub agree : AllAgree w now r.stages

  pub worked_lives : (now : ModeOf) (n : ℕ) (r : Run) → Living now r → Living now (worked n r)
  worked_lives now n r l = record { alive = l.alive; long = l.long; agree = l.agree }

  pub small_lives : (now : ModeOf) (b : Bool) (r : Run) → Living now r → Living now (asked_for_small b r)
  small_lives now true r l = l
  small_lives now false r l = record { alive = l.alive; long = l.long; agree = l.agree }

  pub either : (now : ModeOf) (b : Bool) (x y : Run) → Living now x → Living now y → Living now (if b then x else y)
  either now true x y f g = f
  either now false x y f g = g

  pub ready : (now : ModeOf) (e : Expr) (vars : Numbers) (r : Run) → breach_of_expr now e ≡ None → Living now r → Living now (asked_for_small (has_small_indices e vars) (asked_to_read (can_read e (tensors_of w r)) r))
  ready now e vars r h l =
      let same : asked_to_read (can_read e (tensors_of w r)) r ≡ r = ap (λ (b : Bool). asked_to_read b r) (can_read_by now r.stages l.agree e h) in
      small_lives now (has_small_indices e vars) (asked_to_read (can_read e (tensors_of w r)) r) (subst (Living now) (sym same) l)

  -- a tensor that is led to another stage
  pub staged_lives : (now : ModeOf) (t : ℕ) (mode : Mode) (x : Stage) (n : ℕ) (r : Run) → t < length hs → Agrees mode (made_at w.given t) x → Living now r → Living (turned now t mode) (worked n (with_stage t x r))
  staged_lives now t mode x n r lt ax l = record { alive = l.alive; long = Onward.long (onward_stage t x r) ∙ l.long; agree = set_agree w now r.stages t mode x (omega (arith, lt, l.long)) ax l.agree }

  pub stays_living : (now : ModeOf) (t : ℕ) (b : Building) (r : Run) → now t ≡ Update → made_at w.given t ≡ None → t < length hs → Living now r → Living now (with_stage t (Built b) r)
  stays_living now t b r e g lt l = record {
    alive = l.alive;
    long = Onward.long (onward_stage t (Built b) r) ∙ l.long;
    agree = stay_agree w now r.stages t Update (Built b) e (omega (arith, lt, l.long)) (subst (λ (o : Option TensorFunction). Agrees Update o (Built b)) (sym g) tt) l.agree;
  }
