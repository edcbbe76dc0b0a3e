-- An accepted program over inputs that fit finds its tensors in the stages that it needs, and its outputs are frozen at the end.
use Rattle.std.proofs.Common.{◌≡◌, ◌+◌, ℕ, zero, suc, Bool, true, false, ◌&&◌, List, [], ◌∷◌, map, Option, Some, None, if◌then◌else◌, refl, sym, ap, ◌∙◌, subst, arith, length}
use Rattle.std.specs.Prelude.{slice_get, is_some, not}
use Rattle.fin_base.specs.declared.refusal.Rule.{Rule}
use Rattle.fin_tensor.specs.TensorFunction.{TensorFunction}
use Rattle.fin_tensor.specs.declared.storage.Storage.{Storage}
use Rattle.fin_tensor.specs.Stands.{stands}
use Rattle.fin_ast.specs.declared.header.Header.{Header}
use Rattle.fin_ast.specs.declared.mode.Mode.TheVariants.{Undeclared, Read}
use Rattle.fin_ast.specs.declared.checked.Checked.{Checked}
use Rattle.fin_ast.specs.Kinds.{is_input, is_output}
use Rattle.fin_ast.specs.Modes.{is_input_at, mode_at_start}
use Rattle.fin_ast.specs.Sizes.{broken, first_from}
use Rattle.fin_ast.specs.Life.{is_read}
use Rattle.fin_ast.specs.Scope.{outermost}
use Rattle.fin_ast.specs.Shaped.{AreShaped, FitHeaders}
use Rattle.fin_ast.specs.Accepted.{IsAccepted, inputs_among, HaveFormats, FitProgram}
use Rattle.fin_ast.specs.Dense.{made_at, inputs_by_header, setting_of, unbound}
use Rattle.fin_life.specs.Passage.{ModeOf, after_all, breach_in, passages_of, life_of}
use Rattle.fin_life.proofs.Behaviour.{life_is}
use Rattle.fin_stage.specs.Stages.{Absent}
use Rattle.fin_stage.specs.Staged.{before_all, staged}
use Rattle.fin_ast.proofs.Unbroken.{first_none, second_none, unbroken}
use Rattle.fin_stage.proofs.Agreeing.{Agrees}
use Rattle.fin_stage.proofs.Alive.{Living, not_not}
use Rattle.fin_stage.proofs.AliveAll.{statements_live}
use Rattle.fin_stage.proofs.Fits.{absent_at}

-- ---- exactly the inputs are given
given_in : (hs : List Header) (shapes : List (List ℕ)) (inputs : List Storage) → AreShaped hs shapes → HaveFormats (inputs_among hs shapes) inputs → (t : ℕ) → is_some (made_at (inputs_by_header hs inputs) t) ≡ is_input_at hs t
given_in [] shapes inputs a h zero = refl
given_in [] shapes inputs a h (suc t) = refl
given_in (x ∷ hs) [] inputs a h t = absurd a
given_in (x ∷ hs) (n ∷ shapes) inputs a h t = by_kind_of (λ ins g k. given_in hs shapes ins a.1 g k) (is_input x.kind) refl inputs h t where
  by_kind_of : ((ins : List Storage) → HaveFormats (inputs_among hs shapes) ins → (k : ℕ) → is_some (made_at (inputs_by_header hs ins) k) ≡ is_input_at hs k) → (b : Bool) → is_input x.kind ≡ b → (inputs : List Storage) → HaveFormats (if b then (x, n) ∷ inputs_among hs shapes else inputs_among hs shapes) inputs → (t : ℕ) → is_some (made_at (inputs_by_header (x ∷ hs) inputs) t) ≡ is_input_at (x ∷ hs) t
  by_kind_of rest true e [] h t = absurd h
  by_kind_of rest true e (s ∷ inputs) h zero = subst (λ (b : Bool). is_some (made_at (if b then Some (stands s) ∷ inputs_by_header hs inputs else None ∷ inputs_by_header hs (s ∷ inputs)) zero) ≡ b) (sym e) refl
  by_kind_of rest true e (s ∷ inputs) h (suc t) = subst (λ (b : Bool). is_some (made_at (if b then Some (stands s) ∷ inputs_by_header hs inputs else None ∷ inputs_by_header hs (s ∷ inputs)) (suc t)) ≡ is_input_at hs t) (sym e) (rest inputs h.2 t)
  by_kind_of rest false e [] h zero = sym e
  by_kind_of rest false e [] h (suc t) = rest [] h t
  by_kind_of rest false e (s ∷ inputs) h zero = subst (λ (b : Bool). is_some (made_at (if b then Some (stands s) ∷ inputs_by_header hs inputs else None ∷ inputs_by_header hs (s ∷ inputs)) zero) ≡ b) (sym e) refl
  by_kind_of rest false e (s ∷ inputs) h (suc t) = subst (λ (b : Bool). is_some (made_at (if b then Some (stands s) ∷ inputs_by_header hs inputs else None ∷ inputs_by_header hs (s ∷ inputs)) (suc t)) ≡ is_input_at hs t) (sym e) (rest (s ∷ inputs) h t)

absent_long : (hs : List Header) → length (map (λ (h : Header). Absent) hs) ≡ length hs
absent_long [] = refl
absent_long (h ∷ hs) = ap suc (absent_long hs)

start_agrees : (b : Bool) (g : Option TensorFunction) → is_some g ≡ b → Agrees (if b then Read else Undeclared) g Absent
start_agrees true None e = cc
start_agrees true (Some g) e = tt
start_agrees false None e = tt
start_agrees false (Some g) e = cc

unread_from : (now : ModeOf) (n : ℕ) (hs : List Header) (t : ℕ) (h : Header) → first_from (λ t h. broken (is_output h.kind && not (is_read (now t))) Rule.L7 h.line) n hs ≡ None → slice_get hs t ≡ Some h → is_output h.kind ≡ true → is_read (now (n + t)) ≡ true
unread_from now n [] t h e g o = cc
unread_from now n (x ∷ hs) zero h e g o =
    let same : x ≡ h = some_is x h g in
    let here : (is_output x.kind && not (is_read (now n))) ≡ false = unbroken _ Rule.L7 x.line (first_none _ (first_from (λ t h. broken (is_output h.kind && not (is_read (now t))) Rule.L7 h.line) (n + 1) hs) e) in
    subst (λ (k : ℕ). is_read (now k) ≡ true) (omega arith) (not_not (is_read (now n)) (second (is_output x.kind) (not (is_read (now n))) (ap (λ (y : Header). is_output y.kind) same ∙ o) here)) where
      some_is : (a b : Header) → ◌≡◌ {A = Option Header} (Some a) (Some b) → a ≡ b
      some_is a b e = cc

      second : (a b : Bool) → a ≡ true → (a && b) ≡ false → b ≡ false
      second true b e h = h
      second false b e h = cc
unread_from now n (x ∷ hs) (suc t) h e g o = subst (λ (k : ℕ). is_read (now k) ≡ true) (omega arith) (unread_from now (n + 1) hs t h (second_none (broken (is_output x.kind && not (is_read (now n))) Rule.L7 x.line) _ e) g o)

module _ (c : Checked) (inputs : List Storage) (accepted : IsAccepted c) (fit : FitProgram c inputs) where
  abbrev hs : List Header
  hs = c.program.headers

  headers_fit : FitHeaders hs c.dims
  headers_fit = c.fits

  pub given_is : (t : ℕ) → is_some (made_at (setting_of c inputs).given t) ≡ is_input_at hs t
  given_is = given_in hs c.dims.shapes inputs headers_fit.shapes fit

  pub start : Living hs (setting_of c inputs) given_is (mode_at_start hs) (before_all hs)
  start = record {
    alive = refl;
    long = absent_long hs;
    agree = λ t. subst (Agrees (mode_at_start hs t) (made_at (setting_of c inputs).given t)) (sym (absent_at hs t)) (start_agrees (is_input_at hs t) (made_at (setting_of c inputs).given t) (given_is t));
  }

  pub no_breach : life_of hs c.program.body ≡ None
  no_breach = life_is c.program ∙ accepted.life

  pub living : Living hs (setting_of c inputs) given_is (after_all (passages_of hs c.program.body) (mode_at_start hs)) (staged c inputs)
  living =
      statements_live hs (setting_of c inputs) given_is c.program.body (outermost hs) (mode_at_start hs) (mode_at_start hs) (unbound c.dims) (before_all hs) refl c.program.named
      (first_none (breach_in (passages_of hs c.program.body) (mode_at_start hs) (mode_at_start hs)) _ no_breach) start

  pub accepted_is_alive : (staged c inputs).alive ≡ true
  accepted_is_alive = living.alive

  pub outputs_read : (t : ℕ) (h : Header) → slice_get hs t ≡ Some h → is_output h.kind ≡ true → is_read (after_all (passages_of hs c.program.body) (mode_at_start hs) t) ≡ true
  outputs_read t h g o =
      subst (λ (k : ℕ). is_read (after_all (passages_of hs c.program.body) (mode_at_start hs) k) ≡ true) (omega arith)
      (unread_from (after_all (passages_of hs c.program.body) (mode_at_start hs)) 0 hs t h (second_none (breach_in (passages_of hs c.program.body) (mode_at_start hs) (mode_at_start hs)) _ no_breach) g o)
