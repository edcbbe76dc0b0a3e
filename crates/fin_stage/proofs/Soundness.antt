-- An accepted program runs soundly.
use Rattle.std.proofs.Common.{◌≡◌, ◌≤◌, ℕ, suc, pos, Bool, true, false, ◌&&◌, List, [], ◌∷◌, map, Option, Some, None, refl, sym, ap, ◌∙◌, subst, arith, length}
use Rattle.std.specs.Prelude.{is_some, slice_get, unwrap_or, option_map}
use Rattle.fin_tensor.specs.TensorFunction.{TensorFunction, filled}
use Rattle.fin_tensor.specs.Canon.{undecorated}
use Rattle.fin_tensor.specs.declared.format.Format.{Format}
use Rattle.fin_tensor.specs.declared.storage.Storage.{Storage}
use Rattle.fin_ast.specs.declared.header.Header.{Header}
use Rattle.fin_ast.specs.declared.header.Kind.{Kind}
use Rattle.fin_ast.specs.declared.header.Kind.TheVariants.{Input, Output, Local}
use Rattle.fin_ast.specs.declared.checked.Checked.{Checked}
use Rattle.fin_ast.specs.declared.checked.Dims.{Dims}
use Rattle.fin_ast.specs.declared.mode.Mode.{Mode}
use Rattle.fin_ast.specs.declared.mode.Mode.TheVariants.{Undeclared, Update, Read}
use Rattle.fin_ast.specs.Accepted.{IsAccepted, FitProgram}
use Rattle.fin_ast.specs.Bindings.{bindings_of_all}
use Rattle.fin_ast.specs.Kinds.{is_input, is_output}
use Rattle.fin_ast.specs.Modes.{is_input_at, is_input_header, mode_at_start}
use Rattle.fin_ast.specs.Life.{is_read}
use Rattle.fin_ast.specs.Scope.{outermost}
use Rattle.fin_ast.specs.Sizes.{ranges_of}
use Rattle.fin_ast.specs.Infer.{places_in}
use Rattle.fin_ast.specs.Dense.{Made, made_at, evaluated, function_of, setting_of, unbound, shape_at, fill_of}
use Rattle.fin_ast.proofs.Unbroken.{first_none}
use Rattle.fin_life.specs.Passage.{after_all, breach_in, passages_of}
use Rattle.fin_life.specs.Trails.{order_of, no_tracks}
use Rattle.fin_life.proofs.Around.{order_is}
use Rattle.fin_stage.specs.Stages.{Stage, Absent, Built, Frozen, stage_at, function_in}
use Rattle.fin_tensor.specs.Building.{no_format}
use Rattle.fin_stage.specs.Staged.{before_all, staged}
use Rattle.fin_stage.specs.Fitting.{StageFits}
use Rattle.fin_stage.specs.Sound.{AcceptedIsSound}
use Rattle.fin_stage.proofs.Agreeing.{Agrees}
use Rattle.fin_stage.proofs.Alive.{both}
use Rattle.fin_stage.proofs.AliveWhole.{given_is, start, no_breach, living, accepted_is_alive, outputs_read}
use Rattle.fin_stage.proofs.Small.{accepted_is_small}
use Rattle.fin_stage.proofs.Fits.{nothing_fits, stages_fit, absent_at}
use Rattle.fin_stage.proofs.InOrder.{no_update}
use Rattle.fin_stage.proofs.OrderedWhole.{statements_in_order}
use Rattle.fin_stage.proofs.Ranges.{ranges_count}
use Rattle.fin_stage.proofs.Simulating.{Good, function_at}
use Rattle.fin_stage.proofs.Simulated.{staged_is_dense}
use Rattle.fin_stage.proofs.Touching.{last_in}

length_map : {A B : Type 0} (f : A → B) (xs : List A) → length (map f xs) ≡ length xs
length_map f [] = refl
length_map f (x ∷ xs) = ap suc (length_map f xs)

module _ (c : Checked) (inputs : List Storage) (accepted : IsAccepted c) (fit : FitProgram c inputs) where
  -- nothing is entered where nothing is declared
  start_entered : (t : ℕ) → 0 ≤ length {A = ℕ} []
  start_entered t = omega arith

  enough : length (bindings_of_all c.program.body) ≤ length (unbound c.dims)
  enough =
      let e : c.dims.ranges ≡ ranges_of accepted.extents.extent (places_in c.program) = ap (λ (d : Dims). d.ranges) accepted.extents.numbers in
      omega (arith, ap length e, ranges_count accepted.extents.extent c.program.body, length_map (λ (r : ℕ × ℕ). pos 0) c.dims.ranges)

  in_order : order_of c.program.headers c.program.body ≡ None
  in_order = order_is c.program accepted.life ∙ accepted.order

  ordered : (staged c inputs).ordered ≡ true
  ordered =
      let hs = c.program.headers in
      statements_in_order hs (setting_of c inputs) (given_is c inputs accepted fit) refl c.program.body (outermost hs) (mode_at_start hs) (mode_at_start hs) [] no_tracks 0 (unbound c.dims) (before_all hs) refl c.program.named
      (first_none (breach_in (passages_of hs c.program.body) (mode_at_start hs) (mode_at_start hs)) _ (no_breach c inputs accepted fit)) in_order c.program.numbered (omega (arith, enough))
      (record {
        below = λ k e. absurd (let x : ◌≡◌ {A = Bool} false true = e in cc);
        entered = λ t d. omega arith;
        alive = start c inputs accepted fit;
        fits = nothing_fits (setting_of c inputs) hs;
        ordered = refl;
      })
      (λ t h. no_update hs t [] no_tracks 0 (unbound c.dims) _ (ap last_in (absent_at hs t)))

  good : Good (staged c inputs)
  good = record { alive = accepted_is_alive c inputs accepted fit; small = accepted_is_small c inputs accepted; ordered = ordered }

  functions : (t : ℕ) → function_in (stage_at (staged c inputs).stages t) ≡ made_at (evaluated c inputs).made t
  functions t = sym (function_at (staged c inputs).stages t) ∙ sym (ap (λ (fs : Made). made_at fs t) (staged_is_dense c inputs good))

  -- an output is frozen at the end
  frozen_by : (m : Mode) (g : Option TensorFunction) (x : Stage) → is_read m ≡ true → g ≡ None → Agrees m g x → (format : Format) × (f : TensorFunction) × (x ≡ Frozen format f)
  frozen_by Undeclared g x e n a = cc
  frozen_by Update g x e n a = cc
  frozen_by Read None (Frozen format f) e n a = (format, f, refl)
  frozen_by Read None Absent e n a = absurd a
  frozen_by Read None (Built b) e n a = absurd a
  frozen_by Read (Some g) x e n a = cc

  no_input : (h : Header) → is_output h.kind ≡ true → is_input h.kind ≡ false
  no_input h e = by_kind h.kind e where
    by_kind : (k : Kind) → is_output k ≡ true → is_input k ≡ false
    by_kind Input e = cc
    by_kind Output e = refl
    by_kind Local e = cc

  outputs : (t : ℕ) (h : Header) → slice_get c.program.headers t ≡ Some h → is_output h.kind ≡ true → stage_at (staged c inputs).stages t ≡ Frozen (undecorated h.format) (function_of c inputs t)
  outputs t h g o =
      let hs = c.program.headers in
      let w = setting_of c inputs in
      let free : is_input_at hs t ≡ false = ap is_input_header g ∙ no_input h o in
      let none : made_at w.given t ≡ None = none_of (made_at w.given t) (given_is c inputs accepted fit t ∙ free) in
      let (format, f, is) = frozen_by (after_all (passages_of hs c.program.body) (mode_at_start hs) t) (made_at w.given t) (stage_at (staged c inputs).stages t) (outputs_read c inputs accepted fit t h g o) none ((living c inputs accepted fit).agree t) in
      let fits : StageFits w t (Frozen format f) = subst (StageFits w t) is (stages_fit w c.program.body (unbound c.dims) (before_all hs) (nothing_fits w hs) t) in
      let format_is : format ≡ undecorated h.format = fits.0 ∙ ap undecorated (ap (λ (x : Option Header). unwrap_or (option_map (λ (k : Header). k.format) x) no_format) g) in
      let made : made_at (evaluated c inputs).made t ≡ Some f = sym (functions t) ∙ ap function_in is in
      let f_is : function_of c inputs t ≡ f = ap (λ (x : Option TensorFunction). unwrap_or x (filled (shape_at w t) (fill_of w t))) made in
      is ∙ ap (λ (x : Format). Frozen x f) format_is ∙ ap (Frozen (undecorated h.format)) (sym f_is) where
        none_of : (x : Option TensorFunction) → is_some x ≡ false → x ≡ None
        none_of None e = refl
        none_of (Some f) e = cc

pub accepted_is_sound : AcceptedIsSound
accepted_is_sound c inputs accepted fit = record {
  regular = both ((staged c inputs).alive && (staged c inputs).small) (staged c inputs).ordered (both (staged c inputs).alive (staged c inputs).small (accepted_is_alive c inputs accepted fit) (accepted_is_small c inputs accepted)) (ordered c inputs accepted fit);
  functions = functions c inputs accepted fit;
  outputs = outputs c inputs accepted fit;
}
