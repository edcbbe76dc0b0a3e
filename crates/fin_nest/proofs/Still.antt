-- A run that was cut does nothing more.
use Rattle.std.proofs.Common.{◌≡◌, ℕ, zero, suc, Bool, true, false, List, [], ◌∷◌, map, refl, sym, ap, ◌∙◌, ℤ, pos, ◌+ℤ◌}
use Rattle.std.specs.Prelude.{int_lt, if◌then◌else◌}
use Rattle.fin_ir.specs.declared.code.Code.{Code, ind-Code, map-Code}
use Rattle.fin_ir.specs.declared.code.Code.TheOpen.{Code-F}
use Rattle.fin_ir.specs.declared.layout.Layout.{Layout}
use Rattle.fin_ir.specs.Machine.{Machine, live, assign, count_turn}
use Rattle.fin_ir.specs.Value.{value_in, is_off}
use Rattle.fin_ir.specs.Meaning.{Action, in_turn, next_of, count_before, step_turn, step_turns, for_turn, for_turns, span, meaning_step, meaning, meaning_all}
use Rattle.fin_ir.proofs.Codes.{beside, meaning_node}

abbrev pub Stills : Action → Type 0
Stills f = (m : Machine) → m.cut ≡ true → f m ≡ m

live_still : (m n : Machine) → m.cut ≡ true → live m n ≡ m
live_still m n e = ap (λ (b : Bool). if b then m else n) e

then_still : (f g : Action) → Stills f → Stills g → (m : Machine) → m.cut ≡ true → g (f m) ≡ m
then_still f g a b m e = ap g (a m e) ∙ b m e

either_still : (b : Bool) (m x y : Machine) → x ≡ m → y ≡ m → (if b then x else y) ≡ m
either_still true m x y p q = p
either_still false m x y p q = q

-- ---- loops, over any body

module _ (body : Action) (s : Stills body) where
  pub for_turn_still : (var : ℕ) (at : ℤ) → Stills (for_turn var body at)
  for_turn_still var at m e = ap (λ (n : Machine). count_turn (body n)) (live_still m _ e) ∙ then_still body count_turn s (λ n d. live_still n _ d) m e

  pub for_turns_still : (var fuel : ℕ) (at : ℤ) → Stills (for_turns var body fuel at)
  for_turns_still var zero at m e = refl
  for_turns_still var (suc fuel) at m e = ap (for_turns var body fuel (at +ℤ pos 1)) (for_turn_still var at m e) ∙ for_turns_still var fuel (at +ℤ pos 1) m e

  module _ (var until : ℕ) (stop : Machine → ℤ) (hi : ℤ) where
    pub step_turn_still : (at next : ℤ) → Stills (step_turn var until body hi at next)
    step_turn_still at next m e =
        ap (λ (n : Machine). count_before next hi (body (assign until next n))) (live_still m _ e)
        ∙ ap (λ (n : Machine). count_before next hi (body n)) (live_still m _ e)
        ∙ ap (count_before next hi) (s m e)
        ∙ either_still (int_lt next hi) m _ m (live_still m _ e) refl

    pub step_turns_still : (fuel : ℕ) (at : ℤ) → Stills (step_turns var until stop body hi fuel at)
    step_turns_still zero at m e = refl
    step_turns_still (suc fuel) at m e =
        let next = next_of var stop hi at m in
        either_still (int_lt at hi) m _ m (ap (step_turns var until stop body hi fuel next) (step_turn_still at next m e) ∙ step_turns_still fuel next m e) refl

-- ---- code

module _ (layout : Layout) where
  abbrev Known : Type 0
  Known = (x : Code) × Stills (meaning layout x)

  all_known : (ks : List Known) → Stills (in_turn (map (λ (p : Code × Action). p.1) (map (beside layout) (map (λ (k : Known). k.0) ks))))
  all_known [] m e = refl
  all_known (k ∷ ks) m e = ap (in_turn (map (λ (p : Code × Action). p.1) (map (beside layout) (map (λ (j : Known). j.0) ks)))) (k.1 m e) ∙ all_known ks m e

  step_still : (y : Code-F Known) → Stills (meaning_step layout (map-Code Code (Code × Action) (beside layout) (map-Code Known Code (λ (k : Known). k.0) y)))
  step_still Code-F.Skip m e = refl
  step_still (Code-F.Seq all) m e = all_known all m e
  step_still (Code-F.Assign local value) m e = live_still m _ e
  step_still (Code-F.When test k) m e = either_still (is_off (value_in m test)) m m _ refl (k.1 m e)
  step_still (Code-F.StepLoop var until lo hi stop k) m e =
      step_turns_still (meaning layout k.0) k.1 var until (λ n. value_in n stop) (value_in m hi) (span (value_in m lo) (value_in m hi)) (value_in m lo) m e
  step_still (Code-F.ForLoop var lo hi k) m e = for_turns_still (meaning layout k.0) k.1 var (span (value_in m lo) (value_in m hi)) (value_in m lo) m e
  step_still (Code-F.ParLoop from to lo hi ways k) m e = live_still m _ e
  step_still (Code-F.Update tensor at by value) m e = live_still m _ e
  step_still (Code-F.Declare tensor) m e = live_still m _ e
  step_still (Code-F.Freeze tensor) m e = live_still m _ e
  step_still (Code-F.Thaw tensor) m e = live_still m _ e
  step_still (Code-F.Charge value) m e = live_still m _ e

  pub stills : (x : Code) → Stills (meaning layout x)
  stills = ind-Code (λ x. Stills (meaning layout x)) (λ z y is m e.
      meaning_node layout z m ∙ sym (ap (λ (d : Code-F Code). meaning_step layout (map-Code Code (Code × Action) (beside layout) d) m) is) ∙ step_still y m e)

  pub all_still : (all : List Code) → Stills (meaning_all layout all)
  all_still [] m e = refl
  all_still (x ∷ xs) m e = ap (meaning_all layout xs) (stills x m e) ∙ all_still xs m e
