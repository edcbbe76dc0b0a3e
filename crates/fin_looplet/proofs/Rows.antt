-- The phases and cases of a row, as a sequence and a switch of their own.
use Rattle.std.proofs.Common.{◌≡◌, ℕ, ◌+◌, inl, inr, ⊎_elim, List, false, ap, ◌∙◌, ℤ, pos, ◌+ℤ◌, arith}
use Rattle.std.specs.Prelude.{int_lt, int_le, if◌then◌else◌}
use Rattle.fin_ir.specs.declared.expression.IExpr.{IExpr}
use Rattle.fin_ir.specs.Value.{is_off}
use Rattle.fin_looplet.specs.declared.looplet.Looplet.{Looplet, Row_of-Phase, end_of-Phase, more_of-Phase, Row_of-Case, end_of-Case, more_of-Case}
use Rattle.fin_looplet.specs.declared.looplet.Looplet.TheVariants.{Sequence, Switch}
use Rattle.fin_looplet.specs.declared.looplet.Phase.{Phase}
use Rattle.fin_looplet.specs.declared.looplet.Case.{Case}
use Rattle.fin_looplet.specs.View.{Store, value, View, view, view_phases, view_cases, ended}
use Rattle.fin_looplet.specs.Sound.{Places, SoundWithin, SoundPhases, SoundCases}
use Rattle.fin_looplet.specs.Locals.{Free, FreePhases, FreeCases, LoadsIn, LoadsPhases, LoadsCases, Owns, OwnsPhases, OwnsCases, ShiftNames, ShiftNamesPhases, ShiftNamesCases, Nested, NestedPhases, NestedCases}
use Rattle.fin_looplet.specs.Weight.{weight, weight_phases, weight_cases}
use Rattle.fin_looplet.specs.Lists.{phase_list, case_list}
use Rattle.fin_looplet.proofs.Bridges as of

abbrev phase_of : IExpr → Looplet → Phase
phase_of stop child = record { stop = stop; child = child }

abbrev case_of : IExpr → Looplet → Case
case_of test child = record { test = test; child = child }

-- ---- views and soundness
module _ (ts : Store) (ls : List ℤ) where
  pub view_phase_row : {n : _} (r : Row_of-Phase n) (end i : ℤ) → view ts ls (Sequence (phase_list r)) end i ≡ view_phases ts ls r i
  view_phase_row end_of-Phase end i = of.view_no_phase ts ls end i
  view_phase_row (more_of-Phase stop child rest) end i =
      of.view_phase ts ls (phase_of stop child) (phase_list rest) end i
      ∙ ap (λ (v : View). if int_lt i (value ts ls stop) then ended (int_le (value ts ls stop) (i +ℤ pos 1)) false (view ts ls child (value ts ls stop) i) else v) (view_phase_row rest end i)

  pub view_case_row : {n : _} (r : Row_of-Case n) (end i : ℤ) → view ts ls (Switch (case_list r)) end i ≡ view_cases ts ls r end i
  view_case_row end_of-Case end i = of.view_no_case ts ls end i
  view_case_row (more_of-Case test child rest) end i =
      of.view_case ts ls (case_of test child) (case_list rest) end i ∙ ap (λ (v : View). if is_off (value ts ls test) then v else view ts ls child end i) (view_case_row rest end i)

module _ (reach : Places) (ts : Store) (ls : List ℤ) where
  pub sound_phase_row : {n : _} (r : Row_of-Phase n) (P : Places) (i : ℤ) → SoundPhases reach ts ls r P i → SoundWithin reach ts ls (Sequence (phase_list r)) P i
  sound_phase_row end_of-Phase P i s = absurd s
  sound_phase_row (more_of-Phase stop child rest) P i (inl s) = of.sound_phase reach ts ls (phase_of stop child) (phase_list rest) P i (inl s)
  sound_phase_row (more_of-Phase stop child rest) P i (inr s) = of.sound_phase reach ts ls (phase_of stop child) (phase_list rest) P i (inr (s.0, sound_phase_row rest P i s.1))

  pub sound_case_row : {n : _} (r : Row_of-Case n) (P : Places) (i : ℤ) → SoundCases reach ts ls r P i → SoundWithin reach ts ls (Switch (case_list r)) P i
  sound_case_row end_of-Case P i s = absurd s
  sound_case_row (more_of-Case test child rest) P i (inl s) = of.sound_case reach ts ls (case_of test child) (case_list rest) P i (inl (s.0, sound_case_row rest P i s.1))
  sound_case_row (more_of-Case test child rest) P i (inr s) = of.sound_case reach ts ls (case_of test child) (case_list rest) P i (inr s)

-- ---- locals and tensors
module _ (x : ℕ) where
  pub free_phase_row : {n : _} (r : Row_of-Phase n) → Free x (Sequence (phase_list r)) → FreePhases x r
  free_phase_row end_of-Phase f = of.free_no_phase x f
  free_phase_row (more_of-Phase stop child rest) f = ⊎_elim (λ a. inl a) (⊎_elim (λ a. inr (inl a)) (λ a. inr (inr (free_phase_row rest a)))) (of.from_free_phase x (phase_of stop child) (phase_list rest) f)

  pub free_case_row : {n : _} (r : Row_of-Case n) → Free x (Switch (case_list r)) → FreeCases x r
  free_case_row end_of-Case f = of.free_no_case x f
  free_case_row (more_of-Case test child rest) f = ⊎_elim (λ a. inl a) (⊎_elim (λ a. inr (inl a)) (λ a. inr (inr (free_case_row rest a)))) (of.from_free_case x (case_of test child) (case_list rest) f)

  pub loads_phase_row : {n : _} (r : Row_of-Phase n) → LoadsIn x (Sequence (phase_list r)) → LoadsPhases x r
  loads_phase_row end_of-Phase f = of.loads_no_phase x f
  loads_phase_row (more_of-Phase stop child rest) f = ⊎_elim (λ a. inl a) (⊎_elim (λ a. inr (inl a)) (λ a. inr (inr (loads_phase_row rest a)))) (of.from_loads_phase x (phase_of stop child) (phase_list rest) f)

  pub loads_case_row : {n : _} (r : Row_of-Case n) → LoadsIn x (Switch (case_list r)) → LoadsCases x r
  loads_case_row end_of-Case f = of.loads_no_case x f
  loads_case_row (more_of-Case test child rest) f = ⊎_elim (λ a. inl a) (⊎_elim (λ a. inr (inl a)) (λ a. inr (inr (loads_case_row rest a)))) (of.from_loads_case x (case_of test child) (case_list rest) f)

  pub owns_phase_row : {n : _} (r : Row_of-Phase n) → Owns x (Sequence (phase_list r)) → OwnsPhases x r
  owns_phase_row end_of-Phase f = of.owns_no_phase x f
  owns_phase_row (more_of-Phase stop child rest) f = ⊎_elim (λ a. inl a) (λ a. inr (owns_phase_row rest a)) (of.from_owns_phase x (phase_of stop child) (phase_list rest) f)

  pub owns_case_row : {n : _} (r : Row_of-Case n) → Owns x (Switch (case_list r)) → OwnsCases x r
  owns_case_row end_of-Case f = of.owns_no_case x f
  owns_case_row (more_of-Case test child rest) f = ⊎_elim (λ a. inl a) (λ a. inr (owns_case_row rest a)) (of.from_owns_case x (case_of test child) (case_list rest) f)

  pub shift_names_phase_row : {n : _} (r : Row_of-Phase n) → ShiftNames x (Sequence (phase_list r)) → ShiftNamesPhases x r
  shift_names_phase_row end_of-Phase f = of.shift_names_no_phase x f
  shift_names_phase_row (more_of-Phase stop child rest) f = ⊎_elim (λ a. inl a) (λ a. inr (shift_names_phase_row rest a)) (of.from_shift_names_phase x (phase_of stop child) (phase_list rest) f)

  pub shift_names_case_row : {n : _} (r : Row_of-Case n) → ShiftNames x (Switch (case_list r)) → ShiftNamesCases x r
  shift_names_case_row end_of-Case f = of.shift_names_no_case x f
  shift_names_case_row (more_of-Case test child rest) f = ⊎_elim (λ a. inl a) (λ a. inr (shift_names_case_row rest a)) (of.from_shift_names_case x (case_of test child) (case_list rest) f)

pub nested_phase_row : {n : _} (r : Row_of-Phase n) → NestedPhases r → Nested (Sequence (phase_list r))
nested_phase_row end_of-Phase h = of.nested_no_phase
nested_phase_row (more_of-Phase stop child rest) h = of.nested_phase (phase_of stop child) (phase_list rest) h.0 (nested_phase_row rest h.1)

pub nested_case_row : {n : _} (r : Row_of-Case n) → NestedCases r → Nested (Switch (case_list r))
nested_case_row end_of-Case h = of.nested_no_case
nested_case_row (more_of-Case test child rest) h = of.nested_case (case_of test child) (case_list rest) h.0 (nested_case_row rest h.1)

-- ---- weight
pub weight_phase_row : {n : _} (r : Row_of-Phase n) → weight (Sequence (phase_list r)) ≡ 2 + weight_phases r
weight_phase_row end_of-Phase = omega (arith, of.weight_no_phase)
weight_phase_row (more_of-Phase stop child rest) = omega (arith, of.weight_phase (phase_of stop child) (phase_list rest), weight_phase_row rest)

pub weight_case_row : {n : _} (r : Row_of-Case n) → weight (Switch (case_list r)) ≡ 1 + weight_cases r
weight_case_row end_of-Case = omega (arith, of.weight_no_case)
weight_case_row (more_of-Case test child rest) = omega (arith, of.weight_case (case_of test child) (case_list rest), weight_case_row rest)
