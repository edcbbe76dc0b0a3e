-- A sequence by its first phase: what each part shows, asks and depends on, and what it weighs.
use Rattle.std.proofs.Common.{◌≡◌, ℕ, ◌+◌, ◌≤◌, inl, inr, ⊎_elim, List, Bool, true, false, Some, sym, ap, ◌∙◌, subst, ℤ, pos, ◌+ℤ◌, ◌≤ℤ◌, ◌<ℤ◌, arith}
use Rattle.std.specs.Prelude.{◌||◌, ◌&&◌, int_lt, int_le, if◌then◌else◌}
use borrow.Author.Differences.{lt_out, le_out, true_is_lt, false_is_lt, true_is_le, false_is_le}
use Rattle.fin_looplet.specs.declared.looplet.Looplet.{Looplet, Row_of-Phase, end_of-Phase, more_of-Phase}
use Rattle.fin_looplet.specs.declared.looplet.Looplet.TheVariants.{Run, Spike, Lookup, Sequence', Stepper', Jumper', Switch', Shift'}
use Rattle.fin_looplet.specs.Names.{Names, Loads}
use Rattle.fin_looplet.specs.View.{Store, value, View, view, view_phases, ended}
use Rattle.fin_looplet.specs.Sound.{Places, SoundWithin, SoundPhases, Near}
use Rattle.fin_looplet.specs.Locals.{Free, FreePhases, LoadsIn, LoadsPhases, Owns, OwnsPhases, ShiftNames, ShiftNamesPhases, Nested, NestedPhases}
use Rattle.fin_looplet.specs.Like.{Like}
use Rattle.fin_looplet.specs.Lists.{phase_list}
use Rattle.fin_looplet.specs.Weight.{weight, weight_phases}
use Rattle.fin_looplet.proofs.Exprs.{names_num, loads_num}
use Rattle.fin_looplet.proofs.Frame.{sound_less}
use Rattle.fin_looplet.proofs.Cuts.{cut_like, cut_sound}
use Rattle.fin_looplet.proofs.CutLocals.{cut_free, cut_loads, cut_owns, cut_shift_names, cut_nested}
use Rattle.fin_looplet.proofs.Weights.{cut_light}
use Rattle.fin_looplet.proofs.Rows.{view_phase_row, sound_phase_row, free_phase_row, loads_phase_row, owns_phase_row, shift_names_phase_row, nested_phase_row, weight_phase_row}
use Rattle.fin_style_step.specs.Steps.{Phased, sequence_of, first_phase, phased}

pub nears : (z : ℤ) → Near z → Near z
nears z n = n

-- what ends later is alike inside
pub like_ended : {A B : Type 0} (b walks : Bool) (v w : View) → (A → B) → (A → b ≡ false) → Like B v w → Like A v (ended b walks w)
like_ended b walks v w f late l = record {
  seen = l.seen;
  ends = λ a. l.ends (f a) ∙ sym (ap (λ (x : Bool). x || w.ends) (late a));
  stop = λ a. l.stop (f a) ∙ sym (ap (λ (x : Bool). (x && walks) || w.stop) (late a));
}

pub is_before : (i stop : ℤ) → i <ℤ stop → int_lt i stop ≡ true
is_before i stop h = sym (true_is_lt i stop (lt_out i stop h))

pub isn't_before : (i stop : ℤ) → stop ≤ℤ i → int_lt i stop ≡ false
isn't_before i stop h = sym (false_is_lt i stop (le_out stop i h))

pub is_up_to : (stop i : ℤ) → stop ≤ℤ i → int_le stop i ≡ true
is_up_to stop i h = sym (true_is_le stop i (le_out stop i h))

pub isn't_up_to : (stop i : ℤ) → i <ℤ stop → int_le stop i ≡ false
isn't_up_to stop i h = sym (false_is_le stop i (lt_out i stop h))

pub apart_tests : true ≡ false → ⊥
apart_tests e = absurd (cc)

pub same_some : {A : Type 0} (a b : A) → Some a ≡ Some b → a ≡ b
same_some a b e = cc

-- one that owns and depends on no more, and weighs 2 less
pub record Within (l one : Looplet) : Type 0 where
  pub owns : (x : ℕ) → Owns x one → Owns x l
  pub free : (x : ℕ) → Free x one → Free x l
  pub loads : (t : ℕ) → LoadsIn t one → LoadsIn t l
  pub shifts : (x : ℕ) → ShiftNames x one → ShiftNames x l
  pub nested : Nested l → Nested one
  pub lighter : weight one + 2 ≤ weight l

pub record Parted (l : Looplet) (p : Phased) : Type 0 where
  pub here : Within l p.here
  pub others : Within l p.others
  pub stop_names : (x : ℕ) → Names x p.stop → Free x l
  pub stop_loads : (t : ℕ) → Loads t p.stop → LoadsIn t l
  -- before the stop
  pub here_like : (ts : Store) (ls : List ℤ) (hi end e i : ℤ) → Near i → i <ℤ value ts ls p.stop → SoundWithin Near ts ls l (λ j. j <ℤ hi) i
      → Like ((i +ℤ pos 1) <ℤ value ts ls p.stop) (view ts ls p.here end i) (view ts ls l e i)
  pub here_sound : (ts : Store) (ls : List ℤ) (hi to i : ℤ) → Near i → i <ℤ value ts ls p.stop → ((j : ℤ) → j <ℤ to → (j <ℤ hi) × (j <ℤ value ts ls p.stop))
      → SoundWithin Near ts ls l (λ j. j <ℤ hi) i → SoundWithin Near ts ls p.here (λ j. j <ℤ to) i
  pub ends : (ts : Store) (ls : List ℤ) (hi e i : ℤ) → i <ℤ value ts ls p.stop → value ts ls p.stop ≤ℤ (i +ℤ pos 1) → SoundWithin Near ts ls l (λ j. j <ℤ hi) i → (view ts ls l e i).ends ≡ true
  -- from it on
  pub others_view : (ts : Store) (ls : List ℤ) (hi e i : ℤ) → value ts ls p.stop ≤ℤ i → SoundWithin Near ts ls l (λ j. j <ℤ hi) i → view ts ls p.others e i ≡ view ts ls l e i
  pub others_sound : (ts : Store) (ls : List ℤ) (hi i : ℤ) → value ts ls p.stop ≤ℤ i → SoundWithin Near ts ls l (λ j. j <ℤ hi) i → SoundWithin Near ts ls p.others (λ j. j <ℤ hi) i

-- ---- the other phases

rest_owns : {n : _} (x : ℕ) (ps : Row_of-Phase n) → Owns x (sequence_of (phase_list ps)) → OwnsPhases x ps
rest_owns x end_of-Phase f = absurd f
rest_owns x (more_of-Phase stop child rest) f = owns_phase_row x (more_of-Phase stop child rest) f

rest_free : {n : _} (x : ℕ) (ps : Row_of-Phase n) → Free x (sequence_of (phase_list ps)) → FreePhases x ps
rest_free x end_of-Phase f = absurd f
rest_free x (more_of-Phase stop child rest) f = free_phase_row x (more_of-Phase stop child rest) f

rest_loads : {n : _} (t : ℕ) (ps : Row_of-Phase n) → LoadsIn t (sequence_of (phase_list ps)) → LoadsPhases t ps
rest_loads t end_of-Phase f = absurd f
rest_loads t (more_of-Phase stop child rest) f = loads_phase_row t (more_of-Phase stop child rest) f

rest_shifts : {n : _} (x : ℕ) (ps : Row_of-Phase n) → ShiftNames x (sequence_of (phase_list ps)) → ShiftNamesPhases x ps
rest_shifts x end_of-Phase f = absurd f
rest_shifts x (more_of-Phase stop child rest) f = shift_names_phase_row x (more_of-Phase stop child rest) f

rest_nested : {n : _} (ps : Row_of-Phase n) → NestedPhases ps → Nested (sequence_of (phase_list ps))
rest_nested end_of-Phase h = tt
rest_nested (more_of-Phase stop child rest) h = nested_phase_row (more_of-Phase stop child rest) h

rest_weight : {n : _} (ps : Row_of-Phase n) → weight (sequence_of (phase_list ps)) ≤ 2 + weight_phases ps
rest_weight end_of-Phase = omega arith
rest_weight (more_of-Phase stop child rest) = omega (arith, weight_phase_row (more_of-Phase stop child rest))

module _ (ts : Store) (ls : List ℤ) (P : Places) (i : ℤ) where
  rest_view : {n : _} (ps : Row_of-Phase n) (e : ℤ) → SoundPhases Near ts ls ps P i → view ts ls (sequence_of (phase_list ps)) e i ≡ view_phases ts ls ps i
  rest_view end_of-Phase e s = absurd s
  rest_view (more_of-Phase stop child rest) e s = view_phase_row ts ls (more_of-Phase stop child rest) e i

  rest_sound : {n : _} (ps : Row_of-Phase n) → SoundPhases Near ts ls ps P i → SoundWithin Near ts ls (sequence_of (phase_list ps)) P i
  rest_sound end_of-Phase s = absurd s
  rest_sound (more_of-Phase stop child rest) s = sound_phase_row Near ts ls (more_of-Phase stop child rest) P i s

-- ---- a row by its first phase

module _ (ts : Store) (ls : List ℤ) (P : Places) (i : ℤ) where
  first_like : {n : _} (ps : Row_of-Phase n) (end : ℤ) → Near i → i <ℤ value ts ls (first_phase ps).stop → SoundPhases Near ts ls ps P i
      → Like ((i +ℤ pos 1) <ℤ value ts ls (first_phase ps).stop) (view ts ls (first_phase ps).here end i) (view_phases ts ls ps i)
  first_like end_of-Phase end near under s = absurd s
  first_like (more_of-Phase stop child rest) end near under (inl s) =
      let z = value ts ls stop in
      let v = view ts ls child z i in
      let c = cut_like Near nears ts ls child stop end i (λ j. P j × (j <ℤ value ts ls stop)) near under s.1 in
      let m : Like ((i +ℤ pos 1) <ℤ value ts ls stop) (view ts ls (first_phase (more_of-Phase stop child rest)).here end i) (ended (int_le (value ts ls stop) (i +ℤ pos 1)) false (view ts ls child (value ts ls stop) i)) =
      like_ended (int_le z (i +ℤ pos 1)) false (view ts ls (first_phase (more_of-Phase stop child rest)).here end i) v (λ q. q) (λ q. isn't_up_to z (i +ℤ pos 1) q) c in
      subst (λ (w : View). Like ((i +ℤ pos 1) <ℤ value ts ls stop) (view ts ls (first_phase (more_of-Phase stop child rest)).here end i) w)
      (sym (ap (λ (b : Bool). if b then ended (int_le z (i +ℤ pos 1)) false v else view_phases ts ls rest i) (is_before i z under))) m
  first_like (more_of-Phase stop child rest) end near under (inr s) = absurd (apart_tests (sym (is_before i (value ts ls stop) under) ∙ s.0))

  first_sound : {n : _} (ps : Row_of-Phase n) (Q : Places) → Near i → i <ℤ value ts ls (first_phase ps).stop → ((j : ℤ) → Q j → P j × (j <ℤ value ts ls (first_phase ps).stop)) → SoundPhases Near ts ls ps P i
      → SoundWithin Near ts ls (first_phase ps).here Q i
  first_sound end_of-Phase Q near under h s = absurd s
  first_sound (more_of-Phase stop child rest) Q near under h (inl s) =
      sound_less Near Near nears ts ls (first_phase (more_of-Phase stop child rest)).here (λ j. P j × (j <ℤ value ts ls stop)) Q i h
      (cut_sound Near nears ts ls child stop i (λ j. P j × (j <ℤ value ts ls stop)) near under s.1)
  first_sound (more_of-Phase stop child rest) Q near under h (inr s) = absurd (apart_tests (sym (is_before i (value ts ls stop) under) ∙ s.0))

  first_ends : {n : _} (ps : Row_of-Phase n) → i <ℤ value ts ls (first_phase ps).stop → value ts ls (first_phase ps).stop ≤ℤ (i +ℤ pos 1) → SoundPhases Near ts ls ps P i → (view_phases ts ls ps i).ends ≡ true
  first_ends end_of-Phase under over s = absurd s
  first_ends (more_of-Phase stop child rest) under over s =
      let z = value ts ls stop in
      let v = view ts ls child z i in
      ap (λ (b : Bool). (if b then ended (int_le z (i +ℤ pos 1)) false v else view_phases ts ls rest i).ends) (is_before i z under) ∙ ap (λ (b : Bool). b || v.ends) (is_up_to z (i +ℤ pos 1) over)

  passed_view : {n : _} (ps : Row_of-Phase n) (e : ℤ) → value ts ls (first_phase ps).stop ≤ℤ i → SoundPhases Near ts ls ps P i → view ts ls (first_phase ps).others e i ≡ view_phases ts ls ps i
  passed_view end_of-Phase e over s = absurd s
  passed_view (more_of-Phase stop child rest) e over (inl s) = absurd (apart_tests (sym s.0 ∙ isn't_before i (value ts ls stop) over))
  passed_view (more_of-Phase stop child rest) e over (inr s) =
      let z = value ts ls stop in
      rest_view ts ls P i rest e s.1 ∙ sym (ap (λ (b : Bool). if b then ended (int_le z (i +ℤ pos 1)) false (view ts ls child z i) else view_phases ts ls rest i) (isn't_before i z over))

  passed_sound : {n : _} (ps : Row_of-Phase n) → value ts ls (first_phase ps).stop ≤ℤ i → SoundPhases Near ts ls ps P i → SoundWithin Near ts ls (first_phase ps).others P i
  passed_sound end_of-Phase over s = absurd s
  passed_sound (more_of-Phase stop child rest) over (inl s) = absurd (apart_tests (sym s.0 ∙ isn't_before i (value ts ls stop) over))
  passed_sound (more_of-Phase stop child rest) over (inr s) = rest_sound ts ls P i rest s.1

-- a looplet that owns and depends on no more than the row, and weighs less
record RowWithin {n : _} (ps : Row_of-Phase n) (one : Looplet) : Type 0 where
  owns : (x : ℕ) → Owns x one → OwnsPhases x ps
  free : (x : ℕ) → Free x one → FreePhases x ps
  loads : (t : ℕ) → LoadsIn t one → LoadsPhases t ps
  shifts : (x : ℕ) → ShiftNames x one → ShiftNamesPhases x ps
  nested : NestedPhases ps → Nested one
  lighter : weight one ≤ weight_phases ps

first_within : {n : _} (ps : Row_of-Phase n) → RowWithin ps (first_phase ps).here
first_within end_of-Phase = record { owns = λ x o. absurd o; free = λ x o. absurd o; loads = λ t o. absurd o; shifts = λ x o. absurd o; nested = λ h. tt; lighter = omega arith }
first_within (more_of-Phase stop child rest) = record {
  owns = λ x o. inl (cut_owns x child stop o);
  free = λ x f. ⊎_elim (λ a. inl a) (λ b. inr (inl b)) (cut_free x child stop f);
  loads = λ t f. ⊎_elim (λ a. inl a) (λ b. inr (inl b)) (cut_loads t child stop f);
  shifts = λ x f. inl (cut_shift_names x child stop f);
  nested = λ h. cut_nested child stop h.0;
  lighter = omega (arith, cut_light stop child);
}

passed_within : {n : _} (ps : Row_of-Phase n) → RowWithin ps (first_phase ps).others
passed_within end_of-Phase = record { owns = λ x o. absurd o; free = λ x o. absurd o; loads = λ t o. absurd o; shifts = λ x o. absurd o; nested = λ h. tt; lighter = omega arith }
passed_within (more_of-Phase stop child rest) = record {
  owns = λ x o. inr (rest_owns x rest o);
  free = λ x f. inr (inr (rest_free x rest f));
  loads = λ t f. inr (inr (rest_loads t rest f));
  shifts = λ x f. inr (rest_shifts x rest f);
  nested = λ h. rest_nested rest h.1;
  lighter = omega (arith, rest_weight rest);
}

first_names : {n : _} (x : ℕ) (ps : Row_of-Phase n) → Names x (first_phase ps).stop → FreePhases x ps
first_names x end_of-Phase f = absurd (names_num x (pos 0) f)
first_names x (more_of-Phase stop child rest) f = inl f

first_loads : {n : _} (t : ℕ) (ps : Row_of-Phase n) → Loads t (first_phase ps).stop → LoadsPhases t ps
first_loads t end_of-Phase f = absurd (loads_num t (pos 0) f)
first_loads t (more_of-Phase stop child rest) f = inl f

pub parted : (l : Looplet) (p : Phased) → phased l ≡ Some p → Parted l p
parted (Run k) p e = absurd (cc)
parted (Spike b t) p e = absurd (cc)
parted (Lookup c k) p e = absurd (cc)
parted (Sequence' k ps) p e = subst (Parted (Sequence' k ps)) (same_some (first_phase ps) p e) (record {
  here = let w = first_within ps in record { owns = w.owns; free = w.free; loads = w.loads; shifts = w.shifts; nested = w.nested; lighter = omega (arith, w.lighter) };
  others = let w = passed_within ps in record { owns = w.owns; free = w.free; loads = w.loads; shifts = w.shifts; nested = w.nested; lighter = omega (arith, w.lighter) };
  stop_names = λ x f. first_names x ps f;
  stop_loads = λ t f. first_loads t ps f;
  here_like = λ ts ls hi end e i near under s. first_like ts ls (λ j. j <ℤ hi) i ps end near under s;
  here_sound = λ ts ls hi to i near under h s. first_sound ts ls (λ j. j <ℤ hi) i ps (λ j. j <ℤ to) near under h s;
  ends = λ ts ls hi e i under over s. first_ends ts ls (λ j. j <ℤ hi) i ps under over s;
  others_view = λ ts ls hi e i over s. passed_view ts ls (λ j. j <ℤ hi) i ps e over s;
  others_sound = λ ts ls hi i over s. passed_sound ts ls (λ j. j <ℤ hi) i ps over s;
})
parted (Stepper' k w) p e = absurd (cc)
parted (Jumper' k w) p e = absurd (cc)
parted (Switch' k cs) p e = absurd (cc)
parted (Shift' by k c) p e = absurd (cc)
