-- A looplet in place of a switch: one that shows the same where the switch's test is off, or where it isn't.
use Rattle.std.proofs.Common.{◌≡◌, ℕ, ◌+◌, ◌<◌, inl, inr, ⊎_elim, List, [], ◌∷◌, Bool, true, false, Option, Some, None, refl, sym, ap, ◌∙◌, subst, ℤ, pos, ◌<ℤ◌, arith}
use Rattle.std.specs.Prelude.{if◌then◌else◌}
use Rattle.fin_ir.specs.declared.expression.IExpr.{IExpr}
use Rattle.fin_ir.specs.Value.{is_off}
use Rattle.fin_looplet.specs.declared.looplet.Looplet.{Looplet, Row_of-Case, end_of-Case, more_of-Case}
use Rattle.fin_looplet.specs.declared.looplet.Looplet.TheVariants.{Run, Spike, Lookup, Sequence', Stepper', Jumper', Switch', Shift'}
use Rattle.fin_looplet.specs.Names.{Names, Loads}
use Rattle.fin_looplet.specs.View.{Store, value, View, view, view_cases}
use Rattle.fin_looplet.specs.Sound.{SoundWithin, SoundCases, Near}
use Rattle.fin_looplet.specs.Locals.{Free, FreeCases, LoadsIn, LoadsCases, Owns, OwnsCases, ShiftNames, ShiftNamesCases, Nested, NestedCases}
use Rattle.fin_looplet.specs.Lists.{views, AllSound, AnyFree, AnyLoads, AnyOwns, AnyShiftNames, AllNested, AllApart, case_list}
use Rattle.fin_looplet.specs.Weight.{weight, weight_cases, weights}
use Rattle.fin_looplet.proofs.Exprs.{names_num, loads_num}
use Rattle.fin_looplet.proofs.Rows.{view_case_row, sound_case_row, free_case_row, loads_case_row, owns_case_row, shift_names_case_row, nested_case_row, weight_case_row}
use Rattle.fin_nest.specs.Nests.{Nest, Separate}
use Rattle.fin_style_point.specs.Steps.{Alternatives, switch_of, first_case, alternatives, Choice, here_or_later, first_switch}
use Rattle.fin_style_point.proofs.Within.{Within}
use Rattle.fin_style_point.proofs.Cases.{holds_on, row_is}

-- one for a looplet, where the test is off or isn't
pub record Branch (l taken : Looplet) (test : IExpr) (off : Bool) : Type 0 where
  pub shows : (ts : Store) (ls : List ℤ) (hi end i : ℤ) → is_off (value ts ls test) ≡ off → SoundWithin Near ts ls l (λ j. j <ℤ hi) i → view ts ls taken end i ≡ view ts ls l end i
  pub sound : (ts : Store) (ls : List ℤ) (hi i : ℤ) → is_off (value ts ls test) ≡ off → SoundWithin Near ts ls l (λ j. j <ℤ hi) i → SoundWithin Near ts ls taken (λ j. j <ℤ hi) i
  pub owns : (x : ℕ) → Owns x taken → Owns x l
  pub free : (x : ℕ) → Free x taken → Free x l
  pub loads : (t : ℕ) → LoadsIn t taken → LoadsIn t l
  pub shifts : (x : ℕ) → ShiftNames x taken → ShiftNames x l
  pub nested : Nested l → Nested taken
  pub lighter : weight taken < weight l
  pub test_names : (x : ℕ) → Names x test → Free x l
  pub test_loads : (t : ℕ) → Loads t test → LoadsIn t l

-- a list with one of its looplets replaced
pub record Branches (rs taken : List Looplet) (test : IExpr) (off : Bool) : Type 0 where
  pub shows : (ts : Store) (ls : List ℤ) (hi end i : ℤ) → is_off (value ts ls test) ≡ off → AllSound Near ts ls rs (λ j. j <ℤ hi) i → views ts ls taken end i ≡ views ts ls rs end i
  pub sound : (ts : Store) (ls : List ℤ) (hi i : ℤ) → is_off (value ts ls test) ≡ off → AllSound Near ts ls rs (λ j. j <ℤ hi) i → AllSound Near ts ls taken (λ j. j <ℤ hi) i
  pub owns : (x : ℕ) → AnyOwns x taken → AnyOwns x rs
  pub free : (x : ℕ) → AnyFree x taken → AnyFree x rs
  pub loads : (t : ℕ) → AnyLoads t taken → AnyLoads t rs
  pub shifts : (x : ℕ) → AnyShiftNames x taken → AnyShiftNames x rs
  pub nested : AllNested rs → AllNested taken
  pub apart : AllApart rs → AllApart taken
  pub lighter : weights taken < weights rs
  pub test_names : (x : ℕ) → Names x test → AnyFree x rs
  pub test_loads : (t : ℕ) → Loads t test → AnyLoads t rs

here : (l taken : Looplet) (rest : List Looplet) (test : IExpr) (off : Bool) → Branch l taken test off → Branches (l ∷ rest) (taken ∷ rest) test off
here l taken rest test off b = record {
  shows = λ ts ls hi end i t s. ap (λ (v : View). v ∷ views ts ls rest end i) (b.shows ts ls hi end i t s.0);
  sound = λ ts ls hi i t s. (b.sound ts ls hi i t s.0, s.1);
  owns = λ x o. ⊎_elim (λ a. inl (b.owns x a)) (λ c. inr c) o;
  free = λ x o. ⊎_elim (λ a. inl (b.free x a)) (λ c. inr c) o;
  loads = λ x o. ⊎_elim (λ a. inl (b.loads x a)) (λ c. inr c) o;
  shifts = λ x o. ⊎_elim (λ a. inl (b.shifts x a)) (λ c. inr c) o;
  nested = λ h. (b.nested h.0, h.1);
  apart = λ h. ((λ x o q. h.0 x (b.owns x o) q), h.1);
  lighter = omega (arith, b.lighter);
  test_names = λ x h. inl (b.test_names x h);
  test_loads = λ t h. inl (b.test_loads t h);
}

later : (l : Looplet) (rest taken : List Looplet) (test : IExpr) (off : Bool) → Branches rest taken test off → Branches (l ∷ rest) (l ∷ taken) test off
later l rest taken test off b = record {
  shows = λ ts ls hi end i t s. ap (λ (vs : List View). view ts ls l end i ∷ vs) (b.shows ts ls hi end i t s.1);
  sound = λ ts ls hi i t s. (s.0, b.sound ts ls hi i t s.1);
  owns = λ x o. ⊎_elim (λ a. inl a) (λ c. inr (b.owns x c)) o;
  free = λ x o. ⊎_elim (λ a. inl a) (λ c. inr (b.free x c)) o;
  loads = λ x o. ⊎_elim (λ a. inl a) (λ c. inr (b.loads x c)) o;
  shifts = λ x o. ⊎_elim (λ a. inl a) (λ c. inr (b.shifts x c)) o;
  nested = λ h. (h.0, b.nested h.1);
  apart = λ h. ((λ x o q. h.0 x o (b.owns x q)), b.apart h.1);
  lighter = omega (arith, b.lighter);
  test_names = λ x h. inr (b.test_names x h);
  test_loads = λ t h. inr (b.test_loads t h);
}

-- ---- a switch by its first case

apart_tests : true ≡ false → ⊥
apart_tests e = absurd (cc)

taken_shows : (ts : Store) (ls : List ℤ) (hi end i : ℤ) {n : _} (cs : Row_of-Case n) → is_off (value ts ls (first_case cs).test) ≡ false → SoundCases Near ts ls cs (λ j. j <ℤ hi) i → view ts ls (first_case cs).taken end i ≡ view_cases ts ls cs end i
taken_shows ts ls hi end i end_of-Case t s = absurd s
taken_shows ts ls hi end i (more_of-Case test child rest) t s = sym (ap (λ (b : Bool). if b then view_cases ts ls rest end i else view ts ls child end i) t)

taken_sound : (ts : Store) (ls : List ℤ) (hi i : ℤ) {n : _} (cs : Row_of-Case n) → is_off (value ts ls (first_case cs).test) ≡ false → SoundCases Near ts ls cs (λ j. j <ℤ hi) i → SoundWithin Near ts ls (first_case cs).taken (λ j. j <ℤ hi) i
taken_sound ts ls hi i end_of-Case t s = absurd s
taken_sound ts ls hi i (more_of-Case test child rest) t (inl s) = absurd (apart_tests (sym s.0 ∙ t))
taken_sound ts ls hi i (more_of-Case test child rest) t (inr s) = s.1

taken_owns : {n : _} (x : ℕ) (cs : Row_of-Case n) → Owns x (first_case cs).taken → OwnsCases x cs
taken_owns x end_of-Case f = absurd f
taken_owns x (more_of-Case test child rest) f = inl f

taken_free : {n : _} (x : ℕ) (cs : Row_of-Case n) → Free x (first_case cs).taken → FreeCases x cs
taken_free x end_of-Case f = absurd f
taken_free x (more_of-Case test child rest) f = inr (inl f)

taken_loads : {n : _} (t : ℕ) (cs : Row_of-Case n) → LoadsIn t (first_case cs).taken → LoadsCases t cs
taken_loads t end_of-Case f = absurd f
taken_loads t (more_of-Case test child rest) f = inr (inl f)

taken_shifts : {n : _} (x : ℕ) (cs : Row_of-Case n) → ShiftNames x (first_case cs).taken → ShiftNamesCases x cs
taken_shifts x end_of-Case f = absurd f
taken_shifts x (more_of-Case test child rest) f = inl f

taken_nested : {n : _} (cs : Row_of-Case n) → NestedCases cs → Nested (first_case cs).taken
taken_nested end_of-Case h = tt
taken_nested (more_of-Case test child rest) h = h.0

taken_weight : {n : _} (cs : Row_of-Case n) → weight (first_case cs).taken < 1 + weight_cases cs
taken_weight end_of-Case = omega arith
taken_weight (more_of-Case test child rest) = omega arith

-- ---- the other cases of a switch

module _ (ts : Store) (ls : List ℤ) (hi i : ℤ) where
  others_view : {n : _} (cs : Row_of-Case n) (end : ℤ) → SoundCases Near ts ls cs (λ j. j <ℤ hi) i → view ts ls (switch_of (case_list cs)) end i ≡ view_cases ts ls cs end i
  others_view end_of-Case end s = absurd s
  others_view (more_of-Case test child rest) end s =
      let cs = more_of-Case test child rest in
      row_is (λ l. view ts ls l end i ≡ view_cases ts ls cs end i) test child rest (λ h. taken_shows ts ls hi end i cs (holds_on ts ls test h) s) (view_case_row ts ls cs end i)

  others_sound : {n : _} (cs : Row_of-Case n) → SoundCases Near ts ls cs (λ j. j <ℤ hi) i → SoundWithin Near ts ls (switch_of (case_list cs)) (λ j. j <ℤ hi) i
  others_sound end_of-Case s = absurd s
  others_sound (more_of-Case test child rest) s =
      let cs = more_of-Case test child rest in
      row_is (λ l. SoundWithin Near ts ls l (λ j. j <ℤ hi) i) test child rest (λ h. taken_sound ts ls hi i cs (holds_on ts ls test h) s) (sound_case_row Near ts ls cs (λ j. j <ℤ hi) i s)

others_owns : {n : _} (x : ℕ) (cs : Row_of-Case n) → Owns x (switch_of (case_list cs)) → OwnsCases x cs
others_owns x end_of-Case f = absurd f
others_owns x (more_of-Case test child rest) f =
    let cs = more_of-Case test child rest in
    row_is (λ l. Owns x l → OwnsCases x cs) test child rest (λ h. taken_owns x cs) (owns_case_row x cs) f

others_free : {n : _} (x : ℕ) (cs : Row_of-Case n) → Free x (switch_of (case_list cs)) → FreeCases x cs
others_free x end_of-Case f = absurd f
others_free x (more_of-Case test child rest) f =
    let cs = more_of-Case test child rest in
    row_is (λ l. Free x l → FreeCases x cs) test child rest (λ h. taken_free x cs) (free_case_row x cs) f

others_loads : {n : _} (x : ℕ) (cs : Row_of-Case n) → LoadsIn x (switch_of (case_list cs)) → LoadsCases x cs
others_loads x end_of-Case f = absurd f
others_loads x (more_of-Case test child rest) f =
    let cs = more_of-Case test child rest in
    row_is (λ l. LoadsIn x l → LoadsCases x cs) test child rest (λ h. taken_loads x cs) (loads_case_row x cs) f

others_shifts : {n : _} (x : ℕ) (cs : Row_of-Case n) → ShiftNames x (switch_of (case_list cs)) → ShiftNamesCases x cs
others_shifts x end_of-Case f = absurd f
others_shifts x (more_of-Case test child rest) f =
    let cs = more_of-Case test child rest in
    row_is (λ l. ShiftNames x l → ShiftNamesCases x cs) test child rest (λ h. taken_shifts x cs) (shift_names_case_row x cs) f

others_nested : {n : _} (cs : Row_of-Case n) → NestedCases cs → Nested (switch_of (case_list cs))
others_nested end_of-Case h = tt
others_nested (more_of-Case test child rest) h = row_is Nested test child rest (λ e. h.0) (nested_case_row (more_of-Case test child rest) h)

others_weight : {n : _} (cs : Row_of-Case n) → weight (switch_of (case_list cs)) < 2 + weight_cases cs
others_weight end_of-Case = omega arith
others_weight (more_of-Case test child rest) =
    let cs = more_of-Case test child rest in
    row_is (λ l. weight l < 2 + weight_cases cs) test child rest (λ h. omega arith) (omega (arith, weight_case_row cs))

-- ---- a switch by its other cases

passed_shows : (ts : Store) (ls : List ℤ) (hi end i : ℤ) {n : _} (cs : Row_of-Case n) → is_off (value ts ls (first_case cs).test) ≡ true → SoundCases Near ts ls cs (λ j. j <ℤ hi) i → view ts ls (first_case cs).others end i ≡ view_cases ts ls cs end i
passed_shows ts ls hi end i end_of-Case t s = absurd s
passed_shows ts ls hi end i (more_of-Case test child rest) t (inl s) = others_view ts ls hi i rest end s.1 ∙ sym (ap (λ (b : Bool). if b then view_cases ts ls rest end i else view ts ls child end i) t)
passed_shows ts ls hi end i (more_of-Case test child rest) t (inr s) = absurd (apart_tests (sym t ∙ s.0))

passed_sound : (ts : Store) (ls : List ℤ) (hi i : ℤ) {n : _} (cs : Row_of-Case n) → is_off (value ts ls (first_case cs).test) ≡ true → SoundCases Near ts ls cs (λ j. j <ℤ hi) i → SoundWithin Near ts ls (first_case cs).others (λ j. j <ℤ hi) i
passed_sound ts ls hi i end_of-Case t s = absurd s
passed_sound ts ls hi i (more_of-Case test child rest) t (inl s) = others_sound ts ls hi i rest s.1
passed_sound ts ls hi i (more_of-Case test child rest) t (inr s) = absurd (apart_tests (sym t ∙ s.0))

passed_owns : {n : _} (x : ℕ) (cs : Row_of-Case n) → Owns x (first_case cs).others → OwnsCases x cs
passed_owns x end_of-Case f = absurd f
passed_owns x (more_of-Case test child rest) f = inr (others_owns x rest f)

passed_free : {n : _} (x : ℕ) (cs : Row_of-Case n) → Free x (first_case cs).others → FreeCases x cs
passed_free x end_of-Case f = absurd f
passed_free x (more_of-Case test child rest) f = inr (inr (others_free x rest f))

passed_loads : {n : _} (t : ℕ) (cs : Row_of-Case n) → LoadsIn t (first_case cs).others → LoadsCases t cs
passed_loads t end_of-Case f = absurd f
passed_loads t (more_of-Case test child rest) f = inr (inr (others_loads t rest f))

passed_shifts : {n : _} (x : ℕ) (cs : Row_of-Case n) → ShiftNames x (first_case cs).others → ShiftNamesCases x cs
passed_shifts x end_of-Case f = absurd f
passed_shifts x (more_of-Case test child rest) f = inr (others_shifts x rest f)

passed_nested : {n : _} (cs : Row_of-Case n) → NestedCases cs → Nested (first_case cs).others
passed_nested end_of-Case h = tt
passed_nested (more_of-Case test child rest) h = others_nested rest h.1

passed_weight : {n : _} (cs : Row_of-Case n) → weight (first_case cs).others < 1 + weight_cases cs
passed_weight end_of-Case = omega arith
passed_weight (more_of-Case test child rest) = omega (arith, others_weight rest)

first_names : {n : _} (x : ℕ) (cs : Row_of-Case n) → Names x (first_case cs).test → FreeCases x cs
first_names x end_of-Case f = absurd (names_num x (pos 0) f)
first_names x (more_of-Case test child rest) f = inl f

first_loads : {n : _} (t : ℕ) (cs : Row_of-Case n) → Loads t (first_case cs).test → LoadsCases t cs
first_loads t end_of-Case f = absurd (loads_num t (pos 0) f)
first_loads t (more_of-Case test child rest) f = inl f

-- ---- the first switch of a list

abbrev Alters : Looplet → Alternatives → Type 0
Alters l a = Branch l a.taken a.test false × Branch l a.others a.test true

abbrev pub Chooses : List Looplet → Choice → Type 0
Chooses rs c = Branches rs c.taken c.test false × Branches rs c.others c.test true

same_some : {A : Type 0} (a b : A) → Some a ≡ Some b → a ≡ b
same_some a b e = cc

alters : (l : Looplet) (a : Alternatives) → alternatives l ≡ Some a → Alters l a
alters (Run k) a e = absurd (cc)
alters (Spike b t) a e = absurd (cc)
alters (Lookup c k) a e = absurd (cc)
alters (Sequence' n ps) a e = absurd (cc)
alters (Stepper' p w) a e = absurd (cc)
alters (Jumper' p w) a e = absurd (cc)
alters (Switch' n cs) a e = subst (Alters (Switch' n cs)) (same_some (first_case cs) a e) (
  record {
    shows = λ ts ls hi end i t s. taken_shows ts ls hi end i cs t s;
    sound = λ ts ls hi i t s. taken_sound ts ls hi i cs t s;
    owns = λ x o. taken_owns x cs o;
    free = λ x o. taken_free x cs o;
    loads = λ t o. taken_loads t cs o;
    shifts = λ x o. taken_shifts x cs o;
    nested = λ h. taken_nested cs h;
    lighter = taken_weight cs;
    test_names = λ x h. first_names x cs h;
    test_loads = λ t h. first_loads t cs h;
  },
  record {
    shows = λ ts ls hi end i t s. passed_shows ts ls hi end i cs t s;
    sound = λ ts ls hi i t s. passed_sound ts ls hi i cs t s;
    owns = λ x o. passed_owns x cs o;
    free = λ x o. passed_free x cs o;
    loads = λ t o. passed_loads t cs o;
    shifts = λ x o. passed_shifts x cs o;
    nested = λ h. passed_nested cs h;
    lighter = passed_weight cs;
    test_names = λ x h. first_names x cs h;
    test_loads = λ t h. first_loads t cs h;
  },
)
alters (Shift' by p c) a e = absurd (cc)

choose : (o : Option Alternatives) (l : Looplet) (rest : List Looplet) (p : Option Choice) → ((a : Alternatives) → o ≡ Some a → Alters l a) → ((d : Choice) → p ≡ Some d → Chooses rest d) → (c : Choice) → here_or_later o l rest p ≡ Some c → Chooses (l ∷ rest) c
choose (Some a) l rest p h k c e =
    let b = h a refl in
    subst (Chooses (l ∷ rest)) (same_some (record { test = a.test; taken = a.taken ∷ rest; others = a.others ∷ rest }) c e) (here l a.taken rest a.test false b.0, here l a.others rest a.test true b.1)
choose None l rest None h k c e = absurd (cc)
choose None l rest (Some d) h k c e =
    let b = k d refl in
    subst (Chooses (l ∷ rest)) (same_some (record { test = d.test; taken = l ∷ d.taken; others = l ∷ d.others }) c e) (later l rest d.taken d.test false b.0, later l rest d.others d.test true b.1)

pub chooses : (rs : List Looplet) (c : Choice) → first_switch rs ≡ Some c → Chooses rs c
chooses [] c e = absurd (cc)
chooses (l ∷ rest) c e = choose (alternatives l) l rest (first_switch rest) (alters l) (chooses rest) c e

pub branch_within : {S : Type 0} (n : Nest S) (taken : List Looplet) (test : IExpr) (off : Bool) → Branches n.reads taken test off → Separate n → Within n taken
branch_within n taken test off b s = record {
  owns = b.owns;
  free = λ x f. s.reads x (b.free x f);
  loads = λ t f. s.loads t (b.loads t f);
  shifts = b.shifts;
  nested = b.nested s.own.nested;
  apart = b.apart s.own.apart;
}
