-- Lists of looplets: one for each read of a loop.
use Rattle.std.specs.Prelude.{ℕ, ◌⊎◌, List, [], ◌∷◌, Bool, false, ◌||◌, ℤ}
use Rattle.fin_looplet.specs.declared.looplet.Looplet.{Looplet, Row_of-Phase, end_of-Phase, more_of-Phase, Row_of-Case, end_of-Case, more_of-Case}
use Rattle.fin_looplet.specs.declared.looplet.Phase.{Phase}
use Rattle.fin_looplet.specs.declared.looplet.Case.{Case}
use Rattle.fin_looplet.specs.View.{Store, Seen, View, view}
use Rattle.fin_looplet.specs.Sound.{Places, SoundWithin}
use Rattle.fin_looplet.specs.Locals.{Free, LoadsIn, Owns, ShiftNames, Nested}

-- ---- what they show

abbrev pub views : Store → List ℤ → List Looplet → ℤ → ℤ → List View
views ts ls [] end i = []
views ts ls (l ∷ rest) end i = view ts ls l end i ∷ views ts ls rest end i

abbrev pub seens : List View → List Seen
seens [] = []
seens (v ∷ vs) = v.seen ∷ seens vs

-- a part of some looplet ends after the coordinate
abbrev pub any_ends : List View → Bool
any_ends [] = false
any_ends (v ∷ vs) = v.ends || any_ends vs

-- some walker's child ends after the coordinate
abbrev pub any_stop : List View → Bool
any_stop [] = false
any_stop (v ∷ vs) = v.stop || any_stop vs

abbrev pub AllSound : Places → Store → List ℤ → List Looplet → Places → ℤ → Type 0
AllSound reach ts ls [] served i = Unit {0}
AllSound reach ts ls (l ∷ rest) served i = SoundWithin reach ts ls l served i × AllSound reach ts ls rest served i

-- ---- what they depend on

abbrev pub AnyFree : ℕ → List Looplet → Type 0
AnyFree x [] = ⊥
AnyFree x (l ∷ rest) = Free x l ⊎ AnyFree x rest

abbrev pub AnyLoads : ℕ → List Looplet → Type 0
AnyLoads t [] = ⊥
AnyLoads t (l ∷ rest) = LoadsIn t l ⊎ AnyLoads t rest

abbrev pub AnyOwns : ℕ → List Looplet → Type 0
AnyOwns x [] = ⊥
AnyOwns x (l ∷ rest) = Owns x l ⊎ AnyOwns x rest

abbrev pub AnyShiftNames : ℕ → List Looplet → Type 0
AnyShiftNames x [] = ⊥
AnyShiftNames x (l ∷ rest) = ShiftNames x l ⊎ AnyShiftNames x rest

abbrev pub AllNested : List Looplet → Type 0
AllNested [] = Unit {0}
AllNested (l ∷ rest) = Nested l × AllNested rest

-- no two of them own one local
abbrev pub AllApart : List Looplet → Type 0
AllApart [] = Unit {0}
AllApart (l ∷ rest) = ((x : ℕ) → Owns x l → AnyOwns x rest → ⊥) × AllApart rest

-- What they do to their own locals changes nothing that any of them depends on.
pub record AllSeparate (ls : List Looplet) : Type 0 where
  pub nested : AllNested ls
  pub apart : AllApart ls
  pub bound : (x : ℕ) → AnyOwns x ls → AnyFree x ls → ⊥
  pub unshifted : (x : ℕ) → AnyOwns x ls → AnyShiftNames x ls → ⊥

-- ---- the phases and cases of a row, as lists

abbrev pub phase_list : {n : _} → Row_of-Phase n → List Phase
phase_list end_of-Phase = []
phase_list (more_of-Phase stop child rest) = record { stop = stop; child = child } ∷ phase_list rest

abbrev pub case_list : {n : _} → Row_of-Case n → List Case
case_list end_of-Case = []
case_list (more_of-Case test child rest) = record { test = test; child = child } ∷ case_list rest
