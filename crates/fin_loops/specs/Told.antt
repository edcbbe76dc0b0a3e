-- What is told of a nest of a loop before it is stepped: that nothing is left of the body along it, or that it may be
-- stepped. It is seen where the code is made.
use Rattle.std.specs.Prelude.{◌≡◌, ℕ, Bool, true, false, not, ◌&&◌, List, Some}
use Rattle.std.specs.List.{list_all}
use Rattle.fin_looplet.specs.View.{Seen}
use Rattle.fin_simp.specs.Remaining.{are_nothing}
use Rattle.fin_simp.specs.Rest.{Access, Rest}
use Rattle.fin_simp.specs.Work.{is_in, names_var, is_one_update}
use Rattle.fin_drive.specs.Turns.{Slot, any_varies}
use Rattle.fin_style_point.specs.declared.nest.Nest.{Nest}
use Rattle.fin_style_point.specs.Parts.{all_looplets}
use Rattle.fin_style_point.specs.Steps.{AllFlat}
use Rattle.fin_descend.specs.declared.lowered.Known.TheVariants.{Nothing, Open}
use Rattle.fin_descend.specs.Promises.{Tells}
use Rattle.fin_perform.specs.Places.{left_of_all}
use Rattle.fin_loops.specs.Loops.{Loop, slots, OfLoop}
use Rattle.fin_loops.specs.Points.{seen_bare, AreSettled, marks_at_point}

-- a single update that is the same at each coordinate, by what is seen
abbrev pub is_fixed_by : ℕ → List Slot → List Seen → Rest → Bool
is_fixed_by var xs ss rest =
    is_one_update rest.kind && not (is_in rest.vars var) && list_all (λ i. not (names_var var i)) rest.targets
    && list_all (λ (a : Access). not (any_varies xs ss a.read)) rest.reads

-- what is left along a nest of runs and lookups is such an update
abbrev pub is_fixed_along : Loop → Nest → Bool
is_fixed_along l n = is_fixed_by l.var (slots l) (seen_bare (all_looplets n)) (left_of_all l.body l.here (Some (marks_at_point l n)))

pub record NestTold (l : Loop) (n : Nest) : Type 0 where
  -- nothing is left along runs and lookups
  pub nothing : AllFlat (all_looplets n) → AreSettled (slots l) (all_looplets n) → are_nothing l.body l.here (marks_at_point l n) ≡ true
      → Tells (OfLoop l) n Nothing
  -- it may be stepped, where along runs and lookups what is left isn't a fixed update
  pub stepped : (AllFlat (all_looplets n) → AreSettled (slots l) (all_looplets n) × (is_fixed_along l n ≡ false))
      → Tells (OfLoop l) n Open

abbrev pub NestsTold : Type 0
NestsTold = (l : Loop) (n : Nest) → NestTold l n
