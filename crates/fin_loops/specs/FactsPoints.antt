-- Along runs and lookups what the heads of a nest's looplets tell is what is known at each of its coordinates.
use Rattle.std.specs.Prelude.{◌≡◌, Bool, true, List}
use Rattle.std.specs.List.{list_all}
use Rattle.fin_looplet.specs.Weight.{is_run}
use Rattle.fin_simp.specs.declared.facts.Facts.{Facts}
use Rattle.fin_style_point.specs.declared.nest.Nest.{Nest}
use Rattle.fin_style_point.specs.Parts.{all_looplets}
use Rattle.fin_style_point.specs.Steps.{AllFlat}
use Rattle.fin_known.specs.Telling.{marks_told}
use Rattle.fin_loops.specs.Facts.{KnowsOf}
use Rattle.fin_loops.specs.Loops.{Loop, slots}
use Rattle.fin_loops.specs.Points.{AreSettled, marks_at_point}

-- what is told is what is known at each coordinate, and the masks are numbers
pub record IsKnown (l : Loop) (facts : Facts) (ds : List Bool) (n : Nest) : Type 0 where
  pub marks : marks_told facts ds n ≡ marks_at_point l n
  pub settled : AreSettled (slots l) (all_looplets n)

-- along runs and lookups, and so where all have come to runs
pub record PointIsTold (l : Loop) (facts : Facts) (ds : List Bool) (n : Nest) : Type 0 where
  pub flat : AllFlat (all_looplets n) → IsKnown l facts ds n
  pub runs : list_all is_run (all_looplets n) ≡ true → IsKnown l facts ds n

abbrev pub PointsAreTold : Type 0
PointsAreTold = (l : Loop) (facts : Facts) (ds : List Bool) (n : Nest) → KnowsOf l facts ds n → PointIsTold l facts ds n
