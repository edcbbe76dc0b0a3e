-- What the heads of a nest's looplets tell is seen at each of its coordinates.
use Rattle.std.specs.Prelude.{◌≡◌, Bool, true, List, map, Some}
use Rattle.fin_ast.specs.declared.tree.Stmt.{Stmt}
use Rattle.fin_ast.specs.Literals.{all_hold, is_worded_stmt}
use Rattle.fin_stage.specs.Staged.{Run}
use Rattle.fin_nest.specs.Courses.{Behind, nest_with}
use Rattle.fin_style_point.specs.declared.nest.Nest.{Nest}
use Rattle.fin_style_point.specs.Parts.{all_looplets, course_of}
use Rattle.fin_simp.specs.declared.facts.Facts.{Facts}
use Rattle.fin_simp.specs.Facts.{marks}
use Rattle.fin_simp.specs.Left.{Marks}
use Rattle.fin_simp.specs.Numbered.{Here}
use Rattle.fin_simp.specs.Remaining.{are_nothing}
use Rattle.fin_simp.specs.Wording.{KnowsWords}
use Rattle.fin_simp.specs.Moving.{worked_all}
use Rattle.fin_simp.specs.Work.{World, rests_in}
use Rattle.fin_drive.specs.Turns.{Watched}
use Rattle.fin_drive.specs.Bodies.{NothingSeen}
use Rattle.fin_known.specs.Telling.{marks_told, slots_of}
use Rattle.fin_known.specs.Words.{AllWorded}

-- A loop of a program in a run, where that is known around it; its body has words for literals, and stands where its
-- first read and test have those numbers. The nest's looplets are for its reads, of which the loop drives some, and
-- for its masks; their fills are words.
pub record IsWatched (x : Watched) (around : Facts) (ds : List Bool) (body : List Stmt) (h : Here) (n : Nest) : Type 0 where
  pub slots : x.slots ≡ slots_of ds n
  pub around_is : x.around ≡ marks around
  pub words : KnowsWords (marks around)
  pub worded : AllWorded (all_looplets n)
  pub literals : all_hold (map is_worded_stmt body) ≡ true
  pub world : World
  pub rest : x.rest ≡ (λ (m : Marks). rests_in (Some m) (worked_all world body h))

-- where by what is told nothing is left of the body, nothing is left of it at any coordinate
abbrev pub HeadsTellNothing : Type 0
HeadsTellNothing = (x : Watched) (around : Facts) (ds : List Bool) (body : List Stmt) (h : Here) (n : Nest) (b : Behind Run)
    → IsWatched x around ds body h n → are_nothing body h (marks_told around ds n) ≡ true
    → NothingSeen x (nest_with b (course_of n))
