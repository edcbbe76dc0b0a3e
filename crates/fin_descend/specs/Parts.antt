-- The parts of a nest by the step of its style and the frame for their codes, whichever crate steps it.
use Rattle.std.specs.Prelude.{ℕ, ◌≤◌, max, List, [], ◌∷◌, map, if◌then◌else◌}
use Rattle.std.specs.List.{All}
use Rattle.fin_ir.specs.declared.code.Code.{Code}
use Rattle.fin_nest.specs.Courses.{course_weight}
use Rattle.fin_nest.specs.Styles.{style_of, is_point_style}
use Rattle.fin_style_point.specs.declared.nest.Nest.{Nest}
use Rattle.fin_style_point.specs.Parts as points
use Rattle.fin_style_step.specs.declared.nest.Nest as stepping
use Rattle.fin_style_step.specs.Parts as steps

-- the same nest for the stepping styles
abbrev pub as_stepping : Nest → stepping.Nest
as_stepping n = record {
  body = n.body;
  var = n.var;
  lo = n.lo;
  hi = n.hi;
  next = n.next;
  reads = n.reads;
  masks = n.masks;
}

abbrev pub as_point : stepping.Nest → Nest
as_point n = record {
  body = n.body;
  var = n.var;
  lo = n.lo;
  hi = n.hi;
  next = n.next;
  reads = n.reads;
  masks = n.masks;
}

abbrev pub weight_in : Nest → ℕ
weight_in n = course_weight (points.course_of n)

-- the greatest weight of some nests
abbrev pub heaviest : List Nest → ℕ
heaviest [] = 0
heaviest (n ∷ rest) = max (weight_in n) (heaviest rest)

-- what the step of its style leaves of a nest
abbrev pub parts_of : Nest → List Nest
parts_of n =
    if is_point_style (style_of (points.all_looplets n)) then (points.parts_of n).nests
    else map as_point (steps.parts_of (as_stepping n)).nests

-- the code of the step around those of the parts
abbrev pub frame_of : Nest → Code
frame_of n =
    if is_point_style (style_of (points.all_looplets n)) then (points.parts_of n).frame
    else (steps.parts_of (as_stepping n)).frame

-- the free locals of each part are some of those of the nest
abbrev pub PartsComeLater : Type 0
PartsComeLater = (n : Nest) → All (λ q. n.next ≤ q.next) (parts_of n)
