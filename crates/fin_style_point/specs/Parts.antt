-- The parts that each step makes of a nest of the program, and the frame for their codes.
use Rattle.std.specs.Prelude.{◌+◌, List, [], ◌∷◌, ◌++◌, map, Bool, true, not, ◌&&◌, ◌||◌, if◌then◌else◌, Option, Some, None, pos}
use Rattle.fin_ir.specs.declared.expression.IExpr.{IExpr}
use Rattle.fin_ir.specs.declared.expression.IExpr.TheVariants.{Num, Local}
use Rattle.fin_ir.specs.declared.code.Code.{Code}
use Rattle.fin_ir.specs.declared.code.Code.TheVariants.{Skip, Seq, ForLoop}
use Rattle.fin_looplet.specs.declared.looplet.Case.{Case}
use Rattle.fin_looplet.specs.declared.looplet.Looplet.{Looplet}
use Rattle.fin_looplet.specs.Cut.{plus, cut}
use Rattle.fin_nest.specs.declared.entries.Numbered.{Numbered}
use Rattle.fin_nest.specs.Entries.{looplets, with_looplet}
use Rattle.fin_nest.specs.Courses.{Course}
use Rattle.fin_nest.specs.Styles.{Style, shift, switch, spike, has}
use Rattle.fin_style_point.specs.declared.nest.Nest.{Nest}
use Rattle.fin_style_point.specs.declared.nest.Parts.{Parts}
use Rattle.fin_style_point.specs.declared.nest.Branch.{Branch}
use Rattle.fin_style_point.specs.declared.nest.Branch.TheVariants.{Taken, Others}
use Rattle.fin_style_point.specs.Steps.{unshifted, nothing_there, switch_of, is_switch, Alternatives, alternatives, either_code, held, coordinates, hold}

-- the looplets of the reads, and then those of the masks
abbrev pub all_looplets : Nest → List Looplet
all_looplets n = looplets n.reads ++ looplets n.masks

abbrev pub course_of : Nest → Course
course_of n = record { var = n.var; lo = n.lo; hi = n.hi; next = n.next; reads = all_looplets n }

abbrev pub with_looplets : Nest → List Numbered → List Numbered → Nest
with_looplets n reads masks = record n { reads = reads; masks = masks }

abbrev pub one_part : Code → Nest → Parts
one_part frame part = record { frame = frame; nests = part ∷ [] }

-- ---- spikes and shifts

abbrev pub spike_part : Nest → Nest
spike_part n = with_looplets n (map (with_looplet (cut n.hi)) n.reads) (map (with_looplet (cut n.hi)) n.masks)

abbrev pub shift_part : Nest → Nest
shift_part n = with_looplets n (map (with_looplet unshifted) n.reads) (map (with_looplet unshifted) n.masks)

-- ---- switches

abbrev pub side : Branch → Alternatives → Looplet
side Taken a = a.taken
side Others a = a.others

-- a row of cases, as alternatives
abbrev pub alternatives_of : List Case → Alternatives
alternatives_of [] = record { test = Num (pos 0); taken = nothing_there; others = nothing_there }
alternatives_of (c ∷ cs) = record { test = c.test; taken = c.child; others = switch_of cs }

abbrev pub side_of : Branch → Option Alternatives → Looplet → Looplet
side_of branch None l = l
side_of branch (Some a) l = side branch a

-- a switch by one of its sides, where the first one is still to come
abbrev pub chosen : Branch → Bool → Numbered → Numbered
chosen branch waits e = if waits then with_looplet (λ l. side_of branch (alternatives l) l) e else e

abbrev pub choose : Branch → Bool → List Numbered → List Numbered
choose branch waits [] = []
choose branch waits (e ∷ rest) = chosen branch waits e ∷ choose branch (waits && not (is_switch e.looplet)) rest

abbrev pub switch_part : Branch → Nest → Nest
switch_part branch n = record n {
  next = n.next + 1;
  reads = choose branch true n.reads;
  masks = choose branch (not (has switch (looplets n.reads))) n.masks;
}

-- the test of the first switch
abbrev pub test_or : Option Alternatives → IExpr → IExpr
test_or None other = other
test_or (Some a) other = a.test

abbrev pub test_of : Looplet → IExpr
test_of l = test_or (alternatives l) (Num (pos 0))

abbrev pub first_test : List Looplet → IExpr
first_test [] = Num (pos 0)
first_test (l ∷ rest) = if is_switch l then test_of l else first_test rest

abbrev pub nest_test : Nest → IExpr
nest_test n = if has switch (looplets n.reads) then first_test (looplets n.reads) else first_test (looplets n.masks)

abbrev pub switch_frame : Nest → Code
switch_frame n = either_code n.next (nest_test n) Skip Skip

abbrev pub switch_parts : Nest → Parts
switch_parts n = record { frame = switch_frame n; nests = switch_part Taken n ∷ switch_part Others n ∷ [] }

-- ---- runs and lookups

abbrev pub point_part : Nest → Nest
point_part n = record n {
  lo = Local n.next;
  hi = plus (Local n.next) (Num (pos 1));
  next = n.next + 1;
  reads = map (with_looplet held) n.reads;
  masks = map (with_looplet held) n.masks;
}

-- a coordinate, in the locals of the lookups
abbrev pub turn_frame : Nest → Code
turn_frame n = Seq (hold (coordinates (looplets n.reads)) (Local n.next)
    ++ (hold (coordinates (looplets n.masks)) (Local n.next) ++ Skip ∷ []))

abbrev pub loop_frame : Nest → Code
loop_frame n = ForLoop n.next n.lo n.hi (turn_frame n)

-- ---- the step of the first style that some looplet has

abbrev pub nest_has : Style → Nest → Bool
nest_has style n = has style (looplets n.reads) || has style (looplets n.masks)

abbrev pub parts_of : Nest → Parts
parts_of n =
    if nest_has shift n then one_part Skip (shift_part n)
    else if nest_has switch n then switch_parts n
    else if nest_has spike n then one_part Skip (spike_part n)
    else one_part (loop_frame n) (point_part n)
