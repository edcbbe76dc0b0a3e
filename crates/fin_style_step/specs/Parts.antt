-- The parts that each step makes of a nest of the program, and the frame for their codes.
use Rattle.std.specs.Prelude.{◌+◌, List, [], ◌∷◌, ◌++◌, map, Bool, true, not, ◌||◌, ◌&&◌, if◌then◌else◌, Option, Some, None, pos}
use Rattle.fin_ir.specs.declared.expression.IExpr.{IExpr}
use Rattle.fin_ir.specs.declared.expression.IExpr.TheVariants.{Num, Local}
use Rattle.fin_ir.specs.declared.code.Code.{Code}
use Rattle.fin_ir.specs.declared.code.Code.TheVariants.{Skip}
use Rattle.fin_looplet.specs.declared.looplet.Phase.{Phase}
use Rattle.fin_looplet.specs.declared.looplet.Walker.{Walker}
use Rattle.fin_looplet.specs.declared.looplet.Looplet.{Looplet}
use Rattle.fin_looplet.specs.Cut.{plus, cut}
use Rattle.fin_nest.specs.declared.entries.Numbered.{Numbered}
use Rattle.fin_nest.specs.Entries.{looplets, with_looplet}
use Rattle.fin_nest.specs.Courses.{Course}
use Rattle.fin_nest.specs.Styles as style
use Rattle.fin_style_step.specs.declared.nest.Nest.{Nest}
use Rattle.fin_style_step.specs.declared.nest.Parts.{Parts}
use Rattle.fin_style_step.specs.declared.nest.Kind.{Kind}
use Rattle.fin_style_step.specs.declared.nest.Kind.TheVariants as kind
use Rattle.fin_style_step.specs.Limited.{end_before, begin_behind}
use Rattle.fin_style_step.specs.Steps.{Phased, nothing_there, sequence_of, phased, divided_code, stepper, jumper, walkers, inside, steps_code, jumps_code}

-- the looplets of the reads, and then those of the masks
abbrev pub all_looplets : Nest → List Looplet
all_looplets n = looplets n.reads ++ looplets n.masks

-- some read or mask has the style
abbrev pub nest_has : style.Style → Nest → Bool
nest_has s n = style.has s (looplets n.reads) || style.has s (looplets n.masks)

abbrev pub course_of : Nest → Course
course_of n = record { var = n.var; lo = n.lo; hi = n.hi; next = n.next; reads = all_looplets n }

abbrev pub one_part : Code → Nest → Parts
one_part frame part = record { frame = frame; nests = part ∷ [] }

-- ---- sequences

-- a row of phases, by its first one
abbrev pub phased_by : List Phase → Phased
phased_by [] = record { stop = Num (pos 0); here = nothing_there; others = nothing_there }
phased_by (p ∷ ps) = record { stop = p.stop; here = cut p.stop p.child; others = sequence_of ps }

abbrev pub before_stop : IExpr → Option Phased → Looplet → Looplet
before_stop hi None l = cut hi l
before_stop hi (Some p) l = p.here

abbrev pub behind_stop : Option Phased → Looplet → Looplet
behind_stop None l = l
behind_stop (Some p) l = p.others

-- a looplet up to the stop of the first sequence and behind it, where that sequence is still to come or not
abbrev pub here_one : IExpr → Bool → Looplet → Looplet
here_one hi waits l = if waits then before_stop hi (phased l) l else cut hi l

abbrev pub others_one : Bool → Looplet → Looplet
others_one waits l = if waits then behind_stop (phased l) l else l

abbrev pub is_sequence : Looplet → Bool
is_sequence l = style.same_style style.sequence (style.head l)

-- each entry, where the first sequence is still to come up to that one
abbrev pub by_first : (Bool → Looplet → Looplet) → Bool → List Numbered → List Numbered
by_first f waits [] = []
by_first f waits (e ∷ rest) = with_looplet (f waits) e ∷ by_first f (waits && not (is_sequence e.looplet)) rest

abbrev pub here_all : IExpr → Bool → List Numbered → List Numbered
here_all hi = by_first (here_one hi)

abbrev pub others_all : Bool → List Numbered → List Numbered
others_all = by_first others_one

-- no read is a sequence, so that the first one may be a mask
abbrev pub masks_wait : Nest → Bool
masks_wait n = not (style.has style.sequence (looplets n.reads))

-- the stop of the first sequence's first phase
abbrev pub stop_of : Option Phased → Option IExpr
stop_of None = None
stop_of (Some p) = Some p.stop

abbrev pub or_else : Option IExpr → IExpr → IExpr
or_else None later = later
or_else (Some stop) later = stop

abbrev pub first_stop : List Looplet → IExpr
first_stop [] = Num (pos 0)
first_stop (l ∷ rest) = or_else (stop_of (phased l)) (first_stop rest)

abbrev pub nest_stop : Nest → IExpr
nest_stop n = if style.has style.sequence (looplets n.reads) then first_stop (looplets n.reads) else first_stop (looplets n.masks)

abbrev pub here_part : Nest → Nest
here_part n = record n {
  hi = end_before n.hi (nest_stop n) n.next;
  next = n.next + 1;
  reads = here_all n.hi true n.reads;
  masks = here_all n.hi (masks_wait n) n.masks;
}

abbrev pub others_part : Nest → Nest
others_part n = record n {
  lo = begin_behind n.lo (nest_stop n) n.next;
  next = n.next + 1;
  reads = others_all true n.reads;
  masks = others_all (masks_wait n) n.masks;
}

abbrev pub sequence_frame : Nest → Code
sequence_frame n = divided_code n.next n.lo n.hi (nest_stop n) Skip Skip

abbrev pub sequence_parts : Nest → Parts
sequence_parts n = record { frame = sequence_frame n; nests = here_part n ∷ others_part n ∷ [] }

-- ---- walkers

abbrev pub kind_of : Kind → Looplet → Option Walker
kind_of kind.Stepper = stepper
kind_of kind.Jumper = jumper

-- what a looplet is before the joint stop
abbrev pub inside_one : Kind → IExpr → Looplet → Looplet
inside_one k hi l = inside hi (kind_of k l) l

abbrev pub inside_all : Kind → IExpr → List Numbered → List Numbered
inside_all k hi = map (with_looplet (inside_one k hi))

-- those of the reads, and then those of the masks
abbrev pub nest_walkers : Kind → Nest → List Walker
nest_walkers k n = walkers (kind_of k) (looplets n.reads) ++ walkers (kind_of k) (looplets n.masks)

abbrev pub inside_nest : Kind → Nest → Nest
inside_nest k n = record n { reads = inside_all k n.hi n.reads; masks = inside_all k n.hi n.masks }

abbrev pub stepper_part : Nest → Nest
stepper_part n = record n {
  lo = Local n.next;
  hi = Local (n.next + 1);
  next = n.next + 2;
  reads = inside_all kind.Stepper n.hi n.reads;
  masks = inside_all kind.Stepper n.hi n.masks;
}

abbrev pub stepper_frame : Nest → Code
stepper_frame n = steps_code (nest_walkers kind.Stepper n) n.next n.lo n.hi Skip

abbrev pub jumper_part : Nest → Nest
jumper_part n = record n {
  lo = Local (n.next + 2);
  hi = plus (Local (n.next + 2)) (Num (pos 1));
  next = n.next + 3;
  reads = inside_all kind.Jumper n.hi n.reads;
  masks = inside_all kind.Jumper n.hi n.masks;
}

abbrev pub jumper_frame : Nest → Code
jumper_frame n = jumps_code (nest_walkers kind.Jumper n) n.next n.lo n.hi Skip

-- ---- the step of the first style that some looplet has

abbrev pub parts_of : Nest → Parts
parts_of n =
    if nest_has style.sequence n then sequence_parts n
    else if nest_has style.jumper n then one_part (jumper_frame n) (jumper_part n)
    else one_part (stepper_frame n) (stepper_part n)
