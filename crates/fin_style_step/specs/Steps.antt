-- The steps of the stepping styles: each from a nest to its parts and to the code between them.
use Rattle.std.specs.Prelude.{◌≡◌, ◌⊎◌, ℕ, ◌+◌, List, [], ◌∷◌, ◌++◌, map, Option, Some, None, ℤ, pos}
use Rattle.fin_base.specs.declared.terms.Op.TheVariants as op
use Rattle.fin_ir.specs.declared.expression.IExpr.{IExpr}
use Rattle.fin_ir.specs.declared.expression.IExpr.TheVariants.{Num, Local, Two}
use Rattle.fin_ir.specs.declared.code.Code.{Code}
use Rattle.fin_ir.specs.declared.code.Code.TheVariants.{Seq, Assign, StepLoop}
use Rattle.fin_looplet.specs.declared.looplet.Leaf.TheVariants.{Fill}
use Rattle.fin_looplet.specs.declared.looplet.Phase.{Phase}
use Rattle.fin_looplet.specs.declared.looplet.Walker.{Walker}
use Rattle.fin_looplet.specs.declared.looplet.Looplet.{Looplet, Row_of-Phase, end_of-Phase, more_of-Phase, Row_of-Walker, end_of-Walker, more_of-Walker}
use Rattle.fin_looplet.specs.declared.looplet.Looplet.TheVariants.{Run, Spike, Lookup, Sequence, Sequence', Stepper', Jumper', Switch', Shift'}
use Rattle.fin_looplet.specs.View.{Store, value, at_step}
use Rattle.fin_looplet.specs.Cut.{plus, before, cut}
use Rattle.fin_looplet.specs.Lists.{phase_list}
use Rattle.fin_nest.specs.Nests.{Nest}
use Rattle.fin_style_step.specs.Limited.{end_before, begin_behind}

-- ---- sequence: the first one, by its first phase; the region is cut where that phase stops

-- no leaf is asked for there
abbrev pub nothing_there : Looplet
nothing_there = Run (Fill (pos 0))

-- a sequence by its first phase: the child, cut at the phase's stop, and what the other phases make
pub record Phased : Type 0 where
  pub stop : IExpr
  pub here : Looplet
  pub others : Looplet

abbrev pub sequence_of : List Phase → Looplet
sequence_of [] = nothing_there
sequence_of (p ∷ ps) = Sequence (p ∷ ps)

abbrev pub first_phase : {n : _} → Row_of-Phase n → Phased
first_phase end_of-Phase = record { stop = Num (pos 0); here = nothing_there; others = nothing_there }
first_phase (more_of-Phase stop child rest) = record { stop = stop; here = cut stop child; others = sequence_of (phase_list rest) }

abbrev pub phased : Looplet → Option Phased
phased (Run leaf) = None
phased (Spike body tail) = None
phased (Lookup coord leaf) = None
phased (Sequence' n phases) = Some (first_phase phases)
phased (Stepper' p walker) = None
phased (Jumper' p walker) = None
phased (Switch' n cases) = None
phased (Shift' by p child) = None

-- A list by its first sequence: up to the phase's stop, where other looplets are cut at the region's end, and behind it.
pub record Division : Type 0 where
  pub stop : IExpr
  pub here : List Looplet
  pub others : List Looplet

abbrev pub here_or_later : IExpr → Option Phased → Looplet → List Looplet → Option Division → Option Division
here_or_later hi (Some p) l rest later = Some (record { stop = p.stop; here = p.here ∷ map (cut hi) rest; others = p.others ∷ rest })
here_or_later hi None l rest None = None
here_or_later hi None l rest (Some d) = Some (record { stop = d.stop; here = cut hi l ∷ d.here; others = l ∷ d.others })

abbrev pub first_sequence : IExpr → List Looplet → Option Division
first_sequence hi [] = None
first_sequence hi (l ∷ rest) = here_or_later hi (phased l) l rest (first_sequence hi rest)

-- the two parts meet in a local, of which what is known is written there
abbrev pub here_nest : {S : Type 0} → Nest S → IExpr → List Looplet → Nest S
here_nest n stop reads = record n { hi = end_before n.hi stop n.next; next = n.next + 1; reads = reads }

abbrev pub others_nest : {S : Type 0} → Nest S → IExpr → List Looplet → Nest S
others_nest n stop reads = record n { lo = begin_behind n.lo stop n.next; next = n.next + 1; reads = reads }

-- the number in the region that is nearest to the stop
abbrev pub divide_at : IExpr → IExpr → IExpr → IExpr
divide_at lo hi stop = Two op.Max lo (Two op.Min stop hi)

abbrev pub divided_code : ℕ → IExpr → IExpr → IExpr → Code → Code → Code
divided_code local lo hi stop here others = Seq (Assign local (divide_at lo hi stop) ∷ here ∷ others ∷ [])

abbrev pub sequence_code : {S : Type 0} → Nest S → IExpr → Code → Code → Code
sequence_code n stop here others = divided_code n.next n.lo n.hi stop here others

-- ---- walkers of a kind, at the head of looplets

abbrev pub walker_of : {n : _} → Row_of-Walker n → Option Walker
walker_of end_of-Walker = None
walker_of (more_of-Walker cursor seek stop child rest) = Some (record { cursor = cursor; seek = seek; stop = stop; child = child })

abbrev pub stepper : Looplet → Option Walker
stepper (Run leaf) = None
stepper (Spike body tail) = None
stepper (Lookup coord leaf) = None
stepper (Sequence' n phases) = None
stepper (Stepper' p walker) = walker_of walker
stepper (Jumper' p walker) = None
stepper (Switch' n cases) = None
stepper (Shift' by p child) = None

abbrev pub jumper : Looplet → Option Walker
jumper (Run leaf) = None
jumper (Spike body tail) = None
jumper (Lookup coord leaf) = None
jumper (Sequence' n phases) = None
jumper (Stepper' p walker) = None
jumper (Jumper' p walker) = walker_of walker
jumper (Switch' n cases) = None
jumper (Shift' by p child) = None

abbrev pub listed : Option Walker → List Walker → List Walker
listed None ws = ws
listed (Some w) ws = w ∷ ws

abbrev pub walkers : (Looplet → Option Walker) → List Looplet → List Walker
walkers kind [] = []
walkers kind (l ∷ rest) = listed (kind l) (walkers kind rest)

abbrev pub Among : Walker → List Walker → Type 0
Among w [] = ⊥
Among w (v ∷ vs) = (w ≡ v) ⊎ Among w vs

-- the stop at a coordinate
abbrev pub stop_at : Store → List ℤ → Walker → ℤ → ℤ
stop_at ts ls w i = value ts (at_step ts ls w.cursor w.seek i) w.stop

-- each walker's coordinate, and then its cursor
abbrev pub place : List Walker → IExpr → List Code
place [] at = []
place (w ∷ rest) at = Assign (w.cursor + 1) at ∷ Assign w.cursor w.seek ∷ place rest at

-- before its stop a walker of the kind is its child; other looplets are cut at the region's end
abbrev pub inside : IExpr → Option Walker → Looplet → Looplet
inside hi None l = cut hi l
inside hi (Some w) l = cut w.stop w.child

abbrev pub insides : (Looplet → Option Walker) → IExpr → List Looplet → List Looplet
insides kind hi [] = []
insides kind hi (l ∷ rest) = inside hi (kind l) l ∷ insides kind hi rest

-- ---- stepper: from one stop to the next, which is the least one, or the region's end

abbrev pub least : List Walker → IExpr → IExpr
least [] hi = hi
least (w ∷ rest) hi = least rest (Two op.Min w.stop hi)

abbrev pub stepper_nest : {S : Type 0} → Nest S → Nest S
stepper_nest n = record n {
  lo = Local n.next;
  hi = Local (n.next + 1);
  next = n.next + 2;
  reads = insides stepper n.hi n.reads;
}

-- the part's code from one local to the one above it, with the cursors those of the coordinate
abbrev pub steps_code : List Walker → ℕ → IExpr → IExpr → Code → Code
steps_code ws local lo hi part =
    Seq (place ws lo ++ StepLoop local (local + 1) lo hi (least ws hi) (Seq (part ∷ place ws (Local (local + 1)))) ∷ [])

abbrev pub stepper_code : {S : Type 0} → Nest S → Code → Code
stepper_code n part = steps_code (walkers stepper n.reads) n.next n.lo n.hi part

-- ---- jumper: from one stop to the greatest one, and of what is between only the last coordinate

abbrev pub greatest : List Walker → IExpr → IExpr
greatest [] from = from
greatest (w ∷ rest) from = greatest rest (Two op.Max w.stop from)

abbrev pub jumper_nest : {S : Type 0} → Nest S → Nest S
jumper_nest n = record n {
  lo = Local (n.next + 2);
  hi = plus (Local (n.next + 2)) (Num (pos 1));
  next = n.next + 3;
  reads = insides jumper n.hi n.reads;
}

-- the part's code at the last coordinate before the local `until`, with the cursors those of that coordinate
abbrev pub jump : List Walker → ℕ → ℕ → Code → List Code
jump ws until last part =
    Assign last (before (Local until)) ∷ (place ws (Local last) ++ (part ∷ place ws (Local until)))

abbrev pub jumps_code : List Walker → ℕ → IExpr → IExpr → Code → Code
jumps_code ws local lo hi part =
    Seq (place ws lo ++ StepLoop local (local + 1) lo hi (greatest ws (Num (pos 0))) (Seq (jump ws (local + 1) (local + 2) part)) ∷ [])

abbrev pub jumper_code : {S : Type 0} → Nest S → Code → Code
jumper_code n part = jumps_code (walkers jumper n.reads) n.next n.lo n.hi part
