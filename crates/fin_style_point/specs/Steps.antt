-- The steps of the point styles: each from a nest to its parts and to the code between them.
use Rattle.std.specs.Prelude.{◌≡◌, ◌⊎◌, ℕ, ◌+◌, List, [], ◌∷◌, ◌++◌, ◌||◌, map, Bool, true, false, not, if◌then◌else◌, Option, Some, None, pos}
use Rattle.fin_base.specs.declared.terms.Op.TheVariants as op
use Rattle.fin_ir.specs.declared.expression.IExpr.{IExpr}
use Rattle.fin_ir.specs.declared.expression.IExpr.TheVariants.{Num, Local, Two}
use Rattle.fin_ir.specs.Value.{is_off}
use Rattle.fin_ir.specs.declared.code.Code.{Code}
use Rattle.fin_ir.specs.declared.code.Code.TheVariants.{Skip, Seq, Assign, When, ForLoop}
use Rattle.fin_looplet.specs.declared.looplet.Case.{Case}
use Rattle.fin_looplet.specs.declared.looplet.Leaf.TheVariants.{Fill}
use Rattle.fin_looplet.specs.declared.looplet.Looplet.{Looplet, Row_of-Case, end_of-Case, more_of-Case, end_of-Looplet, more_of-Looplet}
use Rattle.fin_looplet.specs.declared.looplet.Looplet.TheVariants.{Run, Spike, Lookup, Sequence', Stepper', Jumper', Switch, Switch', Shift'}
use Rattle.fin_looplet.specs.Cut.{plus, cut}
use Rattle.fin_looplet.specs.Moved.{moved}
use Rattle.fin_looplet.specs.Lists.{case_list}
use Rattle.fin_nest.specs.Nests.{Nest}
use Rattle.fin_nest.specs.Styles.{shift, switch, spike, run, lookup, head, same_style}

-- some looplet of the list is of the kind
abbrev pub Has : (Looplet → Bool) → List Looplet → Type 0
Has kind [] = ⊥
Has kind (l ∷ rest) = (kind l ≡ true) ⊎ Has kind rest

-- ---- spike: each one is cut at the region's end, where it is two runs

abbrev pub is_spike : Looplet → Bool
is_spike l = same_style spike (head l)

abbrev pub spike_nest : {S : Type 0} → Nest S → Nest S
spike_nest n = record n { reads = map (cut n.hi) n.reads }

-- ---- shift: each one is pushed inside, and all at once

abbrev pub is_shift : Looplet → Bool
is_shift l = same_style shift (head l)

abbrev pub unshifted : Looplet → Looplet
unshifted (Run leaf) = Run leaf
unshifted (Spike body tail) = Spike body tail
unshifted (Lookup coord leaf) = Lookup coord leaf
unshifted (Sequence' n phases) = Sequence' n phases
unshifted (Stepper' p walker) = Stepper' p walker
unshifted (Jumper' p walker) = Jumper' p walker
unshifted (Switch' n cases) = Switch' n cases
unshifted (Shift' by p (more_of-Looplet child end_of-Looplet)) = moved by child

abbrev pub shift_nest : {S : Type 0} → Nest S → Nest S
shift_nest n = record n { reads = map unshifted n.reads }

-- ---- switch: the first one, by its first case; the test's value stands in a local, so that one of the parts is run

-- no leaf is asked for there
abbrev pub nothing_there : Looplet
nothing_there = Run (Fill (pos 0))

-- a switch by its first case: the child where the test isn't 0, and where it is what the other cases make
pub record Alternatives : Type 0 where
  pub test : IExpr
  pub taken : Looplet
  pub others : Looplet

-- a literal that isn't 0
abbrev pub holds : IExpr → Bool
holds (Num n) = not (is_off n)
holds e = false

-- a row of cases; where the first one's test is a literal that holds, its child, so that no code branches on it
abbrev pub switch_of : List Case → Looplet
switch_of [] = nothing_there
switch_of (c ∷ cs) = if holds c.test then c.child else Switch (c ∷ cs)

abbrev pub first_case : {n : _} → Row_of-Case n → Alternatives
first_case end_of-Case = record { test = Num (pos 0); taken = nothing_there; others = nothing_there }
first_case (more_of-Case test child rest) = record { test = test; taken = child; others = switch_of (case_list rest) }

abbrev pub alternatives : Looplet → Option Alternatives
alternatives (Run leaf) = None
alternatives (Spike body tail) = None
alternatives (Lookup coord leaf) = None
alternatives (Sequence' n phases) = None
alternatives (Stepper' p walker) = None
alternatives (Jumper' p walker) = None
alternatives (Switch' n cases) = Some (first_case cases)
alternatives (Shift' by p child) = None

abbrev pub is_switch : Looplet → Bool
is_switch l = same_style switch (head l)

-- the first switch of a list, with the lists that have its alternatives for it
pub record Choice : Type 0 where
  pub test : IExpr
  pub taken : List Looplet
  pub others : List Looplet

abbrev pub here_or_later : Option Alternatives → Looplet → List Looplet → Option Choice → Option Choice
here_or_later (Some a) l rest later = Some (record { test = a.test; taken = a.taken ∷ rest; others = a.others ∷ rest })
here_or_later None l rest None = None
here_or_later None l rest (Some c) = Some (record { test = c.test; taken = l ∷ c.taken; others = l ∷ c.others })

abbrev pub first_switch : List Looplet → Option Choice
first_switch [] = None
first_switch (l ∷ rest) = here_or_later (alternatives l) l rest (first_switch rest)

abbrev pub switch_nest : {S : Type 0} → Nest S → List Looplet → Nest S
switch_nest n reads = record n { next = n.next + 1; reads = reads }

-- the first code where the test isn't 0, and else the second one
abbrev pub either_code : ℕ → IExpr → Code → Code → Code
either_code local test taken others =
    Seq (Assign local test ∷ When (Local local) taken ∷ When (Two op.Eq (Local local) (Num (pos 0))) others ∷ [])

abbrev pub switch_code : {S : Type 0} → Nest S → IExpr → Code → Code → Code
switch_code n test taken others = either_code n.next test taken others

-- ---- run and lookup: one coordinate after another, where each lookup is a run of what it is at that coordinate

abbrev pub is_flat : Looplet → Bool
is_flat l = same_style run (head l) || same_style lookup (head l)

abbrev pub AllFlat : List Looplet → Type 0
AllFlat [] = Unit {0}
AllFlat (l ∷ rest) = (is_flat l ≡ true) × AllFlat rest

abbrev pub held : Looplet → Looplet
held (Run leaf) = Run leaf
held (Spike body tail) = Spike body tail
held (Lookup coord leaf) = Run leaf
held (Sequence' n phases) = Sequence' n phases
held (Stepper' p walker) = Stepper' p walker
held (Jumper' p walker) = Jumper' p walker
held (Switch' n cases) = Switch' n cases
held (Shift' by p child) = Shift' by p child

-- the locals of the lookups' coordinates
abbrev pub coordinate : Looplet → List ℕ
coordinate (Run leaf) = []
coordinate (Spike body tail) = []
coordinate (Lookup coord leaf) = coord ∷ []
coordinate (Sequence' n phases) = []
coordinate (Stepper' p walker) = []
coordinate (Jumper' p walker) = []
coordinate (Switch' n cases) = []
coordinate (Shift' by p child) = []

abbrev pub coordinates : List Looplet → List ℕ
coordinates [] = []
coordinates (l ∷ rest) = coordinate l ++ coordinates rest

abbrev pub hold : List ℕ → IExpr → List Code
hold locals at = map (λ c. Assign c at) locals

abbrev pub point_nest : {S : Type 0} → Nest S → Nest S
point_nest n = record n {
  lo = Local n.next;
  hi = plus (Local n.next) (Num (pos 1));
  next = n.next + 1;
  reads = map held n.reads;
}

-- each number from `lo` on and before `hi`, in the local and in the others
abbrev pub each_code : ℕ → IExpr → IExpr → List ℕ → Code → Code
each_code local lo hi others point = ForLoop local lo hi (Seq (hold others (Local local) ++ point ∷ []))

abbrev pub for_code : {S : Type 0} → Nest S → Code → Code
for_code n point = each_code n.next n.lo n.hi (coordinates n.reads) point

-- ---- run and lookup, where the body does one fixed thing: at once, where there is a coordinate

-- the code, where there is a number from `lo` on and before `hi`
abbrev pub within_code : IExpr → IExpr → Code → Code
within_code lo hi once = When (Two op.Lt lo hi) once

abbrev pub times_code : {S : Type 0} → Nest S → Code → Code
times_code n once = within_code n.lo n.hi once

-- ---- nothing: where the body does nothing no part is left

abbrev pub nothing_code : Code
nothing_code = Skip
