-- Jumpers in looplets, and whether one may pass over a coordinate.
use Rattle.std.specs.Prelude.{◌≡◌, ◌⊎◌, List, [], ◌∷◌, false}
use Rattle.fin_looplet.specs.declared.looplet.Looplet.{Looplet, Row_of-Phase, end_of-Phase, more_of-Phase, Row_of-Walker, end_of-Walker, more_of-Walker, Row_of-Case, end_of-Case, more_of-Case, end_of-Looplet, more_of-Looplet}
use Rattle.fin_looplet.specs.declared.looplet.Looplet.TheVariants.{Run, Spike, Lookup, Sequence', Stepper', Jumper', Switch', Shift'}
use Rattle.fin_looplet.specs.View.{View}

-- a jumper stands in the looplet, however deep
abbrev mutual
  pub HoldsJumper : Looplet → Type 0
  HoldsJumper (Run leaf) = ⊥
  HoldsJumper (Spike body tail) = ⊥
  HoldsJumper (Lookup coord leaf) = ⊥
  HoldsJumper (Sequence' n phases) = PhaseHolds phases
  HoldsJumper (Stepper' p walker) = ChildHolds walker
  HoldsJumper (Jumper' p walker) = Unit {0}
  HoldsJumper (Switch' n cases) = CaseHolds cases
  HoldsJumper (Shift' by p (more_of-Looplet child end_of-Looplet)) = HoldsJumper child

  pub PhaseHolds : {n : _} → Row_of-Phase n → Type 0
  PhaseHolds end_of-Phase = ⊥
  PhaseHolds (more_of-Phase stop child rest) = HoldsJumper child ⊎ PhaseHolds rest

  pub ChildHolds : {n : _} → Row_of-Walker n → Type 0
  ChildHolds end_of-Walker = ⊥
  ChildHolds (more_of-Walker cursor seek stop child rest) = HoldsJumper child

  pub CaseHolds : {n : _} → Row_of-Case n → Type 0
  CaseHolds end_of-Case = ⊥
  CaseHolds (more_of-Case test child rest) = HoldsJumper child ⊎ CaseHolds rest

-- it has no part that a walker steps
abbrev pub Simple : Looplet → Type 0
Simple (Run leaf) = Unit {0}
Simple (Spike body tail) = Unit {0}
Simple (Lookup coord leaf) = Unit {0}
Simple (Sequence' n phases) = ⊥
Simple (Stepper' p walker) = ⊥
Simple (Jumper' p walker) = ⊥
Simple (Switch' n cases) = ⊥
Simple (Shift' by p child) = ⊥

abbrev pub SimpleChild : {n : _} → Row_of-Walker n → Type 0
SimpleChild end_of-Walker = Unit {0}
SimpleChild (more_of-Walker cursor seek stop child rest) = Simple child

-- each jumper in the looplet has a simple child, so that it stops nowhere but where that child ends
abbrev mutual
  pub SimplyJumps : Looplet → Type 0
  SimplyJumps (Run leaf) = Unit {0}
  SimplyJumps (Spike body tail) = Unit {0}
  SimplyJumps (Lookup coord leaf) = Unit {0}
  SimplyJumps (Sequence' n phases) = PhasesJump phases
  SimplyJumps (Stepper' p walker) = ChildJumps walker
  SimplyJumps (Jumper' p walker) = SimpleChild walker
  SimplyJumps (Switch' n cases) = CasesJump cases
  SimplyJumps (Shift' by p (more_of-Looplet child end_of-Looplet)) = SimplyJumps child

  pub PhasesJump : {n : _} → Row_of-Phase n → Type 0
  PhasesJump end_of-Phase = Unit {0}
  PhasesJump (more_of-Phase stop child rest) = SimplyJumps child × PhasesJump rest

  pub ChildJumps : {n : _} → Row_of-Walker n → Type 0
  ChildJumps end_of-Walker = Unit {0}
  ChildJumps (more_of-Walker cursor seek stop child rest) = SimplyJumps child

  pub CasesJump : {n : _} → Row_of-Case n → Type 0
  CasesJump end_of-Case = Unit {0}
  CasesJump (more_of-Case test child rest) = SimplyJumps child × CasesJump rest

-- ---- lists: one looplet for each read

-- some looplet that holds a jumper doesn't stop behind the coordinate of the views
abbrev pub AnyPasses : List Looplet → List View → Type 0
AnyPasses [] vs = ⊥
AnyPasses (l ∷ rest) [] = ⊥
AnyPasses (l ∷ rest) (v ∷ vs) = (HoldsJumper l × (v.stop ≡ false)) ⊎ AnyPasses rest vs

abbrev pub AllSimplyJump : List Looplet → Type 0
AllSimplyJump [] = Unit {0}
AllSimplyJump (l ∷ rest) = SimplyJumps l × AllSimplyJump rest

-- none holds a jumper
abbrev pub NoneHolds : List Looplet → Type 0
NoneHolds [] = Unit {0}
NoneHolds (l ∷ rest) = (HoldsJumper l → ⊥) × NoneHolds rest
