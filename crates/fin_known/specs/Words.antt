-- Looplets whose fills are words.
use Rattle.std.specs.Prelude.{List, [], ◌∷◌}
use Rattle.fin_base.specs.Words.{IsWord}
use Rattle.fin_looplet.specs.declared.looplet.Leaf.{Leaf}
use Rattle.fin_looplet.specs.declared.looplet.Leaf.TheVariants.{Fill, Value, Sub}
use Rattle.fin_looplet.specs.declared.looplet.Looplet.{Looplet, Row_of-Phase, end_of-Phase, more_of-Phase, Row_of-Walker, end_of-Walker, more_of-Walker, Row_of-Case, end_of-Case, more_of-Case, end_of-Looplet, more_of-Looplet}
use Rattle.fin_looplet.specs.declared.looplet.Looplet.TheVariants.{Run, Spike, Lookup, Sequence', Stepper', Jumper', Switch', Shift'}

abbrev pub LeafWorded : Leaf → Type 0
LeafWorded (Fill f) = IsWord f
LeafWorded (Value e) = Unit {0}
LeafWorded (Sub tensor level place there) = Unit {0}

abbrev mutual
  pub Worded : Looplet → Type 0
  Worded (Run leaf) = LeafWorded leaf
  Worded (Spike body tail) = LeafWorded body × LeafWorded tail
  Worded (Lookup coord leaf) = LeafWorded leaf
  Worded (Sequence' n phases) = PhasesWorded phases
  Worded (Stepper' p walker) = WalkerWorded walker
  Worded (Jumper' p walker) = WalkerWorded walker
  Worded (Switch' n cases) = CasesWorded cases
  Worded (Shift' by p (more_of-Looplet child end_of-Looplet)) = Worded child

  pub PhasesWorded : {n : _} → Row_of-Phase n → Type 0
  PhasesWorded end_of-Phase = Unit {0}
  PhasesWorded (more_of-Phase stop child rest) = Worded child × PhasesWorded rest

  pub WalkerWorded : {n : _} → Row_of-Walker n → Type 0
  WalkerWorded end_of-Walker = Unit {0}
  WalkerWorded (more_of-Walker cursor seek stop child rest) = Worded child

  pub CasesWorded : {n : _} → Row_of-Case n → Type 0
  CasesWorded end_of-Case = Unit {0}
  CasesWorded (more_of-Case test child rest) = Worded child × CasesWorded rest

abbrev pub AllWorded : List Looplet → Type 0
AllWorded [] = Unit {0}
AllWorded (l ∷ rest) = Worded l × AllWorded rest
