-- The locals and tensors that a looplet depends on, and the locals that are its own.
use Rattle.std.specs.Prelude.{◌≡◌, ◌≢◌, ℕ, ◌+◌, ◌⊎◌}
use Rattle.fin_looplet.specs.declared.looplet.Looplet.{Looplet, Row_of-Phase, end_of-Phase, more_of-Phase, Row_of-Walker, end_of-Walker, more_of-Walker, Row_of-Case, end_of-Case, more_of-Case, end_of-Looplet, more_of-Looplet}
use Rattle.fin_looplet.specs.declared.looplet.Looplet.TheVariants.{Run, Spike, Lookup, Sequence', Stepper', Jumper', Switch', Shift'}
use Rattle.fin_looplet.specs.Names.{Names, Loads, LeafNames, LeafLoads}

-- what the looplet shows depends on the local x
abbrev mutual
  pub Free : ℕ → Looplet → Type 0
  Free x (Run leaf) = LeafNames x leaf
  Free x (Spike body tail) = LeafNames x body ⊎ LeafNames x tail
  Free x (Lookup coord leaf) = (x ≢ coord) × LeafNames x leaf
  Free x (Sequence' n phases) = FreePhases x phases
  Free x (Stepper' p walker) = FreeWalker x walker
  Free x (Jumper' p walker) = FreeWalker x walker
  Free x (Switch' n cases) = FreeCases x cases
  Free x (Shift' by p (more_of-Looplet child end_of-Looplet)) = Names x by ⊎ Free x child

  pub FreePhases : {n : _} → ℕ → Row_of-Phase n → Type 0
  FreePhases x end_of-Phase = ⊥
  FreePhases x (more_of-Phase stop child rest) = Names x stop ⊎ (Free x child ⊎ FreePhases x rest)

  pub FreeWalker : {n : _} → ℕ → Row_of-Walker n → Type 0
  FreeWalker x end_of-Walker = ⊥
  FreeWalker x (more_of-Walker cursor seek stop child rest) = ((x ≢ cursor + 1) × Names x seek) ⊎ ((x ≢ cursor) × (Names x stop ⊎ Free x child))

  pub FreeCases : {n : _} → ℕ → Row_of-Case n → Type 0
  FreeCases x end_of-Case = ⊥
  FreeCases x (more_of-Case test child rest) = Names x test ⊎ (Free x child ⊎ FreeCases x rest)

-- the looplet loads from the tensor t
abbrev mutual
  pub LoadsIn : ℕ → Looplet → Type 0
  LoadsIn t (Run leaf) = LeafLoads t leaf
  LoadsIn t (Spike body tail) = LeafLoads t body ⊎ LeafLoads t tail
  LoadsIn t (Lookup coord leaf) = LeafLoads t leaf
  LoadsIn t (Sequence' n phases) = LoadsPhases t phases
  LoadsIn t (Stepper' p walker) = LoadsWalker t walker
  LoadsIn t (Jumper' p walker) = LoadsWalker t walker
  LoadsIn t (Switch' n cases) = LoadsCases t cases
  LoadsIn t (Shift' by p (more_of-Looplet child end_of-Looplet)) = Loads t by ⊎ LoadsIn t child

  pub LoadsPhases : {n : _} → ℕ → Row_of-Phase n → Type 0
  LoadsPhases t end_of-Phase = ⊥
  LoadsPhases t (more_of-Phase stop child rest) = Loads t stop ⊎ (LoadsIn t child ⊎ LoadsPhases t rest)

  pub LoadsWalker : {n : _} → ℕ → Row_of-Walker n → Type 0
  LoadsWalker t end_of-Walker = ⊥
  LoadsWalker t (more_of-Walker cursor seek stop child rest) = Loads t seek ⊎ (Loads t stop ⊎ LoadsIn t child)

  pub LoadsCases : {n : _} → ℕ → Row_of-Case n → Type 0
  LoadsCases t end_of-Case = ⊥
  LoadsCases t (more_of-Case test child rest) = Loads t test ⊎ (LoadsIn t child ⊎ LoadsCases t rest)

-- the local is the looplet's own: a walker's cursor, the local above it, or a lookup's coordinate
abbrev mutual
  pub Owns : ℕ → Looplet → Type 0
  Owns x (Run leaf) = ⊥
  Owns x (Spike body tail) = ⊥
  Owns x (Lookup coord leaf) = x ≡ coord
  Owns x (Sequence' n phases) = OwnsPhases x phases
  Owns x (Stepper' p walker) = OwnsWalker x walker
  Owns x (Jumper' p walker) = OwnsWalker x walker
  Owns x (Switch' n cases) = OwnsCases x cases
  Owns x (Shift' by p (more_of-Looplet child end_of-Looplet)) = Owns x child

  pub OwnsPhases : {n : _} → ℕ → Row_of-Phase n → Type 0
  OwnsPhases x end_of-Phase = ⊥
  OwnsPhases x (more_of-Phase stop child rest) = Owns x child ⊎ OwnsPhases x rest

  pub OwnsWalker : {n : _} → ℕ → Row_of-Walker n → Type 0
  OwnsWalker x end_of-Walker = ⊥
  OwnsWalker x (more_of-Walker cursor seek stop child rest) = (x ≡ cursor) ⊎ ((x ≡ cursor + 1) ⊎ Owns x child)

  pub OwnsCases : {n : _} → ℕ → Row_of-Case n → Type 0
  OwnsCases x end_of-Case = ⊥
  OwnsCases x (more_of-Case test child rest) = Owns x child ⊎ OwnsCases x rest

-- the local is named by a shift inside the looplet
abbrev mutual
  pub ShiftNames : ℕ → Looplet → Type 0
  ShiftNames x (Run leaf) = ⊥
  ShiftNames x (Spike body tail) = ⊥
  ShiftNames x (Lookup coord leaf) = ⊥
  ShiftNames x (Sequence' n phases) = ShiftNamesPhases x phases
  ShiftNames x (Stepper' p walker) = ShiftNamesWalker x walker
  ShiftNames x (Jumper' p walker) = ShiftNamesWalker x walker
  ShiftNames x (Switch' n cases) = ShiftNamesCases x cases
  ShiftNames x (Shift' by p (more_of-Looplet child end_of-Looplet)) = Names x by ⊎ ShiftNames x child

  pub ShiftNamesPhases : {n : _} → ℕ → Row_of-Phase n → Type 0
  ShiftNamesPhases x end_of-Phase = ⊥
  ShiftNamesPhases x (more_of-Phase stop child rest) = ShiftNames x child ⊎ ShiftNamesPhases x rest

  pub ShiftNamesWalker : {n : _} → ℕ → Row_of-Walker n → Type 0
  ShiftNamesWalker x end_of-Walker = ⊥
  ShiftNamesWalker x (more_of-Walker cursor seek stop child rest) = ShiftNames x child

  pub ShiftNamesCases : {n : _} → ℕ → Row_of-Case n → Type 0
  ShiftNamesCases x end_of-Case = ⊥
  ShiftNamesCases x (more_of-Case test child rest) = ShiftNames x child ⊎ ShiftNamesCases x rest

-- no child of a walker owns one of the walker's two locals
abbrev mutual
  pub Nested : Looplet → Type 0
  Nested (Run leaf) = Unit {0}
  Nested (Spike body tail) = Unit {0}
  Nested (Lookup coord leaf) = Unit {0}
  Nested (Sequence' n phases) = NestedPhases phases
  Nested (Stepper' p walker) = NestedWalker walker
  Nested (Jumper' p walker) = NestedWalker walker
  Nested (Switch' n cases) = NestedCases cases
  Nested (Shift' by p (more_of-Looplet child end_of-Looplet)) = Nested child

  pub NestedPhases : {n : _} → Row_of-Phase n → Type 0
  NestedPhases end_of-Phase = Unit {0}
  NestedPhases (more_of-Phase stop child rest) = Nested child × NestedPhases rest

  pub NestedWalker : {n : _} → Row_of-Walker n → Type 0
  NestedWalker end_of-Walker = Unit {0}
  NestedWalker (more_of-Walker cursor seek stop child rest) = ((Owns cursor child → ⊥) × (Owns (cursor + 1) child → ⊥)) × Nested child

  pub NestedCases : {n : _} → Row_of-Case n → Type 0
  NestedCases end_of-Case = Unit {0}
  NestedCases (more_of-Case test child rest) = Nested child × NestedCases rest

-- What the looplet does to its own locals changes nothing that it depends on outside of them.
pub record Separate (l : Looplet) : Type 0 where
  pub nested : Nested l
  pub bound : (x : ℕ) → Owns x l → Free x l → ⊥
  pub unshifted : (x : ℕ) → Owns x l → ShiftNames x l → ⊥
