-- Properties that each leaf in a nest's looplets has, and then each leaf in those of its parts.
use Rattle.std.specs.Prelude.{◌≡◌, ◌⊎◌, ℕ, List, [], ◌∷◌, true, ℤ, pos}
use Rattle.std.specs.List.{All, list_all}
use Rattle.fin_base.specs.Words.{IsWord}
use Rattle.fin_ir.specs.declared.expression.IExpr.{IExpr}
use Rattle.fin_ir.specs.declared.expression.IExpr.TheVariants.{Num}
use Rattle.fin_looplet.specs.declared.looplet.Leaf.{Leaf}
use Rattle.fin_looplet.specs.declared.looplet.Leaf.TheVariants.{Fill, Value, Sub}
use Rattle.fin_looplet.specs.declared.looplet.Looplet.{Looplet, Row_of-Phase, end_of-Phase, more_of-Phase, Row_of-Walker, end_of-Walker, more_of-Walker, Row_of-Case, end_of-Case, more_of-Case, end_of-Looplet, more_of-Looplet}
use Rattle.fin_looplet.specs.declared.looplet.Looplet.TheVariants.{Run, Spike, Lookup, Sequence', Stepper', Jumper', Switch', Shift'}
use Rattle.fin_looplet.specs.Moved.{put_leaf, lowered}
use Rattle.fin_looplet.specs.Weight.{is_run}
use Rattle.fin_nest.specs.Entries.{looplets}
use Rattle.fin_style_point.specs.declared.nest.Nest.{Nest}
use Rattle.fin_style_point.specs.Steps.{AllFlat}
use Rattle.fin_descend.specs.Parts.{parts_of}

-- Each leaf in the looplet has the first property, however deep; under a lookup, which is a run at each coordinate, it has
-- the second one.
abbrev mutual
  pub AllLeaves : (P L : Leaf → Type 0) → Looplet → Type 0
  AllLeaves P L (Run leaf) = P leaf
  AllLeaves P L (Spike body tail) = P body × P tail
  AllLeaves P L (Lookup coord leaf) = L leaf
  AllLeaves P L (Sequence' n phases) = PhasesAllLeaves P L phases
  AllLeaves P L (Stepper' p walker) = WalkerAllLeaves P L walker
  AllLeaves P L (Jumper' p walker) = WalkerAllLeaves P L walker
  AllLeaves P L (Switch' n cases) = CasesAllLeaves P L cases
  AllLeaves P L (Shift' by p (more_of-Looplet child end_of-Looplet)) = AllLeaves P L child

  pub PhasesAllLeaves : {n : _} → (P L : Leaf → Type 0) → Row_of-Phase n → Type 0
  PhasesAllLeaves P L end_of-Phase = Unit {0}
  PhasesAllLeaves P L (more_of-Phase stop child rest) = AllLeaves P L child × PhasesAllLeaves P L rest

  pub WalkerAllLeaves : {n : _} → (P L : Leaf → Type 0) → Row_of-Walker n → Type 0
  WalkerAllLeaves P L end_of-Walker = Unit {0}
  WalkerAllLeaves P L (more_of-Walker cursor seek stop child rest) = AllLeaves P L child

  pub CasesAllLeaves : {n : _} → (P L : Leaf → Type 0) → Row_of-Case n → Type 0
  CasesAllLeaves P L end_of-Case = Unit {0}
  CasesAllLeaves P L (more_of-Case test child rest) = AllLeaves P L child × CasesAllLeaves P L rest

abbrev pub EachAllLeaves : (P L : Leaf → Type 0) → List Looplet → Type 0
EachAllLeaves P L [] = Unit {0}
EachAllLeaves P L (l ∷ rest) = AllLeaves P L l × EachAllLeaves P L rest

-- no leaf has it: looplets in which leaves under lookups have it hold no lookup
abbrev pub Never : Leaf → Type 0
Never leaf = ⊥

-- What the steps ask of a property. They make two leaves: that of a lookup that is moved along, and a gap where no phase
-- or case is left, which nothing is asked of.
pub record Lasting (P : Leaf → Type 0) : Type 0 where
  pub moved : (coord : ℕ) (by : IExpr) (leaf : Leaf) → P leaf → P (put_leaf coord (lowered coord by) leaf)
  pub nothing : P (Fill (pos 0))

-- leaves of reads have one property, leaves of masks another, and these are under no lookups
pub record HasLeaves (P Q : Leaf → Type 0) (n : Nest) : Type 0 where
  pub reads : EachAllLeaves P P (looplets n.reads)
  pub masks : EachAllLeaves Q Never (looplets n.masks)

-- of the masks' property it is enough that a gap has it, since no lookup of theirs is moved
abbrev pub PartsKeepLeaves : (P Q : Leaf → Type 0) → Type 0
PartsKeepLeaves P Q = Lasting P → Q (Fill (pos 0)) → (n : Nest) → HasLeaves P Q n → All (HasLeaves P Q) (parts_of n)

-- each is a run of a leaf with the property
abbrev pub EachRuns : (Leaf → Type 0) → List Looplet → Type 0
EachRuns P [] = Unit {0}
EachRuns P (l ∷ rest) = ((leaf : Leaf) × (l ≡ Run leaf) × P leaf) × EachRuns P rest

-- so it is with looplets that have come to runs
abbrev pub RunsKeepLeaves : (Leaf → Type 0) → Type 0
RunsKeepLeaves P = (ls : List Looplet) → list_all is_run ls ≡ true → EachAllLeaves P P ls → EachRuns P ls

-- and with flat ones that hold no lookup
abbrev pub FlatAreRuns : (Leaf → Type 0) → Type 0
FlatAreRuns P = (ls : List Looplet) → AllFlat ls → EachAllLeaves P Never ls → EachRuns P ls

-- ---- such properties

-- the fill of a gap is a word
abbrev pub LeafWorded : Leaf → Type 0
LeafWorded (Fill f) = IsWord f
LeafWorded (Value e) = Unit {0}
LeafWorded (Sub tensor level place there) = Unit {0}

-- a number; or the gap that stands where no phase of a mask is left, by which nothing is known of its test
abbrev pub IsNumberOrGap : Leaf → Type 0
IsNumberOrGap leaf = ((z : ℤ) × (leaf ≡ Value (Num z))) ⊎ (leaf ≡ Fill (pos 0))
