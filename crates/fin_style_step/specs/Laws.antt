-- What each step keeps: code that means the parts, with the code between them, means the nest; the parts weigh less; and
-- none depends on what its code changes.
use Rattle.std.specs.Prelude.{◌≡◌, ◌⊎◌, ◌+◌, ◌<◌, List, [], ◌∷◌, length, Bool, true, Option, Some, ℤ}
use Rattle.fin_ir.specs.declared.code.Code.{Code}
use Rattle.fin_ir.specs.declared.layout.Layout.{Layout}
use Rattle.fin_looplet.specs.declared.looplet.Walker.{Walker}
use Rattle.fin_looplet.specs.declared.looplet.Looplet.{Looplet}
use Rattle.fin_looplet.specs.View.{Seen}
use Rattle.fin_looplet.specs.Weight.{weight_of}
use Rattle.fin_nest.specs.Related.{Start}
use Rattle.fin_nest.specs.Nests.{Body, Nest, Sense, Separate, Means}
use Rattle.fin_nest.specs.Laws.{Onward}
use Rattle.fin_nest.specs.Senses.{runs, turns}
use Rattle.fin_style_step.specs.Steps.{Division, first_sequence, here_nest, others_nest, sequence_code, stepper, jumper, walkers, stepper_nest, stepper_code, jumper_nest, jumper_code}

abbrev pub Lighter : {S : Type 0} → Nest S → Nest S → Type 0
Lighter part n = weight_of part.reads part.lo part.hi < weight_of n.reads n.lo n.hi

-- ---- sequence

pub record SequenceSplits {S : Type 0} (layout : Layout) (sense : Sense S) (n : Nest S) (d : Division) : Type 0 where
  pub means : Separate n → Onward sense n.body → n.next < layout.locals → (a b : Code) → Means layout sense a (here_nest n d.stop d.here)
      → Means layout sense b (others_nest n d.stop d.others) → Means layout sense (sequence_code n d.stop a b) n
  pub lighter : Lighter (here_nest n d.stop d.here) n × Lighter (others_nest n d.stop d.others) n
  pub separate : Separate n → Separate (here_nest n d.stop d.here) × Separate (others_nest n d.stop d.others)

abbrev pub SequencesSplit : Type 0
SequencesSplit = (s : Start) (layout : Layout)
    → ((n : Nest _) (d : Division) → first_sequence n.hi n.reads ≡ Some d → SequenceSplits layout (runs s) n d)
    × ((n : Nest _) (d : Division) → first_sequence n.hi n.reads ≡ Some d → SequenceSplits layout (turns s) n d)

-- ---- stops that pay for the turns

-- stops bring nothing in
abbrev pub Idle : {S : Type 0} → Sense S → Type 0
Idle sense = (s : _) → sense.pay s ≡ s

-- the stops of each walker of the kind count
abbrev pub Counted : (Looplet → Option Walker) → List Bool → List Looplet → Type 0
Counted kind counts [] = Unit {0}
Counted kind [] (l ∷ rest) = ⊥
Counted kind (counts ∷ more) (l ∷ rest) = ((w : Walker) → kind l ≡ Some w → counts ≡ true) × Counted kind more rest

-- the stops of some walker of the kind count
abbrev pub CountsOne : (Looplet → Option Walker) → List Bool → List Looplet → Type 0
CountsOne kind counts [] = ⊥
CountsOne kind [] (l ∷ rest) = ⊥
CountsOne kind (counts ∷ more) (l ∷ rest) = ((counts ≡ true) × ((w : Walker) × (kind l ≡ Some w))) ⊎ CountsOne kind more rest

-- the body doesn't look at what a stop brings in
abbrev pub Commutes : {S : Type 0} → Sense S → Body S → Type 0
Commutes sense body = (ss : List Seen) (begins : Bool) (i : ℤ) (s : _) → body ss begins i (sense.pay s) ≡ sense.pay (body ss begins i s)

-- ---- stepper

pub record StepperSplits {S : Type 0} (layout : Layout) (sense : Sense S) (n : Nest S) : Type 0 where
  pub means : Separate n → Onward sense n.body → n.next + 1 < layout.locals → Idle sense ⊎ Counted stepper n.counts n.reads
      → (c : Code) → Means layout sense c (stepper_nest n) → Means layout sense (stepper_code n c) n
  pub lighter : 0 < length (walkers stepper n.reads) → Lighter (stepper_nest n) n
  pub separate : Separate n → Separate (stepper_nest n)

abbrev pub SteppersSplit : Type 0
SteppersSplit = (s : Start) (layout : Layout)
    → ((n : Nest _) → StepperSplits layout (runs s) n) × ((n : Nest _) → StepperSplits layout (turns s) n)

-- ---- jumper

pub record JumperSplits {S : Type 0} (layout : Layout) (sense : Sense S) (n : Nest S) : Type 0 where
  pub means : Separate n → Onward sense n.body → n.next + 2 < layout.locals → 0 < length (walkers jumper n.reads)
      → Idle sense ⊎ (CountsOne jumper n.counts n.reads × Commutes sense n.body)
      → (c : Code) → Means layout sense c (jumper_nest n) → Means layout sense (jumper_code n c) n
  pub lighter : 0 < length (walkers jumper n.reads) → Lighter (jumper_nest n) n
  pub separate : Separate n → Separate (jumper_nest n)

abbrev pub JumpersSplit : Type 0
JumpersSplit = (s : Start) (layout : Layout)
    → ((n : Nest _) → JumperSplits layout (runs s) n) × ((n : Nest _) → JumperSplits layout (turns s) n)
