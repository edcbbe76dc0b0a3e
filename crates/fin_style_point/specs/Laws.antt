-- What each step keeps: code that means the parts, with the code between them, means the nest; the parts weigh less; and
-- none depends on what its code changes.
use Rattle.std.specs.Prelude.{◌≡◌, ℕ, zero, suc, ◌<◌, ◌≤◌, List, length, true, false, Some, ℤ, pos, slice_index_or}
use Rattle.fin_ir.specs.declared.code.Code.{Code}
use Rattle.fin_ir.specs.declared.layout.Layout.{Layout}
use Rattle.fin_ir.specs.Machine.{Machine, seen}
use Rattle.fin_ir.specs.Meaning.{meaning, span}
use Rattle.fin_looplet.specs.View.{Store, value}
use Rattle.fin_looplet.specs.Lists.{seens}
use Rattle.fin_looplet.specs.Weight.{weight_of}
use Rattle.fin_nest.specs.Related.{Start}
use Rattle.fin_nest.specs.Nests.{Nest, Sense, views_of, Kept, Separate, Fits, Means, MeansCounted}
use Rattle.fin_nest.specs.Laws.{Onward, Flagless, AtPoints, Nothing}
use Rattle.fin_nest.specs.Senses.{runs, turns}
use Rattle.fin_style_point.specs.Steps.{Has, is_spike, spike_nest, is_shift, shift_nest, Choice, first_switch, switch_nest, switch_code, AllFlat, point_nest, for_code, times_code, nothing_code}

abbrev pub weight_in : {S : Type 0} → Nest S → ℕ
weight_in n = weight_of n.reads n.lo n.hi

-- ---- spike

pub record SpikeSplits {S : Type 0} (layout : Layout) (sense : Sense S) (n : Nest S) : Type 0 where
  pub means : (c : Code) → Means layout sense c (spike_nest n) → Means layout sense c n
  pub lighter : Has is_spike n.reads → weight_in (spike_nest n) < weight_in n
  pub separate : Separate n → Separate (spike_nest n)

abbrev pub SpikesSplit : Type 0
SpikesSplit = (s : Start) (layout : Layout)
    → ((n : Nest _) → SpikeSplits layout (runs s) n) × ((n : Nest _) → SpikeSplits layout (turns s) n)

-- ---- shift

pub record ShiftSplits {S : Type 0} (layout : Layout) (sense : Sense S) (n : Nest S) : Type 0 where
  pub means : Separate n → n.next ≤ layout.locals → (c : Code) → Means layout sense c (shift_nest n) → Means layout sense c n
  pub lighter : Has is_shift n.reads → weight_in (shift_nest n) < weight_in n
  pub separate : Separate n → Separate (shift_nest n)

abbrev pub ShiftsSplit : Type 0
ShiftsSplit = (s : Start) (layout : Layout)
    → ((n : Nest _) → ShiftSplits layout (runs s) n) × ((n : Nest _) → ShiftSplits layout (turns s) n)

-- ---- switch

pub record SwitchSplits {S : Type 0} (layout : Layout) (sense : Sense S) (n : Nest S) (c : Choice) : Type 0 where
  pub means : Separate n → n.next < layout.locals → (a b : Code) → Means layout sense a (switch_nest n c.taken)
      → Means layout sense b (switch_nest n c.others) → Means layout sense (switch_code n c.test a b) n
  pub lighter : (weight_in (switch_nest n c.taken) < weight_in n) × (weight_in (switch_nest n c.others) < weight_in n)
  pub separate : Separate n → Separate (switch_nest n c.taken) × Separate (switch_nest n c.others)

abbrev pub SwitchesSplit : Type 0
SwitchesSplit = (s : Start) (layout : Layout)
    → ((n : Nest _) (c : Choice) → first_switch n.reads ≡ Some c → SwitchSplits layout (runs s) n c)
    × ((n : Nest _) (c : Choice) → first_switch n.reads ≡ Some c → SwitchSplits layout (turns s) n c)

-- ---- run and lookup

-- the part's code has a turn counted behind it
pub record PointsSplit {S : Type 0} (layout : Layout) (sense : Sense S) (n : Nest S) : Type 0 where
  pub means : Separate n → Onward sense n.body → n.next < layout.locals → AllFlat n.reads → Flagless n → AtPoints n.body
      → (c : Code) → MeansCounted layout sense c (point_nest n) → Means layout sense (for_code n c) n
  pub lighter : AllFlat n.reads → 0 < weight_in n → weight_in (point_nest n) < weight_in n
  pub separate : AllFlat n.reads → Separate n → Separate (point_nest n)

abbrev pub LoopsSplit : Type 0
LoopsSplit = (s : Start) (layout : Layout)
    → ((n : Nest _) → PointsSplit layout (runs s) n) × ((n : Nest _) → PointsSplit layout (turns s) n)

-- ---- run and lookup, where the body does one fixed thing

abbrev pub repeats : {S : Type 0} → ℕ → (S → S) → S → S
repeats zero f s = s
repeats (suc n) f s = repeats n f (f s)

-- at each coordinate the body does the same, and where a part begins it is work besides
pub record Fixed {S : Type 0} (ts : Store) (ls : List ℤ) (n : Nest S) (work step : S → S) : Type 0 where
  pub first : (i : ℤ) (s : S) → n.body (seens (views_of ts ls n i)) true i s ≡ step (work s)
  pub more : (i : ℤ) (s : S) → n.body (seens (views_of ts ls n i)) false i s ≡ step s

-- the machine stands for the state, with what the nest keeps as it was
pub record Leads {S : Type 0} (sense : Sense S) (n : Nest S) (s : S) (m m' : Machine) : Type 0 where
  pub stands : sense.stands s m'
  pub long : length m'.locals ≡ length m.locals
  pub kept : m'.cut ≡ false → (x : ℕ) → Kept n x
      → slice_index_or m'.locals x (pos 0) ≡ slice_index_or m.locals x (pos 0)
  pub steady : m'.cut ≡ false → (t : ℕ) → n.steady t ≡ true → seen m' t ≡ seen m t

-- the code does at once what the body does along a region that isn't empty
pub record AtOnce {S : Type 0} (layout : Layout) (sense : Sense S) (n : Nest S) (c : Code) : Type 0 where
  pub work : Store → List ℤ → S → S
  pub step : Store → List ℤ → S → S
  pub fixed : (ts : Store) (m : Machine) → Fits layout ts m n → Fixed ts m.locals n (work ts m.locals) (step ts m.locals)
  pub leads : (ts : Store) (s : S) (m : Machine) → Fits layout ts m n → sense.stands s m → (k : ℕ)
      → span (value ts m.locals n.lo) (value ts m.locals n.hi) ≡ suc k
      → Leads sense n (repeats (suc k) (step ts m.locals) (work ts m.locals s)) m (meaning layout c m)

abbrev pub FixedMeans : {S : Type 0} → Layout → Sense S → Type 0
FixedMeans layout sense = (n : Nest _) (c : Code) → Separate n → AllFlat n.reads → AtOnce layout sense n c
    → Means layout sense (times_code n c) n

abbrev pub FixedIsAtOnce : Type 0
FixedIsAtOnce = (s : Start) (layout : Layout) → FixedMeans layout (runs s) × FixedMeans layout (turns s)

-- ---- nothing

abbrev pub NothingMeans : {S : Type 0} → Layout → Sense S → Type 0
NothingMeans layout sense = (n : Nest _) → Nothing sense n → Means layout sense nothing_code n

abbrev pub NothingIsSkipped : Type 0
NothingIsSkipped = (s : Start) (layout : Layout) → NothingMeans layout (runs s) × NothingMeans layout (turns s)
