-- When a looplet is sound: each coordinate has a leaf, and walkers go on.
use Rattle.std.specs.Prelude.{◌≡◌, ◌+◌, ◌^◌, ◌⊎◌, List, true, false, ℤ, pos, negsuc, ◌+ℤ◌, ◌-ℤ◌, ◌≤ℤ◌, ◌<ℤ◌, int_lt, slice_set}
use Rattle.fin_ir.specs.Value.{is_off}
use Rattle.fin_looplet.specs.declared.looplet.Looplet.{Looplet, Row_of-Phase, end_of-Phase, more_of-Phase, Row_of-Walker, end_of-Walker, more_of-Walker, Row_of-Case, end_of-Case, more_of-Case, end_of-Looplet, more_of-Looplet}
use Rattle.fin_looplet.specs.declared.looplet.Looplet.TheVariants.{Run, Spike, Lookup, Sequence', Stepper', Jumper', Switch', Shift'}
use Rattle.fin_looplet.specs.View.{Store, value, at_step}

-- coordinates
abbrev pub Places : Type 1
Places = ℤ → Type 0

abbrev pub anywhere : Places
anywhere i = Unit {0}

-- The looplet is sound at the coordinate i, where it serves the coordinates `served`, and shifts move i to numbers of
-- `reach` alone.
abbrev mutual
  pub SoundWithin : Places → Store → List ℤ → Looplet → Places → ℤ → Type 0
  SoundWithin reach ts ls (Run leaf) served i = Unit {0}
  SoundWithin reach ts ls (Spike body tail) served i = Unit {0}
  SoundWithin reach ts ls (Lookup coord leaf) served i = Unit {0}
  SoundWithin reach ts ls (Sequence' n phases) served i = SoundPhases reach ts ls phases served i
  SoundWithin reach ts ls (Stepper' p walker) served i = SoundWalker reach ts ls walker served i
  SoundWithin reach ts ls (Jumper' p walker) served i = SoundWalker reach ts ls walker served i
  SoundWithin reach ts ls (Switch' n cases) served i = SoundCases reach ts ls cases served i
  SoundWithin reach ts ls (Shift' by p (more_of-Looplet child end_of-Looplet)) served i =
      reach (i -ℤ value ts ls by) × SoundWithin reach ts ls child (λ j. served (j +ℤ value ts ls by)) (i -ℤ value ts ls by)

  pub SoundPhases : {n : _} → Places → Store → List ℤ → Row_of-Phase n → Places → ℤ → Type 0
  SoundPhases reach ts ls end_of-Phase served i = ⊥
  SoundPhases reach ts ls (more_of-Phase stop child rest) served i =
      ((int_lt i (value ts ls stop) ≡ true) × SoundWithin reach ts ls child (λ j. served j × (j <ℤ value ts ls stop)) i)
      ⊎ ((int_lt i (value ts ls stop) ≡ false) × SoundPhases reach ts ls rest served i)

  -- the stop is over the coordinate, and `seek` gives the same for each further one before that stop
  pub SoundWalker : {n : _} → Places → Store → List ℤ → Row_of-Walker n → Places → ℤ → Type 0
  SoundWalker reach ts ls end_of-Walker served i = ⊥
  SoundWalker reach ts ls (more_of-Walker cursor seek stop child rest) served i =
      (i <ℤ value ts (at_step ts ls cursor seek i) stop)
      × (((j : ℤ) → i ≤ℤ j → served j → j <ℤ value ts (at_step ts ls cursor seek i) stop → value ts (slice_set ls (cursor + 1) j) seek ≡ value ts (slice_set ls (cursor + 1) i) seek)
      × SoundWithin reach ts (at_step ts ls cursor seek i) child (λ j. served j × (j <ℤ value ts (at_step ts ls cursor seek i) stop)) i)

  pub SoundCases : {n : _} → Places → Store → List ℤ → Row_of-Case n → Places → ℤ → Type 0
  SoundCases reach ts ls end_of-Case served i = ⊥
  SoundCases reach ts ls (more_of-Case test child rest) served i =
      ((is_off (value ts ls test) ≡ true) × SoundCases reach ts ls rest served i)
      ⊎ ((is_off (value ts ls test) ≡ false) × SoundWithin reach ts ls child served i)

abbrev pub Sound : Store → List ℤ → Looplet → Places → ℤ → Type 0
Sound = SoundWithin anywhere

-- the looplet is sound in a region
abbrev pub SoundIn : Store → List ℤ → Looplet → ℤ → ℤ → Type 0
SoundIn ts ls l lo hi = (i : ℤ) → lo ≤ℤ i → i <ℤ hi → Sound ts ls l (λ j. j <ℤ hi) i

-- ---- how far shifts may move

-- a number that differs from the coordinate i by at most 2^42
abbrev pub Reach : ℤ → Places
Reach i z = ((i -ℤ pos (2 ^ 42)) ≤ℤ z) × (z ≤ℤ (i +ℤ pos (2 ^ 42)))

-- a coordinate of a region between 0 and 2^40, or a number in reach of one
abbrev pub Near : Places
Near z = (negsuc (2 ^ 42) ≤ℤ z) × (z ≤ℤ pos (2 ^ 42 + 2 ^ 41))
