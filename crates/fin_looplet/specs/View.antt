-- The meaning of a looplet: what is seen at each coordinate of a region, and where its parts end.
use Rattle.std.specs.Prelude.{◌≡◌, ℕ, ◌+◌, ◌-◌, List, length, filter, Bool, true, false, ◌||◌, ◌&&◌, if◌then◌else◌, ℤ, pos, ◌+ℤ◌, ◌-ℤ◌, ◌<ℤ◌, int_lt, int_le, slice_set}
use Rattle.std.specs.List.{range_with_len}
use Rattle.fin_ir.specs.declared.expression.IExpr.{IExpr}
use Rattle.fin_ir.specs.Machine.{Tensor}
use Rattle.fin_ir.specs.Meaning.{span}
use Rattle.fin_ir.specs.Value.{value_of, is_off}
use Rattle.fin_looplet.specs.declared.looplet.Leaf.{Leaf}
use Rattle.fin_looplet.specs.declared.looplet.Leaf.TheVariants.{Fill, Value, Sub}
use Rattle.fin_looplet.specs.declared.looplet.Looplet.{Looplet, Row_of-Phase, end_of-Phase, more_of-Phase, Row_of-Walker, end_of-Walker, more_of-Walker, Row_of-Case, end_of-Case, more_of-Case, end_of-Looplet, more_of-Looplet}
use Rattle.fin_looplet.specs.declared.looplet.Looplet.TheVariants.{Run, Spike, Lookup, Sequence', Stepper', Jumper', Switch', Shift'}

-- the tensors that loads read
abbrev pub Store : Type 0
Store = ℕ → Tensor

abbrev pub value : Store → List ℤ → IExpr → ℤ
value ts ls e = value_of e ts ls

-- ---- what a leaf is in given locals

-- the fill of a gap, a word, a position in a level of a tensor, or no position
pub data Sight : Type 0 where
  gap : ℤ → Sight
  word : ℤ → Sight
  position : ℕ → ℕ → ℤ → Sight
  absent : Sight

abbrev pub leaf_sight : Store → List ℤ → Leaf → Sight
leaf_sight ts ls (Fill f) = gap f
leaf_sight ts ls (Value e) = word (value ts ls e)
leaf_sight ts ls (Sub tensor level place there) = if is_off (value ts ls there) then absent else position tensor level (value ts ls place)

-- what is seen at a coordinate; it varies where a lookup gives it
pub record Seen : Type 0 where
  pub sight : Sight
  pub varies : Bool

-- The same, with whether a part of the looplet ends after the coordinate, and whether a walker's child does.
pub record View : Type 0 where
  pub seen : Seen
  pub ends : Bool
  pub stop : Bool

abbrev pub plain : Bool → Sight → View
plain varies sight = record { seen = record { sight = sight; varies = varies }; ends = false; stop = false }

-- where no part serves the coordinate; what is seen there says nothing
abbrev pub nowhere : View
nowhere = plain false (word (pos 0))

-- in a part that ends after the coordinate or not, a walker's child or another one
abbrev pub ended : Bool → Bool → View → View
ended here walks v = record { seen = v.seen; ends = here || v.ends; stop = (here && walks) || v.stop }

-- ---- the meaning of a looplet

-- the locals in which a walker's child stands at a coordinate
abbrev pub at_step : Store → List ℤ → ℕ → IExpr → ℤ → List ℤ
at_step ts ls cursor seek i = slice_set ls cursor (value ts (slice_set ls (cursor + 1) i) seek)

-- A looplet in given locals, where its region ends at `end`, at the coordinate i.
abbrev mutual
  pub view : Store → List ℤ → Looplet → ℤ → ℤ → View
  view ts ls (Run leaf) end i = plain false (leaf_sight ts ls leaf)
  view ts ls (Spike body tail) end i =
      if int_lt (i +ℤ pos 1) end
      then ended (int_le end (i +ℤ pos 2)) false (plain false (leaf_sight ts ls body))
      else plain false (leaf_sight ts ls tail)
  view ts ls (Lookup coord leaf) end i = plain true (leaf_sight ts (slice_set ls coord i) leaf)
  view ts ls (Sequence' n phases) end i = view_phases ts ls phases i
  view ts ls (Stepper' p walker) end i = view_walker ts ls walker i
  view ts ls (Jumper' p walker) end i = view_walker ts ls walker i
  view ts ls (Switch' n cases) end i = view_cases ts ls cases end i
  view ts ls (Shift' by p (more_of-Looplet child end_of-Looplet)) end i = view ts ls child (end -ℤ value ts ls by) (i -ℤ value ts ls by)

  -- the first phase whose stop is over the coordinate
  pub view_phases : {n : _} → Store → List ℤ → Row_of-Phase n → ℤ → View
  view_phases ts ls end_of-Phase i = nowhere
  view_phases ts ls (more_of-Phase stop child rest) i =
      if int_lt i (value ts ls stop)
      then ended (int_le (value ts ls stop) (i +ℤ pos 1)) false (view ts ls child (value ts ls stop) i)
      else view_phases ts ls rest i

  -- the child with the cursor that `seek` gives
  pub view_walker : {n : _} → Store → List ℤ → Row_of-Walker n → ℤ → View
  view_walker ts ls end_of-Walker i = nowhere
  view_walker ts ls (more_of-Walker cursor seek stop child rest) i =
      ended (int_le (value ts (at_step ts ls cursor seek i) stop) (i +ℤ pos 1)) true
      (view ts (at_step ts ls cursor seek i) child (value ts (at_step ts ls cursor seek i) stop) i)

  -- the first case whose test isn't 0
  pub view_cases : {n : _} → Store → List ℤ → Row_of-Case n → ℤ → ℤ → View
  view_cases ts ls end_of-Case end i = nowhere
  view_cases ts ls (more_of-Case test child rest) end i =
      if is_off (value ts ls test) then view_cases ts ls rest end i else view ts ls child end i

-- ---- where parts end inside a region

-- a part ends at the number at
pub record IsBreak (ts : Store) (ls : List ℤ) (l : Looplet) (lo hi at : ℤ) : Type 0 where
  pub after : lo <ℤ at
  pub before : at <ℤ hi
  pub ends : (view ts ls l hi (at -ℤ pos 1)).ends ≡ true

-- and it is a walker's child
pub record IsStop (ts : Store) (ls : List ℤ) (l : Looplet) (lo hi at : ℤ) : Type 0 where
  pub after : lo <ℤ at
  pub before : at <ℤ hi
  pub stops : (view ts ls l hi (at -ℤ pos 1)).stop ≡ true

-- how many stops there are
abbrev pub stops : Store → List ℤ → Looplet → ℤ → ℤ → ℕ
stops ts ls l lo hi = length (filter (λ k. (view ts ls l hi (lo +ℤ pos k)).stop) (range_with_len 0 (span lo hi - 1)))
