-- Looplets whose fills are words show words in gaps.
use Rattle.std.proofs.Common.{ℤ, Bool, true, false, List, if◌then◌else◌}
use Rattle.std.specs.Prelude.{IfSome, pos, ◌+ℤ◌, ◌-ℤ◌, int_lt, int_le}
use Rattle.fin_base.specs.Words.{IsWord}
use Rattle.fin_ir.specs.Value.{is_off}
use Rattle.fin_looplet.specs.declared.looplet.Leaf.{Leaf}
use Rattle.fin_looplet.specs.declared.looplet.Leaf.TheVariants.{Fill, Value, Sub}
use Rattle.fin_looplet.specs.declared.looplet.Looplet.{Looplet, Row_of-Phase, end_of-Phase, more_of-Phase, Row_of-Walker, end_of-Walker, more_of-Walker, Row_of-Case, end_of-Case, more_of-Case, end_of-Looplet, more_of-Looplet}
use Rattle.fin_looplet.specs.declared.looplet.Looplet.TheVariants.{Run, Spike, Lookup, Sequence', Stepper', Jumper', Switch', Shift'}
use Rattle.fin_looplet.specs.View.{Store, value, Sight, absent, position, leaf_sight, View, plain, ended, at_step, view, view_phases, view_walker, view_cases}
use Rattle.fin_drive.specs.Turns.{fill_of}
use Rattle.fin_known.specs.Words.{LeafWorded, Worded, PhasesWorded, WalkerWorded, CasesWorded}

abbrev SightWorded : Sight → Type 0
SightWorded s = IfSome (fill_of s) IsWord

abbrev Shows : View → Type 0
Shows v = SightWorded v.seen.sight

nothing_there : (off : Bool) (s : Sight) → SightWorded s → SightWorded (if off then absent else s)
nothing_there true s h = tt
nothing_there false s h = h

leaf_shows : (ts : Store) (ls : List ℤ) (leaf : Leaf) → LeafWorded leaf → SightWorded (leaf_sight ts ls leaf)
leaf_shows ts ls (Fill f) h = h
leaf_shows ts ls (Value e) h = tt
leaf_shows ts ls (Sub tensor level place there) h = nothing_there (is_off (value ts ls there)) (position tensor level (value ts ls place)) tt

either : (c : Bool) (u v : View) → Shows u → Shows v → Shows (if c then u else v)
either true u v h k = h
either false u v h k = k

mutual
  pub view_shows : (ts : Store) (ls : List ℤ) (l : Looplet) (end i : ℤ) → Worded l → Shows (view ts ls l end i)
  view_shows ts ls (Run leaf) end i h = leaf_shows ts ls leaf h
  view_shows ts ls (Spike body tail) end i h =
      either (int_lt (i +ℤ pos 1) end) (ended (int_le end (i +ℤ pos 2)) false (plain false (leaf_sight ts ls body))) (plain false (leaf_sight ts ls tail))
      (leaf_shows ts ls body h.0) (leaf_shows ts ls tail h.1)
  view_shows ts ls (Lookup coord leaf) end i h = leaf_shows ts _ leaf h
  view_shows ts ls (Sequence' n phases) end i h = phases_show ts ls phases i h
  view_shows ts ls (Stepper' p walker) end i h = walker_shows ts ls walker i h
  view_shows ts ls (Jumper' p walker) end i h = walker_shows ts ls walker i h
  view_shows ts ls (Switch' n cases) end i h = cases_show ts ls cases end i h
  view_shows ts ls (Shift' by p (more_of-Looplet child end_of-Looplet)) end i h = view_shows ts ls child (end -ℤ value ts ls by) (i -ℤ value ts ls by) h

  phases_show : {n : _} (ts : Store) (ls : List ℤ) (ps : Row_of-Phase n) (i : ℤ) → PhasesWorded ps → Shows (view_phases ts ls ps i)
  phases_show ts ls end_of-Phase i h = tt
  phases_show ts ls (more_of-Phase stop child rest) i h =
      either (int_lt i (value ts ls stop)) (ended (int_le (value ts ls stop) (i +ℤ pos 1)) false (view ts ls child (value ts ls stop) i)) (view_phases ts ls rest i)
      (view_shows ts ls child (value ts ls stop) i h.0) (phases_show ts ls rest i h.1)

  walker_shows : {n : _} (ts : Store) (ls : List ℤ) (w : Row_of-Walker n) (i : ℤ) → WalkerWorded w → Shows (view_walker ts ls w i)
  walker_shows ts ls end_of-Walker i h = tt
  walker_shows ts ls (more_of-Walker cursor seek stop child rest) i h =
      view_shows ts (at_step ts ls cursor seek i) child (value ts (at_step ts ls cursor seek i) stop) i h

  cases_show : {n : _} (ts : Store) (ls : List ℤ) (cs : Row_of-Case n) (end i : ℤ) → CasesWorded cs → Shows (view_cases ts ls cs end i)
  cases_show ts ls end_of-Case end i h = tt
  cases_show ts ls (more_of-Case test child rest) end i h =
      either (is_off (value ts ls test)) (view_cases ts ls rest end i) (view ts ls child end i) (cases_show ts ls rest end i h.1) (view_shows ts ls child end i h.0)
