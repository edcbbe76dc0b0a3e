-- Sequences, walkers, switches and shifts as the program's constructors write them.
use Rattle.std.proofs.Common.{◌≡◌, ◌≢◌, ℕ, ◌+◌, ◌⊎◌, List, [], ◌∷◌, true, false, refl, arith, ℤ, pos, ◌+ℤ◌, ◌-ℤ◌, ◌≤ℤ◌, ◌<ℤ◌}
use Rattle.std.specs.Prelude.{int_lt, int_le, if◌then◌else◌, slice_set}
use denote.Hole.Carrier.{hidden}
use Rattle.fin_ir.specs.declared.expression.IExpr.{IExpr}
use Rattle.fin_ir.specs.Value.{is_off}
use Rattle.fin_looplet.specs.declared.looplet.Looplet.{Looplet}
use Rattle.fin_looplet.specs.declared.looplet.Looplet.TheVariants.{Sequence, Stepper, Jumper, Switch, Shift}
use Rattle.fin_looplet.specs.declared.looplet.Looplet.TheBlock.{shape-the_row-Phase-0, hidden-the_row-Phase-0, shape-the_row-Walker-1, hidden-the_row-Walker-1, shape-the_row-Case-2, hidden-the_row-Case-2, shape-the_row-Looplet-3, hidden-the_row-Looplet-3}
use Rattle.fin_looplet.specs.declared.looplet.Phase.{Phase}
use Rattle.fin_looplet.specs.declared.looplet.Walker.{Walker}
use Rattle.fin_looplet.specs.declared.looplet.Case.{Case}
use Rattle.fin_looplet.specs.Names.{Names, Loads}
use Rattle.fin_looplet.specs.View.{Store, value, view, nowhere, ended, at_step}
use Rattle.fin_looplet.specs.Sound.{Places, SoundWithin}
use Rattle.fin_looplet.specs.Locals.{Free, LoadsIn, Owns, ShiftNames, Nested}
use Rattle.fin_looplet.specs.Weight.{weight}

-- ---- views
module _ (ts : Store) (ls : List ℤ) where
  pub view_no_phase : (end i : ℤ) → view ts ls (Sequence []) end i ≡ nowhere
  unfolding shape-the_row-Phase-0 hidden-the_row-Phase-0 hidden
  view_no_phase end i = refl

  pub view_phase : (p : Phase) (ps : List Phase) (end i : ℤ) → view ts ls (Sequence (p ∷ ps)) end i
      ≡ (if int_lt i (value ts ls p.stop) then ended (int_le (value ts ls p.stop) (i +ℤ pos 1)) false (view ts ls p.child (value ts ls p.stop) i) else view ts ls (Sequence ps) end i)
  unfolding shape-the_row-Phase-0 hidden-the_row-Phase-0 hidden
  view_phase p ps end i = refl

  pub view_stepper : (w : Walker) (end i : ℤ) → view ts ls (Stepper w) end i
      ≡ ended (int_le (value ts (at_step ts ls w.cursor w.seek i) w.stop) (i +ℤ pos 1)) true (view ts (at_step ts ls w.cursor w.seek i) w.child (value ts (at_step ts ls w.cursor w.seek i) w.stop) i)
  unfolding shape-the_row-Walker-1 hidden-the_row-Walker-1 hidden
  view_stepper w end i = refl

  pub view_jumper : (w : Walker) (end i : ℤ) → view ts ls (Jumper w) end i
      ≡ ended (int_le (value ts (at_step ts ls w.cursor w.seek i) w.stop) (i +ℤ pos 1)) true (view ts (at_step ts ls w.cursor w.seek i) w.child (value ts (at_step ts ls w.cursor w.seek i) w.stop) i)
  unfolding shape-the_row-Walker-1 hidden-the_row-Walker-1 hidden
  view_jumper w end i = refl

  pub view_no_case : (end i : ℤ) → view ts ls (Switch []) end i ≡ nowhere
  unfolding shape-the_row-Case-2 hidden-the_row-Case-2 hidden
  view_no_case end i = refl

  pub view_case : (c : Case) (cs : List Case) (end i : ℤ) → view ts ls (Switch (c ∷ cs)) end i ≡ (if is_off (value ts ls c.test) then view ts ls (Switch cs) end i else view ts ls c.child end i)
  unfolding shape-the_row-Case-2 hidden-the_row-Case-2 hidden
  view_case c cs end i = refl

  pub view_shift : (by : IExpr) (child : Looplet) (end i : ℤ) → view ts ls (Shift by child) end i ≡ view ts ls child (end -ℤ value ts ls by) (i -ℤ value ts ls by)
  unfolding shape-the_row-Looplet-3 hidden-the_row-Looplet-3 hidden
  view_shift by child end i = refl

-- ---- soundness
module _ (reach : Places) (ts : Store) (ls : List ℤ) where
  pub sound_phase : (p : Phase) (ps : List Phase) (served : Places) (i : ℤ) → ((int_lt i (value ts ls p.stop) ≡ true) × SoundWithin reach ts ls p.child (λ j. served j × (j <ℤ value ts ls p.stop)) i) ⊎ ((int_lt i (value ts ls p.stop) ≡ false) × SoundWithin reach ts ls (Sequence ps) served i)
      → SoundWithin reach ts ls (Sequence (p ∷ ps)) served i
  unfolding shape-the_row-Phase-0 hidden-the_row-Phase-0 hidden
  sound_phase p ps served i s = s

  pub from_sound_phase : (p : Phase) (ps : List Phase) (served : Places) (i : ℤ) → SoundWithin reach ts ls (Sequence (p ∷ ps)) served i
      → ((int_lt i (value ts ls p.stop) ≡ true) × SoundWithin reach ts ls p.child (λ j. served j × (j <ℤ value ts ls p.stop)) i) ⊎ ((int_lt i (value ts ls p.stop) ≡ false) × SoundWithin reach ts ls (Sequence ps) served i)
  unfolding shape-the_row-Phase-0 hidden-the_row-Phase-0 hidden
  from_sound_phase p ps served i s = s

  pub from_sound_no_phase : (served : Places) (i : ℤ) → SoundWithin reach ts ls (Sequence []) served i → ⊥
  unfolding shape-the_row-Phase-0 hidden-the_row-Phase-0 hidden
  from_sound_no_phase served i s = s

  pub sound_stepper : (w : Walker) (served : Places) (i : ℤ) → (i <ℤ value ts (at_step ts ls w.cursor w.seek i) w.stop)
      × (((j : ℤ) → i ≤ℤ j → served j → j <ℤ value ts (at_step ts ls w.cursor w.seek i) w.stop → value ts (slice_set ls (w.cursor + 1) j) w.seek ≡ value ts (slice_set ls (w.cursor + 1) i) w.seek)
      × SoundWithin reach ts (at_step ts ls w.cursor w.seek i) w.child (λ j. served j × (j <ℤ value ts (at_step ts ls w.cursor w.seek i) w.stop)) i)
      → SoundWithin reach ts ls (Stepper w) served i
  unfolding shape-the_row-Walker-1 hidden-the_row-Walker-1 hidden
  sound_stepper w served i s = s

  pub from_sound_stepper : (w : Walker) (served : Places) (i : ℤ) → SoundWithin reach ts ls (Stepper w) served i
      → (i <ℤ value ts (at_step ts ls w.cursor w.seek i) w.stop)
      × (((j : ℤ) → i ≤ℤ j → served j → j <ℤ value ts (at_step ts ls w.cursor w.seek i) w.stop → value ts (slice_set ls (w.cursor + 1) j) w.seek ≡ value ts (slice_set ls (w.cursor + 1) i) w.seek)
      × SoundWithin reach ts (at_step ts ls w.cursor w.seek i) w.child (λ j. served j × (j <ℤ value ts (at_step ts ls w.cursor w.seek i) w.stop)) i)
  unfolding shape-the_row-Walker-1 hidden-the_row-Walker-1 hidden
  from_sound_stepper w served i s = s

  pub sound_jumper : (w : Walker) (served : Places) (i : ℤ) → (i <ℤ value ts (at_step ts ls w.cursor w.seek i) w.stop)
      × (((j : ℤ) → i ≤ℤ j → served j → j <ℤ value ts (at_step ts ls w.cursor w.seek i) w.stop → value ts (slice_set ls (w.cursor + 1) j) w.seek ≡ value ts (slice_set ls (w.cursor + 1) i) w.seek)
      × SoundWithin reach ts (at_step ts ls w.cursor w.seek i) w.child (λ j. served j × (j <ℤ value ts (at_step ts ls w.cursor w.seek i) w.stop)) i)
      → SoundWithin reach ts ls (Jumper w) served i
  unfolding shape-the_row-Walker-1 hidden-the_row-Walker-1 hidden
  sound_jumper w served i s = s

  pub from_sound_jumper : (w : Walker) (served : Places) (i : ℤ) → SoundWithin reach ts ls (Jumper w) served i
      → (i <ℤ value ts (at_step ts ls w.cursor w.seek i) w.stop)
      × (((j : ℤ) → i ≤ℤ j → served j → j <ℤ value ts (at_step ts ls w.cursor w.seek i) w.stop → value ts (slice_set ls (w.cursor + 1) j) w.seek ≡ value ts (slice_set ls (w.cursor + 1) i) w.seek)
      × SoundWithin reach ts (at_step ts ls w.cursor w.seek i) w.child (λ j. served j × (j <ℤ value ts (at_step ts ls w.cursor w.seek i) w.stop)) i)
  unfolding shape-the_row-Walker-1 hidden-the_row-Walker-1 hidden
  from_sound_jumper w served i s = s

  pub sound_case : (c : Case) (cs : List Case) (served : Places) (i : ℤ) → ((is_off (value ts ls c.test) ≡ true) × SoundWithin reach ts ls (Switch cs) served i) ⊎ ((is_off (value ts ls c.test) ≡ false) × SoundWithin reach ts ls c.child served i)
      → SoundWithin reach ts ls (Switch (c ∷ cs)) served i
  unfolding shape-the_row-Case-2 hidden-the_row-Case-2 hidden
  sound_case c cs served i s = s

  pub from_sound_case : (c : Case) (cs : List Case) (served : Places) (i : ℤ) → SoundWithin reach ts ls (Switch (c ∷ cs)) served i
      → ((is_off (value ts ls c.test) ≡ true) × SoundWithin reach ts ls (Switch cs) served i) ⊎ ((is_off (value ts ls c.test) ≡ false) × SoundWithin reach ts ls c.child served i)
  unfolding shape-the_row-Case-2 hidden-the_row-Case-2 hidden
  from_sound_case c cs served i s = s

  pub from_sound_no_case : (served : Places) (i : ℤ) → SoundWithin reach ts ls (Switch []) served i → ⊥
  unfolding shape-the_row-Case-2 hidden-the_row-Case-2 hidden
  from_sound_no_case served i s = s

  pub sound_shift : (by : IExpr) (child : Looplet) (served : Places) (i : ℤ) → reach (i -ℤ value ts ls by) × SoundWithin reach ts ls child (λ j. served (j +ℤ value ts ls by)) (i -ℤ value ts ls by)
      → SoundWithin reach ts ls (Shift by child) served i
  unfolding shape-the_row-Looplet-3 hidden-the_row-Looplet-3 hidden
  sound_shift by child served i s = s

  pub from_sound_shift : (by : IExpr) (child : Looplet) (served : Places) (i : ℤ) → SoundWithin reach ts ls (Shift by child) served i
      → reach (i -ℤ value ts ls by) × SoundWithin reach ts ls child (λ j. served (j +ℤ value ts ls by)) (i -ℤ value ts ls by)
  unfolding shape-the_row-Looplet-3 hidden-the_row-Looplet-3 hidden
  from_sound_shift by child served i s = s

-- ---- locals and tensors
module _ (x : ℕ) where
  pub free_no_phase : Free x (Sequence []) → ⊥
  unfolding shape-the_row-Phase-0 hidden-the_row-Phase-0 hidden
  free_no_phase f = f

  pub free_phase : (p : Phase) (ps : List Phase) → Names x p.stop ⊎ (Free x p.child ⊎ Free x (Sequence ps))
      → Free x (Sequence (p ∷ ps))
  unfolding shape-the_row-Phase-0 hidden-the_row-Phase-0 hidden
  free_phase p ps s = s

  pub from_free_phase : (p : Phase) (ps : List Phase) → Free x (Sequence (p ∷ ps))
      → Names x p.stop ⊎ (Free x p.child ⊎ Free x (Sequence ps))
  unfolding shape-the_row-Phase-0 hidden-the_row-Phase-0 hidden
  from_free_phase p ps s = s

  pub free_stepper : (w : Walker) → ((x ≢ w.cursor + 1) × Names x w.seek) ⊎ ((x ≢ w.cursor) × (Names x w.stop ⊎ Free x w.child))
      → Free x (Stepper w)
  unfolding shape-the_row-Walker-1 hidden-the_row-Walker-1 hidden
  free_stepper w s = s

  pub from_free_stepper : (w : Walker) → Free x (Stepper w)
      → ((x ≢ w.cursor + 1) × Names x w.seek) ⊎ ((x ≢ w.cursor) × (Names x w.stop ⊎ Free x w.child))
  unfolding shape-the_row-Walker-1 hidden-the_row-Walker-1 hidden
  from_free_stepper w s = s

  pub free_jumper : (w : Walker) → ((x ≢ w.cursor + 1) × Names x w.seek) ⊎ ((x ≢ w.cursor) × (Names x w.stop ⊎ Free x w.child))
      → Free x (Jumper w)
  unfolding shape-the_row-Walker-1 hidden-the_row-Walker-1 hidden
  free_jumper w s = s

  pub from_free_jumper : (w : Walker) → Free x (Jumper w)
      → ((x ≢ w.cursor + 1) × Names x w.seek) ⊎ ((x ≢ w.cursor) × (Names x w.stop ⊎ Free x w.child))
  unfolding shape-the_row-Walker-1 hidden-the_row-Walker-1 hidden
  from_free_jumper w s = s

  pub free_no_case : Free x (Switch []) → ⊥
  unfolding shape-the_row-Case-2 hidden-the_row-Case-2 hidden
  free_no_case f = f

  pub free_case : (c : Case) (cs : List Case) → Names x c.test ⊎ (Free x c.child ⊎ Free x (Switch cs))
      → Free x (Switch (c ∷ cs))
  unfolding shape-the_row-Case-2 hidden-the_row-Case-2 hidden
  free_case c cs s = s

  pub from_free_case : (c : Case) (cs : List Case) → Free x (Switch (c ∷ cs))
      → Names x c.test ⊎ (Free x c.child ⊎ Free x (Switch cs))
  unfolding shape-the_row-Case-2 hidden-the_row-Case-2 hidden
  from_free_case c cs s = s

  pub free_shift : (by : IExpr) (child : Looplet) → Names x by ⊎ Free x child
      → Free x (Shift by child)
  unfolding shape-the_row-Looplet-3 hidden-the_row-Looplet-3 hidden
  free_shift by child s = s

  pub from_free_shift : (by : IExpr) (child : Looplet) → Free x (Shift by child)
      → Names x by ⊎ Free x child
  unfolding shape-the_row-Looplet-3 hidden-the_row-Looplet-3 hidden
  from_free_shift by child s = s

  pub loads_no_phase : LoadsIn x (Sequence []) → ⊥
  unfolding shape-the_row-Phase-0 hidden-the_row-Phase-0 hidden
  loads_no_phase f = f

  pub loads_phase : (p : Phase) (ps : List Phase) → Loads x p.stop ⊎ (LoadsIn x p.child ⊎ LoadsIn x (Sequence ps))
      → LoadsIn x (Sequence (p ∷ ps))
  unfolding shape-the_row-Phase-0 hidden-the_row-Phase-0 hidden
  loads_phase p ps s = s

  pub from_loads_phase : (p : Phase) (ps : List Phase) → LoadsIn x (Sequence (p ∷ ps))
      → Loads x p.stop ⊎ (LoadsIn x p.child ⊎ LoadsIn x (Sequence ps))
  unfolding shape-the_row-Phase-0 hidden-the_row-Phase-0 hidden
  from_loads_phase p ps s = s

  pub loads_stepper : (w : Walker) → Loads x w.seek ⊎ (Loads x w.stop ⊎ LoadsIn x w.child)
      → LoadsIn x (Stepper w)
  unfolding shape-the_row-Walker-1 hidden-the_row-Walker-1 hidden
  loads_stepper w s = s

  pub from_loads_stepper : (w : Walker) → LoadsIn x (Stepper w)
      → Loads x w.seek ⊎ (Loads x w.stop ⊎ LoadsIn x w.child)
  unfolding shape-the_row-Walker-1 hidden-the_row-Walker-1 hidden
  from_loads_stepper w s = s

  pub loads_jumper : (w : Walker) → Loads x w.seek ⊎ (Loads x w.stop ⊎ LoadsIn x w.child)
      → LoadsIn x (Jumper w)
  unfolding shape-the_row-Walker-1 hidden-the_row-Walker-1 hidden
  loads_jumper w s = s

  pub from_loads_jumper : (w : Walker) → LoadsIn x (Jumper w)
      → Loads x w.seek ⊎ (Loads x w.stop ⊎ LoadsIn x w.child)
  unfolding shape-the_row-Walker-1 hidden-the_row-Walker-1 hidden
  from_loads_jumper w s = s

  pub loads_no_case : LoadsIn x (Switch []) → ⊥
  unfolding shape-the_row-Case-2 hidden-the_row-Case-2 hidden
  loads_no_case f = f

  pub loads_case : (c : Case) (cs : List Case) → Loads x c.test ⊎ (LoadsIn x c.child ⊎ LoadsIn x (Switch cs))
      → LoadsIn x (Switch (c ∷ cs))
  unfolding shape-the_row-Case-2 hidden-the_row-Case-2 hidden
  loads_case c cs s = s

  pub from_loads_case : (c : Case) (cs : List Case) → LoadsIn x (Switch (c ∷ cs))
      → Loads x c.test ⊎ (LoadsIn x c.child ⊎ LoadsIn x (Switch cs))
  unfolding shape-the_row-Case-2 hidden-the_row-Case-2 hidden
  from_loads_case c cs s = s

  pub loads_shift : (by : IExpr) (child : Looplet) → Loads x by ⊎ LoadsIn x child
      → LoadsIn x (Shift by child)
  unfolding shape-the_row-Looplet-3 hidden-the_row-Looplet-3 hidden
  loads_shift by child s = s

  pub from_loads_shift : (by : IExpr) (child : Looplet) → LoadsIn x (Shift by child)
      → Loads x by ⊎ LoadsIn x child
  unfolding shape-the_row-Looplet-3 hidden-the_row-Looplet-3 hidden
  from_loads_shift by child s = s

  pub owns_no_phase : Owns x (Sequence []) → ⊥
  unfolding shape-the_row-Phase-0 hidden-the_row-Phase-0 hidden
  owns_no_phase f = f

  pub owns_phase : (p : Phase) (ps : List Phase) → Owns x p.child ⊎ Owns x (Sequence ps)
      → Owns x (Sequence (p ∷ ps))
  unfolding shape-the_row-Phase-0 hidden-the_row-Phase-0 hidden
  owns_phase p ps s = s

  pub from_owns_phase : (p : Phase) (ps : List Phase) → Owns x (Sequence (p ∷ ps))
      → Owns x p.child ⊎ Owns x (Sequence ps)
  unfolding shape-the_row-Phase-0 hidden-the_row-Phase-0 hidden
  from_owns_phase p ps s = s

  pub owns_stepper : (w : Walker) → (x ≡ w.cursor) ⊎ ((x ≡ w.cursor + 1) ⊎ Owns x w.child)
      → Owns x (Stepper w)
  unfolding shape-the_row-Walker-1 hidden-the_row-Walker-1 hidden
  owns_stepper w s = s

  pub from_owns_stepper : (w : Walker) → Owns x (Stepper w)
      → (x ≡ w.cursor) ⊎ ((x ≡ w.cursor + 1) ⊎ Owns x w.child)
  unfolding shape-the_row-Walker-1 hidden-the_row-Walker-1 hidden
  from_owns_stepper w s = s

  pub owns_jumper : (w : Walker) → (x ≡ w.cursor) ⊎ ((x ≡ w.cursor + 1) ⊎ Owns x w.child)
      → Owns x (Jumper w)
  unfolding shape-the_row-Walker-1 hidden-the_row-Walker-1 hidden
  owns_jumper w s = s

  pub from_owns_jumper : (w : Walker) → Owns x (Jumper w)
      → (x ≡ w.cursor) ⊎ ((x ≡ w.cursor + 1) ⊎ Owns x w.child)
  unfolding shape-the_row-Walker-1 hidden-the_row-Walker-1 hidden
  from_owns_jumper w s = s

  pub owns_no_case : Owns x (Switch []) → ⊥
  unfolding shape-the_row-Case-2 hidden-the_row-Case-2 hidden
  owns_no_case f = f

  pub owns_case : (c : Case) (cs : List Case) → Owns x c.child ⊎ Owns x (Switch cs)
      → Owns x (Switch (c ∷ cs))
  unfolding shape-the_row-Case-2 hidden-the_row-Case-2 hidden
  owns_case c cs s = s

  pub from_owns_case : (c : Case) (cs : List Case) → Owns x (Switch (c ∷ cs))
      → Owns x c.child ⊎ Owns x (Switch cs)
  unfolding shape-the_row-Case-2 hidden-the_row-Case-2 hidden
  from_owns_case c cs s = s

  pub owns_shift : (by : IExpr) (child : Looplet) → Owns x child
      → Owns x (Shift by child)
  unfolding shape-the_row-Looplet-3 hidden-the_row-Looplet-3 hidden
  owns_shift by child s = s

  pub from_owns_shift : (by : IExpr) (child : Looplet) → Owns x (Shift by child)
      → Owns x child
  unfolding shape-the_row-Looplet-3 hidden-the_row-Looplet-3 hidden
  from_owns_shift by child s = s

  pub shift_names_no_phase : ShiftNames x (Sequence []) → ⊥
  unfolding shape-the_row-Phase-0 hidden-the_row-Phase-0 hidden
  shift_names_no_phase f = f

  pub shift_names_phase : (p : Phase) (ps : List Phase) → ShiftNames x p.child ⊎ ShiftNames x (Sequence ps)
      → ShiftNames x (Sequence (p ∷ ps))
  unfolding shape-the_row-Phase-0 hidden-the_row-Phase-0 hidden
  shift_names_phase p ps s = s

  pub from_shift_names_phase : (p : Phase) (ps : List Phase) → ShiftNames x (Sequence (p ∷ ps))
      → ShiftNames x p.child ⊎ ShiftNames x (Sequence ps)
  unfolding shape-the_row-Phase-0 hidden-the_row-Phase-0 hidden
  from_shift_names_phase p ps s = s

  pub shift_names_stepper : (w : Walker) → ShiftNames x w.child
      → ShiftNames x (Stepper w)
  unfolding shape-the_row-Walker-1 hidden-the_row-Walker-1 hidden
  shift_names_stepper w s = s

  pub from_shift_names_stepper : (w : Walker) → ShiftNames x (Stepper w)
      → ShiftNames x w.child
  unfolding shape-the_row-Walker-1 hidden-the_row-Walker-1 hidden
  from_shift_names_stepper w s = s

  pub shift_names_jumper : (w : Walker) → ShiftNames x w.child
      → ShiftNames x (Jumper w)
  unfolding shape-the_row-Walker-1 hidden-the_row-Walker-1 hidden
  shift_names_jumper w s = s

  pub from_shift_names_jumper : (w : Walker) → ShiftNames x (Jumper w)
      → ShiftNames x w.child
  unfolding shape-the_row-Walker-1 hidden-the_row-Walker-1 hidden
  from_shift_names_jumper w s = s

  pub shift_names_no_case : ShiftNames x (Switch []) → ⊥
  unfolding shape-the_row-Case-2 hidden-the_row-Case-2 hidden
  shift_names_no_case f = f

  pub shift_names_case : (c : Case) (cs : List Case) → ShiftNames x c.child ⊎ ShiftNames x (Switch cs)
      → ShiftNames x (Switch (c ∷ cs))
  unfolding shape-the_row-Case-2 hidden-the_row-Case-2 hidden
  shift_names_case c cs s = s

  pub from_shift_names_case : (c : Case) (cs : List Case) → ShiftNames x (Switch (c ∷ cs))
      → ShiftNames x c.child ⊎ ShiftNames x (Switch cs)
  unfolding shape-the_row-Case-2 hidden-the_row-Case-2 hidden
  from_shift_names_case c cs s = s

  pub shift_names_shift : (by : IExpr) (child : Looplet) → Names x by ⊎ ShiftNames x child
      → ShiftNames x (Shift by child)
  unfolding shape-the_row-Looplet-3 hidden-the_row-Looplet-3 hidden
  shift_names_shift by child s = s

  pub from_shift_names_shift : (by : IExpr) (child : Looplet) → ShiftNames x (Shift by child)
      → Names x by ⊎ ShiftNames x child
  unfolding shape-the_row-Looplet-3 hidden-the_row-Looplet-3 hidden
  from_shift_names_shift by child s = s

-- ---- walkers' locals
pub nested_no_phase : Nested (Sequence [])
unfolding shape-the_row-Phase-0 hidden-the_row-Phase-0 hidden
nested_no_phase = tt

pub nested_phase : (p : Phase) (ps : List Phase) → Nested p.child → Nested (Sequence ps) → Nested (Sequence (p ∷ ps))
unfolding shape-the_row-Phase-0 hidden-the_row-Phase-0 hidden
nested_phase p ps a b = (a, b)

pub nested_stepper : (w : Walker) → (Owns w.cursor w.child → ⊥) → (Owns (w.cursor + 1) w.child → ⊥) → Nested w.child → Nested (Stepper w)
unfolding shape-the_row-Walker-1 hidden-the_row-Walker-1 hidden
nested_stepper w a b c = ((a, b), c)

pub nested_jumper : (w : Walker) → (Owns w.cursor w.child → ⊥) → (Owns (w.cursor + 1) w.child → ⊥) → Nested w.child → Nested (Jumper w)
unfolding shape-the_row-Walker-1 hidden-the_row-Walker-1 hidden
nested_jumper w a b c = ((a, b), c)

pub nested_no_case : Nested (Switch [])
unfolding shape-the_row-Case-2 hidden-the_row-Case-2 hidden
nested_no_case = tt

pub nested_case : (c : Case) (cs : List Case) → Nested c.child → Nested (Switch cs) → Nested (Switch (c ∷ cs))
unfolding shape-the_row-Case-2 hidden-the_row-Case-2 hidden
nested_case c cs a b = (a, b)

pub nested_shift : (by : IExpr) (child : Looplet) → Nested child → Nested (Shift by child)
unfolding shape-the_row-Looplet-3 hidden-the_row-Looplet-3 hidden
nested_shift by child a = a

-- ---- weight
pub weight_no_phase : weight (Sequence []) ≡ 2
unfolding shape-the_row-Phase-0 hidden-the_row-Phase-0 hidden
weight_no_phase = omega arith

pub weight_phase : (p : Phase) (ps : List Phase) → weight (Sequence (p ∷ ps)) ≡ 2 + weight p.child + weight (Sequence ps)
unfolding shape-the_row-Phase-0 hidden-the_row-Phase-0 hidden
weight_phase p ps = omega arith

pub weight_stepper : (w : Walker) → weight (Stepper w) ≡ 2 + weight w.child
unfolding shape-the_row-Walker-1 hidden-the_row-Walker-1 hidden
weight_stepper w = refl

pub weight_jumper : (w : Walker) → weight (Jumper w) ≡ 2 + weight w.child
unfolding shape-the_row-Walker-1 hidden-the_row-Walker-1 hidden
weight_jumper w = refl

pub weight_no_case : weight (Switch []) ≡ 1
unfolding shape-the_row-Case-2 hidden-the_row-Case-2 hidden
weight_no_case = omega arith

pub weight_case : (c : Case) (cs : List Case) → weight (Switch (c ∷ cs)) ≡ 1 + weight c.child + weight (Switch cs)
unfolding shape-the_row-Case-2 hidden-the_row-Case-2 hidden
weight_case c cs = omega arith

pub weight_shift : (by : IExpr) (child : Looplet) → weight (Shift by child) ≡ 1 + weight child
unfolding shape-the_row-Looplet-3 hidden-the_row-Looplet-3 hidden
weight_shift by child = refl
