-- The walk of runs: one after another.
use Rattle.std.proofs.Common.{◌≡◌, ℕ, ◌+◌, ◌-◌, ◌<◌, ◌≤◌, List, refl, sym, ap, ◌∙◌, subst, inr, ⊎_elim, ℤ, pos, ◌<ℤ◌, Some, Bool, true, false, T, arith}
use Rattle.std.specs.Prelude.{slice_index, slice_set, int_le}
use Rattle.std.proofs.lemmas.Bool.{cases_lt}
use borrow.Author.Differences.{up, down, below_in, at_most_in, lt_out, le_out}
use Rattle.fin_tensor.specs.declared.part.Part.{Part}
use Rattle.fin_tensor.specs.declared.part.Part.TheVariants as part
use Rattle.fin_tensor.specs.Levels.{IsLevel, IsPtr, IsStop, IsFibre, LiesInFibre, fibres, first_from, numbers_of, wanted}
use Rattle.fin_tensor.specs.Pieces.{holds_number}
use Rattle.fin_tensor.proofs.Fibres.{IsFirst, first_place, first_is, at_runs, level_runs}
use Rattle.fin_tensor.proofs.Walk.{run_below}
use Rattle.fin_ir.specs.declared.expression.Table.TheVariants as table
use Rattle.fin_ir.specs.declared.expression.IExpr.{IExpr}
use Rattle.fin_ir.specs.declared.expression.IExpr.TheVariants.{Local}
use Rattle.fin_ir.specs.Frozen.{Frozen}
use Rattle.fin_ir.specs.Loads.{table_in, part_at}
use Rattle.fin_looplet.specs.View.{Store, value, view, View, leaf_sight, ended, plain, at_step}
use Rattle.fin_looplet.specs.Sound.{Places, SoundWithin}
use Rattle.fin_looplet.proofs.Bridges.{view_stepper, sound_stepper}
use Rattle.fin_unfurl.specs.declared.fibre.Fibre.{Fibre}
use Rattle.fin_unfurl.specs.Parts.{cell, end, place, leaf}
use Rattle.fin_unfurl.specs.Walks.{runs_walker, runs_walk}
use Rattle.fin_unfurl.proofs.Places.{Here, cell_value, leaf_value, place_at, cursor_value}
use Rattle.fin_unfurl.proofs.Small.{le_yes, le_no, natural}
use Rattle.fin_unfurl.proofs.Keys.{key_some, key_none, held_yes, held_no}
use Rattle.fin_unfurl.proofs.Shows.{ShowsAt, sight_or}

module _ (ts : Store) (ls : List ℤ) (f : Fibre) (e : IExpr) (s : Frozen) (p : ℕ) (h : Here ts ls f e s p) (ptr stop : List ℕ) (kind : part_at s.parts f.level ≡ part.Runs ptr stop) where
  abbrev from : ℕ
  from = slice_index ptr p

  abbrev to : ℕ
  to = slice_index ptr (p + 1)

  lines : IsPtr h.at.count ptr × IsStop f.extent h.at.count ptr stop
  lines = level_runs h.at.kind f.extent h.at.count ptr stop (subst (λ (x : Part). IsLevel h.at.kind f.extent h.at.count x) kind h.at.level)

  fibre : IsFibre stop from to
  fibre = at_runs f.extent (part_at s.parts f.level) p ptr stop h.at kind

  -- the run over a coordinate
  abbrev run : ℕ → ℕ
  run m = first_from stop (m + 1) from (to - from)

  first : (m : ℕ) → IsFirst stop (m + 1) from to (run m)
  first m = first_place stop (m + 1) from to fibre.order

  lies : LiesInFibre (slice_index s.shape f.level) (fibres s.shape s.parts 1 f.level) (part_at s.parts f.level) from to
  lies =
      subst (λ (x : Part). LiesInFibre (slice_index s.shape f.level) (fibres s.shape s.parts 1 f.level) x from to) (sym kind)
      (record { numbers = tt; pos = p; within = h.within; low = omega arith; order = fibre.order; high = omega arith })

  sought : (m : ℕ) → value ts (slice_set ls (f.cursor + 1) (pos m)) (place f e) ≡ pos (run m)
  sought = place_at ts ls f e s p h ptr stop (λ m. m + 1) (ap (λ (x : Part). table_in table.Ptr x) kind) (ap numbers_of kind) (λ m. ap (λ (x : Part). wanted x m) kind) lies

  abbrev step : ℕ → List ℤ
  step m = at_step ts ls f.cursor (place f e) (pos m)

  cursor : (m : ℕ) → value ts (step m) (Local f.cursor) ≡ pos (run m)
  cursor = cursor_value ts ls f e s p h ptr stop (λ m. m + 1) (ap (λ (x : Part). table_in table.Ptr x) kind) (ap numbers_of kind) (λ m. ap (λ (x : Part). wanted x m) kind) lies

  stop_value : (m : ℕ) → value ts (step m) (cell f table.Stop (Local f.cursor)) ≡ pos (slice_index stop (run m))
  stop_value m = cell_value ts f e s p h.is (step m) table.Stop (Local f.cursor) (run m) (cursor m) ∙ ap (λ (x : Part). pos (slice_index (table_in table.Stop x) (run m))) kind

  reach : (m : ℕ) → m < f.extent → run m < to
  reach m lt = run_below f.extent h.at.count ptr stop p m lines.0 lines.1 h.at.within lt

  over : (m : ℕ) → m < f.extent → m < slice_index stop (run m)
  over m lt = omega (arith, (first m).here (reach m lt))

  stays : (m m' : ℕ) → m ≤ m' → m' < slice_index stop (run m) → run m' ≡ run m
  stays m m' a b = let g = first m in first_is stop (m' + 1) from to (run m) g.low g.high (λ j x y. omega (arith, g.before j x y)) (λ _. omega (arith, b))

  abbrev held : ℕ → Bool
  held x = holds_number stop from to x

  abbrev Shows : ℕ → View → Type 0
  Shows m v = ShowsAt v (sight_or f s (Some (run m))) false (held (m + 1)) (held (m + 1)) (m + 1 < f.extent)

  pub runs_shows : (m : ℕ) (end : ℤ) → m < f.extent → Shows m (view ts ls (runs_walk f e) end (pos m))
  runs_shows m end lt =
      let k = slice_index stop (run m) in
      let v = plain false (leaf_sight ts (step m) (leaf f (Local f.cursor))) in
      let seen = leaf_value ts f e s p h.is (step m) (Local f.cursor) (run m) (cursor m) in
      let is : view ts ls (runs_walk f e) end (pos m) ≡ ended (int_le (pos k) (pos (m + 1))) true v =
      view_stepper ts ls (runs_walker f e) end (pos m) ∙ ap (λ (z : ℤ). ended (int_le z (pos (m + 1))) true v) (stop_value m) in
      subst (Shows m) (sym is)
      (⊎_elim
      (λ (far : m + 1 < k).
      let none = held_no stop from to (m + 1) (key_none stop from to (m + 1) (run m) refl (inr (omega arith))) in
      subst (λ b. Shows m (ended b true v)) (sym (le_no k (m + 1) far)) (record { sight = seen; varies = refl; ends = λ _. sym none; stop = λ x. absurd (subst T (sym x) tt) }))
      (λ (near : k ≤ m + 1).
      let found = held_yes stop from to (m + 1) (run m) (key_some stop from to (m + 1) (run m) refl (reach m lt) (omega (arith, over m lt))) in
      subst (λ b. Shows m (ended b true v)) (sym (le_yes k (m + 1) near)) (record { sight = seen; varies = refl; ends = λ _. sym found; stop = λ _. found }))
      (cases_lt (m + 1) k))

  pub runs_sound : (bound served : Places) (m : ℕ) → m < f.extent → SoundWithin bound ts ls (runs_walk f e) served (pos m)
  runs_sound bound served m lt =
      let k = slice_index stop (run m) in
      sound_stepper bound ts ls (runs_walker f e) served (pos m) (
        subst (λ (z : ℤ). pos m <ℤ z) (sym (stop_value m)) (below_in (pos m) (pos k) (omega (arith, over m lt))),
        (
          (λ j a b c.
              let at = natural j (at_most_in (pos 0) j (omega (arith, le_out (pos m) j a))) in
              let before = subst (λ (z : ℤ). j <ℤ z) (stop_value m) c in
              let same = stays m at.0 (omega (arith, le_out (pos m) j a, ap up at.1, ap down at.1)) (omega (arith, lt_out j (pos k) before, ap up at.1, ap down at.1)) in
              ap (λ (z : ℤ). value ts (slice_set ls (f.cursor + 1) z) (place f e)) at.1 ∙ sought at.0 ∙ ap pos same ∙ sym (sought m)),
          tt,
        ),
      )
