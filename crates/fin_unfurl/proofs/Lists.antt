-- The walk of a list: spikes up to the last stored coordinate, and then the fill.
use Rattle.std.proofs.Common.{◌≡◌, ℕ, ◌+◌, ◌-◌, ◌<◌, ◌≤◌, ◌^◌, List, [], ◌∷◌, length, refl, sym, ap, ◌∙◌, subst, inl, inr, ◌⊎◌, ⊎_elim, ℤ, pos, ◌+ℤ◌, ◌<ℤ◌, None, Bool, true, false, T, w64, arith}
use Rattle.std.specs.Prelude.{slice_index, slice_set, ◌||◌, ◌&&◌, int_lt, int_le, if◌then◌else◌}
use Rattle.std.proofs.lemmas.Bool.{cases_lt}
use Rattle.std.proofs.lemmas.List.{get_or_past}
use borrow.Author.Differences.{up, down, below_in, at_most_in, lt_out, le_out, lt-true}
use Rattle.fin_base.specs.declared.terms.Op.TheVariants as op
use Rattle.fin_tensor.specs.declared.part.Part.{Part}
use Rattle.fin_tensor.specs.declared.part.Part.TheVariants as part
use Rattle.fin_tensor.specs.Levels.{IsLevel, IsPtr, IsIdx, IsFibre, LiesInFibre, fibres, first_from, key_in, numbers_of, wanted}
use Rattle.fin_tensor.specs.Pieces.{holds_number}
use Rattle.fin_tensor.proofs.Fibres.{IsFirst, first_place, first_is, at_keys, level_keys}
use Rattle.fin_ir.specs.declared.expression.Table.TheVariants as table
use Rattle.fin_ir.specs.declared.expression.IExpr.{IExpr}
use Rattle.fin_ir.specs.declared.expression.IExpr.TheVariants.{Num, Local, Two}
use Rattle.fin_ir.specs.Frozen.{Frozen}
use Rattle.fin_ir.specs.Loads.{table_in, part_at}
use Rattle.fin_ir.specs.Value.{is_off}
use Rattle.fin_ir.proofs.Values.{value_num, value_pick}
use Rattle.fin_base.specs.Words.{truth}
use Rattle.std.specs.Int.{int_wrap}
use Rattle.fin_looplet.specs.declared.looplet.Phase.{Phase}
use Rattle.fin_unfurl.proofs.Phases.{rest_shows, rest_sound, places_value}
use Rattle.fin_looplet.specs.declared.looplet.Looplet.TheVariants.{Sequence, Stepper}
use Rattle.fin_looplet.specs.View.{Store, value, view, View, Sight, gap, leaf_sight, ended, plain, at_step}
use Rattle.fin_looplet.specs.Sound.{Places, SoundWithin}
use Rattle.fin_looplet.proofs.Bridges.{view_phase, view_stepper, sound_phase, sound_stepper}
use Rattle.fin_unfurl.specs.declared.fibre.Fibre.{Fibre}
use Rattle.fin_unfurl.specs.Parts.{cell, end, place, leaf}
use Rattle.fin_unfurl.specs.Walks.{rest, has_places, list_stop, list_end, list_walker, list_walk}
use Rattle.fin_unfurl.proofs.Small.{wrap_small, lt_yes, lt_no, le_yes, le_no, natural, sub_is}
use Rattle.fin_unfurl.proofs.Places.{Here, two_is, next_value, cell_value, end_value, leaf_value, place_at, cursor_value}
use Rattle.fin_unfurl.proofs.Keys.{key_some, key_none, held_yes, held_no}
use Rattle.fin_unfurl.proofs.Shows.{shown, ShowsAt, sight_or}

module _ (ts : Store) (ls : List ℤ) (f : Fibre) (e : IExpr) (s : Frozen) (p : ℕ) (h : Here ts ls f e s p) (ptr idx : List ℕ) (kind : part_at s.parts f.level ≡ part.Keys ptr idx) where
  abbrev from : ℕ
  from = slice_index ptr p

  abbrev to : ℕ
  to = slice_index ptr (p + 1)

  lines : IsPtr h.at.count ptr × IsIdx f.extent h.at.count ptr idx
  lines = level_keys h.at.kind f.extent h.at.count ptr idx (subst (λ (x : Part). IsLevel h.at.kind f.extent h.at.count x) kind h.at.level)

  fibre : IsFibre idx from to
  fibre = at_keys f.extent (part_at s.parts f.level) p ptr idx h.at kind

  small : p ≤ 2 ^ 40
  small = omega (arith, h.at.within, h.at.few)

  ptr_is : table_in table.Ptr (part_at s.parts f.level) ≡ ptr
  ptr_is = ap (λ (x : Part). table_in table.Ptr x) kind

  idx_is : table_in table.Idx (part_at s.parts f.level) ≡ idx
  idx_is = ap (λ (x : Part). table_in table.Idx x) kind

  idx_small : (q : ℕ) → slice_index idx q ≤ 2 ^ 40
  idx_small q = ⊎_elim (λ (l : q < length idx). lines.1.small q l) (λ (l : length idx ≤ q). omega (arith, get_or_past idx q 0 l)) (cases_lt q (length idx))

  abbrev key : ℕ → ℕ
  key m = first_from idx m from (to - from)

  first : (m : ℕ) → IsFirst idx m from to (key m)
  first m = first_place idx m from to fibre.order

  abbrev stored : ℕ → Bool
  stored m = holds_number idx from to m

  lies : LiesInFibre (slice_index s.shape f.level) (fibres s.shape s.parts 1 f.level) (part_at s.parts f.level) from to
  lies =
      subst (λ (x : Part). LiesInFibre (slice_index s.shape f.level) (fibres s.shape s.parts 1 f.level) x from to) (sym kind)
      (record { numbers = tt; pos = p; within = h.within; low = omega arith; order = fibre.order; high = omega arith })

  -- the locals in which a step stands
  abbrev step : ℕ → List ℤ
  step m = at_step ts ls f.cursor (place f e) (pos m)

  sought : (m : ℕ) → value ts (slice_set ls (f.cursor + 1) (pos m)) (place f e) ≡ pos (key m)
  sought = place_at ts ls f e s p h ptr idx (λ m. m) ptr_is (ap numbers_of kind) (λ m. ap (λ (x : Part). wanted x m) kind) lies

  cursor : (m : ℕ) → value ts (step m) (Local f.cursor) ≡ pos (key m)
  cursor = cursor_value ts ls f e s p h ptr idx (λ m. m) ptr_is (ap numbers_of kind) (λ m. ap (λ (x : Part). wanted x m) kind) lies

  stop_at : (st : List ℤ) (x : IExpr) (q : ℕ) → value ts st x ≡ pos q → value ts st (list_stop f x) ≡ pos (slice_index idx q + 1)
  stop_at st x q is =
      next_value ts st (cell f table.Idx x) (slice_index idx q) (cell_value ts f e s p h.is st table.Idx x q is ∙ ap (λ (xs : List ℕ). pos (slice_index xs q)) idx_is) (omega (arith, idx_small q))

  stop : (m : ℕ) → value ts (step m) (list_stop f (Local f.cursor)) ≡ pos (slice_index idx (key m) + 1)
  stop m = stop_at (step m) (Local f.cursor) (key m) (cursor m)

  -- ---- coordinates that the walker serves

  abbrev Under : ℕ → Type 0
  Under m = (from < to) × (m ≤ slice_index idx (to - 1))

  reach : (m : ℕ) → Under m → key m < to
  reach m u = ⊎_elim (λ (l : key m < to). l) (λ (l : to ≤ key m). absurd (omega (arith, u.0, u.1, (first m).before (to - 1) (omega (arith, u.0)) (omega (arith, u.0))))) (cases_lt (key m) to)

  over : (m : ℕ) → Under m → m ≤ slice_index idx (key m)
  over m u = (first m).here (reach m u)

  stays : (m m' : ℕ) → Under m → m ≤ m' → m' < slice_index idx (key m) + 1 → key m' ≡ key m
  stays m m' u a b = let g = first m in first_is idx m' from to (key m) g.low g.high (λ j x y. omega (arith, g.before j x y)) (λ _. omega (arith, b))

  abbrev tail : ℕ → Sight
  tail m = leaf_sight ts (step m) (leaf f (Local f.cursor))

  -- the spike that ends at a stop
  abbrev spike : ℕ → ℤ → View
  spike m z = ended (int_le z (pos m +ℤ pos 1)) true (if int_lt (pos m +ℤ pos 1) z then ended (int_le z (pos m +ℤ pos 2)) false (plain false (gap f.fill)) else plain false (tail m))

  walker_spike : (m : ℕ) (end : ℤ) → view ts ls (Stepper (list_walker f e)) end (pos m) ≡ spike m (pos (slice_index idx (key m) + 1))
  walker_spike m end = view_stepper ts ls (list_walker f e) end (pos m) ∙ ap (spike m) (stop m)

  spike_at : (m k : ℕ) → k ≡ m → spike m (pos (k + 1)) ≡ shown (tail m) false true true
  spike_at m k is =
      ap (λ b. ended b true (if int_lt (pos (m + 1)) (pos (k + 1)) then ended (int_le (pos (k + 1)) (pos (m + 2))) false (plain false (gap f.fill)) else plain false (tail m)))
      (le_yes (k + 1) (m + 1) (omega arith))
      ∙ ap (λ b. ended true true (if b then ended (int_le (pos (k + 1)) (pos (m + 2))) false (plain false (gap f.fill)) else plain false (tail m))) (lt_no (m + 1) (k + 1) (omega arith))

  spike_before : (m k : ℕ) (near : Bool) → m < k → int_le (pos (k + 1)) (pos (m + 2)) ≡ near → spike m (pos (k + 1)) ≡ shown (gap f.fill) false (near || false) ((near && false) || false)
  spike_before m k near lt is =
      ap (λ b. ended b true (if int_lt (pos (m + 1)) (pos (k + 1)) then ended (int_le (pos (k + 1)) (pos (m + 2))) false (plain false (gap f.fill)) else plain false (tail m)))
      (le_no (k + 1) (m + 1) (omega arith))
      ∙ ap (λ b. ended false true (if b then ended (int_le (pos (k + 1)) (pos (m + 2))) false (plain false (gap f.fill)) else plain false (tail m))) (lt_yes (m + 1) (k + 1) (omega arith))
      ∙ ap (λ b. ended false true (ended b false (plain false (gap f.fill)))) is

  abbrev view_of : ℕ → View
  view_of m = shown (sight_or f s (key_in idx from to m)) false (stored m || stored (m + 1)) (stored m)

  here_is : (m : ℕ) → Under m → slice_index idx (key m) ≡ m → shown (tail m) false true true ≡ view_of m
  here_is m u is =
      let found = key_some idx from to m (key m) refl (reach m u) is in
      ap (λ x. shown x false true true) (leaf_value ts f e s p h.is (step m) (Local f.cursor) (key m) (cursor m) ∙ ap (sight_or f s) (sym found))
      ∙ ap (λ b. shown (sight_or f s (key_in idx from to m)) false (b || stored (m + 1)) b) (sym (held_yes idx from to m (key m) found))

  before_is : (m : ℕ) (near : Bool) → Under m → m < slice_index idx (key m) → stored (m + 1) ≡ near → shown (gap f.fill) false (near || false) ((near && false) || false) ≡ view_of m
  before_is m near u lt is =
      let out = key_none idx from to m (key m) refl (inr (omega arith)) in
      let no = held_no idx from to m out in
      elim near as (λ b. stored (m + 1) ≡ b → shown (gap f.fill) false (b || false) ((b && false) || false) ≡ view_of m) [
        | true ↦ (λ x. ap (λ o. shown (sight_or f s o) false true false) (sym out) ∙ ap (λ b. shown (sight_or f s (key_in idx from to m)) false (b || true) b) (sym no)
            ∙ ap (λ b. shown (sight_or f s (key_in idx from to m)) false (stored m || b) (stored m)) (sym x))
        | false ↦ (λ x. ap (λ o. shown (sight_or f s o) false false false) (sym out) ∙ ap (λ b. shown (sight_or f s (key_in idx from to m)) false (b || false) b) (sym no)
            ∙ ap (λ b. shown (sight_or f s (key_in idx from to m)) false (stored m || b) (stored m)) (sym x))
      ] is

  walker_view : (m : ℕ) (end : ℤ) → Under m → view ts ls (Stepper (list_walker f e)) end (pos m) ≡ view_of m
  walker_view m end u =
      let k = slice_index idx (key m) in
      let le = over m u in
      walker_spike m end
      ∙ ⊎_elim
      (λ (lt : m < k).
      let stay : k ≡ m + 1 → key (m + 1) ≡ key m = (λ _. stays m (m + 1) u (omega arith) (omega arith)) in
      ⊎_elim
      (λ (far : m + 1 < k).
      let out = key_none idx from to (m + 1) (key m) (stays m (m + 1) u (omega arith) (omega arith)) (inr (omega arith)) in
      spike_before m k false lt (le_no (k + 1) (m + 2) (omega arith)) ∙ before_is m false u lt (held_no idx from to (m + 1) out))
      (λ (near : k ≤ m + 1).
      let found = key_some idx from to (m + 1) (key m) (stays m (m + 1) u (omega arith) (omega arith)) (reach m u) (omega arith) in
      spike_before m k true lt (le_yes (k + 1) (m + 2) (omega arith)) ∙ before_is m true u lt (held_yes idx from to (m + 1) (key m) found))
      (cases_lt (m + 1) k))
      (λ (ge : k ≤ m). spike_at m k (omega arith) ∙ here_is m u (omega arith))
      (cases_lt m k)

  walker_sound : (bound : Places) (served : Places) (m : ℕ) → ((j : ℤ) → served j → (j' : ℕ) → j ≡ pos j' → Under j') → Under m → SoundWithin bound ts ls (Stepper (list_walker f e)) served (pos m)
  walker_sound bound served m under u =
      let k = slice_index idx (key m) in
      sound_stepper bound ts ls (list_walker f e) served (pos m) (
        subst (λ (z : ℤ). pos m <ℤ z) (sym (stop m)) (below_in (pos m) (pos (k + 1)) (omega (arith, over m u))),
        (
          (λ j a b c.
              let at = natural j (at_most_in (pos 0) j (omega (arith, le_out (pos m) j a))) in
              let lt = subst (λ (z : ℤ). j <ℤ z) (stop m) c in
              let same = stays m at.0 u (omega (arith, le_out (pos m) j a, ap up at.1, ap down at.1)) (omega (arith, lt_out j (pos (k + 1)) lt, ap up at.1, ap down at.1)) in
              ap (λ (z : ℤ). value ts (slice_set ls (f.cursor + 1) z) (place f e)) at.1 ∙ sought at.0 ∙ ap pos same ∙ sym (sought m)),
          tt,
        ),
      )

  -- ---- where the stored coordinates end

  some_value : value ts ls (has_places f e) ≡ truth (int_lt (pos from) (pos to))
  some_value = places_value ts f e s p h.is ls h.here small ∙ ap (λ (xs : List ℕ). truth (int_lt (pos (slice_index xs p)) (pos (slice_index xs (p + 1))))) ptr_is

  last : ℕ
  last = slice_index idx (to - 1)

  abbrev last_stop : IExpr
  last_stop = list_stop f (Two op.Sub (end f e) (Num (pos 1)))

  end_none : to ≤ from → value ts ls (list_end f e) ≡ pos 0
  end_none le =
      value_pick ts ls (has_places f e) last_stop (Num (pos 0))
      ∙ ap (λ (z : ℤ). if is_off z then value ts ls (Num (pos 0)) else value ts ls last_stop) (some_value ∙ ap truth (lt_no from to le))
      ∙ value_num ts ls (pos 0)

  end_some : from < to → value ts ls (list_end f e) ≡ pos (slice_index idx (to - 1) + 1)
  end_some lt =
      let at : value ts ls (Two op.Sub (end f e) (Num (pos 1))) ≡ pos (to - 1) =
      two_is ts ls op.Sub (end f e) (Num (pos 1)) (pos to) (pos 1) (end_value ts f e s p h.is ls h.here small ∙ ap (λ (xs : List ℕ). pos (slice_index xs (p + 1))) ptr_is) (value_num ts ls (pos 1))
      ∙ ap (int_wrap w64) (sub_is to 1 (omega arith)) ∙ wrap_small (to - 1) (omega (arith, fibre.short)) in
      value_pick ts ls (has_places f e) last_stop (Num (pos 0))
      ∙ ap (λ (z : ℤ). if is_off z then value ts ls (Num (pos 0)) else value ts ls last_stop) (some_value ∙ ap truth (lt_yes from to lt))
      ∙ stop_at ls (Two op.Sub (end f e) (Num (pos 1))) (to - 1) at

  -- the last stored coordinate is found
  last_held : (m : ℕ) → Under m → slice_index idx (to - 1) ≤ m → stored m ≡ true
  last_held m u ge =
      let r = reach m u in
      let is : slice_index idx (key m) ≡ m = omega (arith, over m u, u.1, ge, fibre.rises (key m) (to - 1) (first m).low (omega (arith, r)) (omega (arith, u.0))) in
      held_yes idx from to m (key m) (key_some idx from to m (key m) refl r is)

  -- past the stored coordinates nothing is found
  past : (m : ℕ) → (Under m → ⊥) → key_in idx from to m ≡ None
  past m out =
      let g = first m in
      key_none idx from to m (key m) refl
      (⊎_elim (λ (l : key m < to). inr (λ is. out (omega (arith, g.low), omega (arith, is, fibre.rises (key m) (to - 1) g.low (omega arith) (omega arith)))))
      (λ (l : to ≤ key m). inl l) (cases_lt (key m) to))

  -- ---- the list

  abbrev spikes : Phase
  spikes = record { stop = list_end f e; child = Stepper (list_walker f e) }

  abbrev Shows : ℕ → View → Type 0
  Shows m v = ShowsAt v (sight_or f s (key_in idx from to m)) false (stored m || stored (m + 1)) (stored m) (m + 1 < f.extent)

  under_shows : (m : ℕ) (end : ℤ) → Under m → value ts ls (list_end f e) ≡ pos (slice_index idx (to - 1) + 1) → Shows m (view ts ls (list_walk f e) end (pos m))
  under_shows m end u is =
      let l = slice_index idx (to - 1) in
      let first_phase : view ts ls (list_walk f e) end (pos m) ≡ ended (int_le (pos (l + 1)) (pos (m + 1))) false (view_of m) =
      view_phase ts ls spikes (rest f ∷ []) end (pos m)
      ∙ ap (λ (z : ℤ). if int_lt (pos m) z then ended (int_le z (pos (m + 1))) false (view ts ls (Stepper (list_walker f e)) z (pos m)) else view ts ls (Sequence (rest f ∷ [])) end (pos m)) is
      ∙ ap (λ b. if b then ended (int_le (pos (l + 1)) (pos (m + 1))) false (view ts ls (Stepper (list_walker f e)) (pos (l + 1)) (pos m)) else view ts ls (Sequence (rest f ∷ [])) end (pos m))
      (lt_yes m (l + 1) (omega (arith, u.1)))
      ∙ ap (λ (v : View). ended (int_le (pos (l + 1)) (pos (m + 1))) false v) (walker_view m (pos (l + 1)) u) in
      subst (Shows m) (sym first_phase)
      (⊎_elim
      (λ (lt : m < l). subst (λ b. Shows m (ended b false (view_of m))) (sym (le_no (l + 1) (m + 1) (omega arith))) (record { sight = refl; varies = refl; ends = λ _. refl; stop = λ x. x }))
      (λ (ge : l ≤ m).
      subst (λ b. Shows m (ended b false (view_of m))) (sym (le_yes (l + 1) (m + 1) (omega arith)))
      (record { sight = refl; varies = refl; ends = λ _. ap (λ b. b || stored (m + 1)) (sym (last_held m u ge)); stop = λ x. x }))
      (cases_lt m l))

  past_shows : (m : ℕ) (end z : ℤ) → m < f.extent → value ts ls (list_end f e) ≡ z → int_lt (pos m) z ≡ false → (Under m → ⊥) → (Under (m + 1) → ⊥) → Shows m (view ts ls (list_walk f e) end (pos m))
  past_shows m end z lt is behind out further =
      let none = past m out in
      let later = held_no idx from to (m + 1) (past (m + 1) further) in
      let skip : view ts ls (list_walk f e) end (pos m) ≡ view ts ls (Sequence (rest f ∷ [])) end (pos m) =
      view_phase ts ls spikes (rest f ∷ []) end (pos m)
      ∙ ap (λ b. if b then ended (int_le (value ts ls (list_end f e)) (pos m +ℤ pos 1)) false (view ts ls (Stepper (list_walker f e)) (value ts ls (list_end f e)) (pos m)) else view ts ls
      (Sequence (rest f ∷ [])) end (pos m))
      (ap (int_lt (pos m)) is ∙ behind) in
      let r = rest_shows ts ls f m end lt in
      subst (Shows m) (sym skip) (record {
        sight = r.sight ∙ ap (sight_or f s) (sym none);
        varies = r.varies;
        ends = λ i. r.ends i ∙ sym (ap (λ b. b || stored (m + 1)) (held_no idx from to m none) ∙ later);
        stop = λ i. absurd (subst T (sym (r.stop i)) tt);
      })

  pub list_shows : (m : ℕ) (end : ℤ) → m < f.extent → Shows m (view ts ls (list_walk f e) end (pos m))
  list_shows m end lt =
      let l = slice_index idx (to - 1) in
      ⊎_elim
      (λ (some : from < to).
      ⊎_elim
      (λ (under : m < l + 1). under_shows m end (some, omega arith) (end_some some))
      (λ (over : l + 1 ≤ m). past_shows m end (pos (l + 1)) lt (end_some some) (lt_no m (l + 1) over) (λ u. omega (arith, u.1)) (λ u. omega (arith, u.1)))
      (cases_lt m (l + 1)))
      (λ (none : to ≤ from). past_shows m end (pos 0) lt (end_none none) (lt_no m 0 (omega arith)) (λ u. omega (arith, u.0)) (λ u. omega (arith, u.0)))
      (cases_lt from to)

  -- the walker serves no coordinate behind the last stored one
  served_under : (j : ℕ) → pos j <ℤ value ts ls (list_end f e) → Under j
  served_under j h' =
      ⊎_elim
      (λ (some : from < to). let v = end_some some in (some, omega (arith, lt_out (pos j) (value ts ls (list_end f e)) h', ap up v, ap down v)))
      (λ (none : to ≤ from). let v = end_none none in absurd (omega (arith, lt_out (pos j) (value ts ls (list_end f e)) h', ap up v, ap down v)))
      (cases_lt from to)

  pub list_sound : (bound served : Places) (m : ℕ) → m < f.extent → SoundWithin bound ts ls (list_walk f e) served (pos m)
  list_sound bound served m lt =
      let z = value ts ls (list_end f e) in
      sound_phase bound ts ls spikes (rest f ∷ []) served (pos m)
      (elim (int_lt (pos m) z) as (λ b. int_lt (pos m) z ≡ b →
      ((b ≡ true) × SoundWithin bound ts ls (Stepper (list_walker f e)) (λ j. served j × (j <ℤ z)) (pos m)) ⊎ ((b ≡ false) × SoundWithin bound ts ls (Sequence (rest f ∷ [])) served (pos m))) [
        | true ↦ (λ is. inl (
          refl,
          walker_sound bound (λ j. served j × (j <ℤ z)) m
              (λ j at j' same. served_under j' (subst (λ (y : ℤ). y <ℤ z) same at.1)) (served_under m (below_in (pos m) z (lt-true (pos m) z is))),
        ))
        | false ↦ (λ is. inr (refl, rest_sound bound ts ls f served m lt))
      ] refl)
