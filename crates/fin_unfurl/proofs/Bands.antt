-- The walk of a band: the block, with the fill before and behind it.
use Rattle.std.proofs.Common.{◌≡◌, ℕ, ◌+◌, ◌-◌, ◌<◌, ◌≤◌, ◌^◌, List, [], ◌∷◌, refl, sym, ap, ◌∙◌, subst, inl, inr, ◌⊎◌, ⊎_elim, ℤ, pos, Some, None, Bool, true, false, w64, arith}
use Rattle.std.specs.Prelude.{slice_index, slice_set, ◌||◌, ◌&&◌, nat_lt, nat_eq, int_lt, int_le, if◌then◌else◌, is_some}
use Rattle.std.proofs.lemmas.Bool.{cases_lt}
use Rattle.std.proofs.lemmas.List.{get_or-set_same}
use Rattle.fin_base.specs.declared.terms.Op.TheVariants as op
use Rattle.fin_base.specs.Words.{truth}
use Rattle.std.specs.Int.{int_wrap}
use Rattle.fin_tensor.specs.declared.part.Part.{Part}
use Rattle.fin_tensor.specs.declared.part.Part.TheVariants as part
use Rattle.std.proofs.lemmas.Bool.Decides.{nat_tests}
use Rattle.fin_tensor.specs.Levels.{IsLevel, IsPtr, IsStart, block_in}
use Rattle.fin_tensor.proofs.Fibres.{level_band}
use Rattle.fin_ir.specs.declared.expression.Table.TheVariants as table
use Rattle.fin_ir.specs.declared.expression.IExpr.{IExpr}
use Rattle.fin_ir.specs.declared.expression.IExpr.TheVariants.{Num, Local, Two}
use Rattle.fin_ir.specs.Frozen.{Frozen}
use Rattle.fin_ir.specs.Loads.{table_in, part_at}
use Rattle.fin_ir.specs.Value.{is_off}
use Rattle.fin_ir.proofs.Values.{value_num, value_local, value_pick}
use Rattle.fin_looplet.specs.declared.looplet.Looplet.TheVariants.{Sequence}
use Rattle.fin_looplet.specs.View.{Store, value, view, View, gap, leaf_sight, ended, plain}
use Rattle.fin_looplet.specs.Sound.{Places, SoundWithin}
use Rattle.fin_looplet.proofs.Exprs.{value_set}
use Rattle.fin_looplet.proofs.Bridges.{view_phase, sound_phase}
use Rattle.fin_unfurl.specs.declared.fibre.Fibre.{Fibre}
use Rattle.fin_unfurl.specs.Parts.{begin, end, leaf}
use Rattle.fin_unfurl.specs.Walks.{filled, rest, has_places, start as start_of, block_begin, block_end, block_place, block, band_walk}
use Rattle.fin_unfurl.proofs.Places.{Here, two_is, cell_value, begin_value, end_value, leaf_value}
use Rattle.fin_unfurl.proofs.Phases.{rest_shows, rest_sound, places_value}
use Rattle.fin_unfurl.proofs.Small.{wrap_small, lt_yes, lt_no, le_yes, le_no, sub_is}
use Rattle.fin_unfurl.proofs.Shows.{ShowsAt, sight_or}

module _ (ts : Store) (ls : List ℤ) (f : Fibre) (e : IExpr) (s : Frozen) (p : ℕ) (h : Here ts ls f e s p) (ptr start : List ℕ) (kind : part_at s.parts f.level ≡ part.Band ptr start) where
  abbrev from : ℕ
  from = slice_index ptr p

  abbrev to : ℕ
  to = slice_index ptr (p + 1)

  abbrev at : ℕ
  at = slice_index start p

  lines : IsPtr h.at.count ptr × IsStart f.extent h.at.count ptr start
  lines = level_band h.at.kind f.extent h.at.count ptr start (subst (λ (x : Part). IsLevel h.at.kind f.extent h.at.count x) kind h.at.level)

  small : p ≤ 2 ^ 40
  small = omega (arith, h.at.within, h.at.few)

  order : from ≤ to
  order = lines.0.rises p h.at.within

  to_small : to ≤ 2 ^ 40
  to_small = lines.0.small (p + 1) (omega (arith, h.at.within, lines.0.long))

  at_small : at ≤ 2 ^ 40
  at_small = lines.1.small p (omega (arith, h.at.within, lines.1.long))

  ptr_is : table_in table.Ptr (part_at s.parts f.level) ≡ ptr
  ptr_is = ap (λ (x : Part). table_in table.Ptr x) kind

  -- in locals that keep the position
  module _ (st : List ℤ) (here : value ts st e ≡ pos p) where
    start_is : value ts st (start_of f e) ≡ pos at
    start_is = cell_value ts f e s p h.is st table.Start e p here ∙ ap (λ (x : Part). pos (slice_index (table_in table.Start x) p)) kind

    begin_is : value ts st (begin f e) ≡ pos from
    begin_is = begin_value ts f e s p h.is st here small ∙ ap (λ (xs : List ℕ). pos (slice_index xs p)) ptr_is

    end_is : value ts st (end f e) ≡ pos to
    end_is = end_value ts f e s p h.is st here small ∙ ap (λ (xs : List ℕ). pos (slice_index xs (p + 1))) ptr_is

  -- where the block stands, one that is empty at 0
  abbrev stood : ℕ → Type 0
  stood z = ((from < to) × (z ≡ at)) ⊎ ((to ≤ from) × (z ≡ 0))

  some_value : value ts ls (has_places f e) ≡ truth (int_lt (pos from) (pos to))
  some_value = places_value ts f e s p h.is ls h.here small ∙ ap (λ (xs : List ℕ). truth (int_lt (pos (slice_index xs p)) (pos (slice_index xs (p + 1))))) ptr_is

  first_value : (z : ℕ) → stood z → value ts ls (block_begin f e) ≡ pos z
  first_value z d =
      value_pick ts ls (has_places f e) (start_of f e) (Num (pos 0))
      ∙ ⊎_elim
      (λ (o : (from < to) × (z ≡ at)). ap (λ (x : ℤ). if is_off x then value ts ls (Num (pos 0)) else value ts ls (start_of f e)) (some_value ∙ ap truth (lt_yes from to o.0))
      ∙ start_is ls h.here ∙ ap pos (sym o.1))
      (λ (o : (to ≤ from) × (z ≡ 0)). ap (λ (x : ℤ). if is_off x then value ts ls (Num (pos 0)) else value ts ls (start_of f e)) (some_value ∙ ap truth (lt_no from to o.0))
      ∙ value_num ts ls (pos 0) ∙ ap pos (sym o.1))
      d

  last_value : (z : ℕ) → stood z → value ts ls (block_end f e) ≡ pos (z + (to - from))
  last_value z d =
      let low : z ≤ 2 ^ 40 = ⊎_elim (λ (o : (from < to) × (z ≡ at)). omega (arith, o.1, at_small)) (λ (o : (to ≤ from) × (z ≡ 0)). omega (arith, o.1)) d in
      let long : value ts ls (Two op.Sub (end f e) (begin f e)) ≡ pos (to - from) =
      two_is ts ls op.Sub (end f e) (begin f e) (pos to) (pos from) (end_is ls h.here) (begin_is ls h.here) ∙ ap (int_wrap w64) (sub_is to from order)
      ∙ wrap_small (to - from) (omega (arith, to_small)) in
      two_is ts ls op.Add (block_begin f e) (Two op.Sub (end f e) (begin f e)) (pos z) (pos (to - from)) (first_value z d) long
      ∙ wrap_small (z + (to - from)) (omega (arith, to_small, low))

  place_is : (m : ℕ) → at ≤ m → m < f.extent → value ts (slice_set ls (f.cursor + 1) (pos m)) (block_place f e) ≡ pos (from + (m - at))
  place_is m lo hi =
      let st = slice_set ls (f.cursor + 1) (pos m) in
      let here = value_set ts ls (f.cursor + 1) (pos m) e h.apart.1 ∙ h.here in
      let behind : value ts st (Two op.Sub (Local (f.cursor + 1)) (start_of f e)) ≡ pos (m - at) =
      two_is ts st op.Sub (Local (f.cursor + 1)) (start_of f e) (pos m) (pos at) (value_local ts st (f.cursor + 1) ∙ get_or-set_same ls (f.cursor + 1) (pos m) (pos 0) h.room) (start_is st here)
      ∙ ap (int_wrap w64) (sub_is m at lo) ∙ wrap_small (m - at) (omega (arith, hi, h.at.small)) in
      two_is ts st op.Add (begin f e) (Two op.Sub (Local (f.cursor + 1)) (start_of f e)) (pos from) (pos (m - at)) (begin_is st here) behind
      ∙ wrap_small (from + (m - at)) (omega (arith, hi, h.at.small, order, to_small))

  -- ---- what is shown

  abbrev inside : ℕ → Bool
  inside m = is_some (block_in from to at m)

  abbrev ends : ℕ → Bool
  ends m = nat_lt from to && (nat_eq (m + 1) at || nat_eq (m + 1) (at + (to - from)))

  abbrev Shows : ℕ → View → Type 0
  Shows m v = ShowsAt v (sight_or f s (block_in from to at m)) (inside m) (ends m) false (m + 1 < f.extent)

  -- the phase over a coordinate
  abbrev before : View
  before = plain false (gap f.fill)

  abbrev within : ℕ → View
  within m = plain true (leaf_sight ts (slice_set ls (f.cursor + 1) (pos m)) (leaf f (block_place f e)))

  abbrev behind : ℕ → ℤ → View
  behind m end = view ts ls (Sequence (rest f ∷ [])) end (pos m)

  band_view : (m : ℕ) (end : ℤ) (z : ℕ) → stood z → view ts ls (band_walk f e) end (pos m)
      ≡ (if int_lt (pos m) (pos z) then ended (int_le (pos z) (pos (m + 1))) false before
      else (if int_lt (pos m) (pos (z + (to - from))) then ended (int_le (pos (z + (to - from))) (pos (m + 1))) false (within m) else behind m end))
  band_view m end z d =
      view_phase ts ls (filled f (block_begin f e)) (block f e ∷ rest f ∷ []) end (pos m)
      ∙ ap (λ (x : ℤ). if int_lt (pos m) x then ended (int_le x (pos (m + 1))) false before else view ts ls (Sequence (block f e ∷ rest f ∷ [])) end (pos m)) (first_value z d)
      ∙ ap (λ (v : View). if int_lt (pos m) (pos z) then ended (int_le (pos z) (pos (m + 1))) false before else v)
      (view_phase ts ls (block f e) (rest f ∷ []) end (pos m) ∙ ap (λ (x : ℤ). if int_lt (pos m) x then ended (int_le x (pos (m + 1))) false (within m) else behind m end) (last_value z d))

  out_shows : (m : ℕ) (end : ℤ) → m < f.extent → block_in from to at m ≡ None → (m + 1 < f.extent → ends m ≡ false) → Shows m (behind m end)
  out_shows m end lt none off =
      let r = rest_shows ts ls f m end lt in
      record { sight = r.sight ∙ ap (sight_or f s) (sym none); varies = r.varies ∙ sym (ap is_some none); ends = λ i. r.ends i ∙ sym (off i); stop = r.stop }

  -- a block that is empty
  empty_shows : (m : ℕ) (end : ℤ) → m < f.extent → to ≤ from → Shows m (view ts ls (band_walk f e) end (pos m))
  empty_shows m end lt le =
      let some : nat_lt from to ≡ false = grind (arith, nat_tests) in
      let short : to - from ≡ 0 = omega arith in
      let over : nat_lt (m - at) (to - from) ≡ false = grind (arith, nat_tests) in
      let none : block_in from to at m ≡ None = elim (nat_lt m at) as
      (λ b. (if b then None else (if nat_lt (m - at) (to - from) then Some (from + (m - at)) else None)) ≡ None) [ true ↦ refl | false ↦ rw over refl ] in
      let is : view ts ls (band_walk f e) end (pos m) ≡ behind m end =
      band_view m end 0 (inr (le, refl))
      ∙ ap (λ b. if b then ended (int_le (pos 0) (pos (m + 1))) false before else
      (if int_lt (pos m) (pos (0 + (to - from))) then ended (int_le (pos (0 + (to - from))) (pos (m + 1))) false (within m) else behind m end)) (lt_no m 0 (omega arith))
      ∙ ap (λ b. if b then ended (int_le (pos (0 + (to - from))) (pos (m + 1))) false (within m) else behind m end) (lt_no m (0 + (to - from)) (omega (arith, short))) in
      subst (Shows m) (sym is) (out_shows m end lt none (λ _. ap (λ b. b && (nat_eq (m + 1) at || nat_eq (m + 1) (at + (to - from)))) some))

  -- a block that has coordinates
  module _ (m : ℕ) (end : ℤ) (lt : m < f.extent) (some : from < to) where
    abbrev stop : ℕ
    stop = at + (to - from)

    there : nat_lt from to ≡ true
    there = grind (arith, nat_tests)

    ends_is : (b : Bool) → (nat_eq (m + 1) at || nat_eq (m + 1) stop) ≡ b → ends m ≡ b
    ends_is b is = ap (λ x. x && (nat_eq (m + 1) at || nat_eq (m + 1) stop)) there ∙ is

    before_shows : m < at → Shows m (view ts ls (band_walk f e) end (pos m))
    before_shows l =
        let out : nat_lt m at ≡ true = grind (arith, nat_tests) in
        let none : block_in from to at m ≡ None = rw out refl in
        let high : nat_eq (m + 1) stop ≡ false = (let ne : m + 1 < stop = omega arith in grind (arith, nat_tests)) in
        let is : view ts ls (band_walk f e) end (pos m) ≡ ended (int_le (pos at) (pos (m + 1))) false before =
        band_view m end at (inl (some, refl))
        ∙ ap (λ b. if b then ended (int_le (pos at) (pos (m + 1))) false before else
        (if int_lt (pos m) (pos stop) then ended (int_le (pos stop) (pos (m + 1))) false (within m) else behind m end)) (lt_yes m at l) in
        subst (Shows m) (sym is)
        (⊎_elim
        (λ (far : m + 1 < at).
        let low : nat_eq (m + 1) at ≡ false = grind (arith, nat_tests) in
        let off : (nat_eq (m + 1) at || nat_eq (m + 1) stop) ≡ false = rw (low, high) refl in
        subst (λ b. Shows m (ended b false before)) (sym (le_no at (m + 1) far))
        (record { sight = ap (sight_or f s) (sym none); varies = sym (ap is_some none); ends = λ _. sym (ends_is false off); stop = λ x. x }))
        (λ (near : at ≤ m + 1).
        let eq : m + 1 ≡ at = omega arith in
        let low : nat_eq (m + 1) at ≡ true = grind (arith, nat_tests) in
        let on : (nat_eq (m + 1) at || nat_eq (m + 1) stop) ≡ true = rw low refl in
        subst (λ b. Shows m (ended b false before)) (sym (le_yes at (m + 1) near))
        (record { sight = ap (sight_or f s) (sym none); varies = sym (ap is_some none); ends = λ _. sym (ends_is true on); stop = λ x. x }))
        (cases_lt (m + 1) at))

    within_shows : at ≤ m → m < stop → Shows m (view ts ls (band_walk f e) end (pos m))
    within_shows l u =
        let a : nat_lt m at ≡ false = grind (arith, nat_tests) in
        let short : m - at < to - from = omega arith in
        let b : nat_lt (m - at) (to - from) ≡ true = grind (arith, nat_tests) in
        let found : block_in from to at m ≡ Some (from + (m - at)) = rw (a, b) refl in
        let low : nat_eq (m + 1) at ≡ false = (let ne : at < m + 1 = omega arith in grind (arith, nat_tests)) in
        let seen = leaf_value ts f e s p h.is (slice_set ls (f.cursor + 1) (pos m)) (block_place f e) (from + (m - at)) (place_is m l lt) ∙ ap (sight_or f s) (sym found) in
        let is : view ts ls (band_walk f e) end (pos m) ≡ ended (int_le (pos stop) (pos (m + 1))) false (within m) =
        band_view m end at (inl (some, refl))
        ∙ ap (λ x. if x then ended (int_le (pos at) (pos (m + 1))) false before else
        (if int_lt (pos m) (pos stop) then ended (int_le (pos stop) (pos (m + 1))) false (within m) else behind m end)) (lt_no m at l)
        ∙ ap (λ x. if x then ended (int_le (pos stop) (pos (m + 1))) false (within m) else behind m end) (lt_yes m stop u) in
        subst (Shows m) (sym is)
        (⊎_elim
        (λ (far : m + 1 < stop).
        let high : nat_eq (m + 1) stop ≡ false = grind (arith, nat_tests) in
        let off : (nat_eq (m + 1) at || nat_eq (m + 1) stop) ≡ false = rw (low, high) refl in
        subst (λ x. Shows m (ended x false (within m))) (sym (le_no stop (m + 1) far)) (record { sight = seen; varies = sym (ap is_some found); ends = λ _. sym (ends_is false off); stop = λ x. x }))
        (λ (near : stop ≤ m + 1).
        let eq : m + 1 ≡ stop = omega arith in
        let high : nat_eq (m + 1) stop ≡ true = grind (arith, nat_tests) in
        let on : (nat_eq (m + 1) at || nat_eq (m + 1) stop) ≡ true = rw (low, high) refl in
        subst (λ x. Shows m (ended x false (within m))) (sym (le_yes stop (m + 1) near)) (record { sight = seen; varies = sym (ap is_some found); ends = λ _. sym (ends_is true on); stop = λ x. x }))
        (cases_lt (m + 1) stop))

    behind_shows : stop ≤ m → Shows m (view ts ls (band_walk f e) end (pos m))
    behind_shows u =
        let a : nat_lt m at ≡ false = (let le : at ≤ m = omega arith in grind (arith, nat_tests)) in
        let long : to - from ≤ m - at = omega arith in
        let b : nat_lt (m - at) (to - from) ≡ false = grind (arith, nat_tests) in
        let none : block_in from to at m ≡ None = rw (a, b) refl in
        let low : nat_eq (m + 1) at ≡ false = (let ne : at < m + 1 = omega arith in grind (arith, nat_tests)) in
        let high : nat_eq (m + 1) stop ≡ false = (let ne : stop < m + 1 = omega arith in grind (arith, nat_tests)) in
        let off : (nat_eq (m + 1) at || nat_eq (m + 1) stop) ≡ false = rw (low, high) refl in
        let is : view ts ls (band_walk f e) end (pos m) ≡ behind m end =
        band_view m end at (inl (some, refl))
        ∙ ap (λ x. if x then ended (int_le (pos at) (pos (m + 1))) false before else
        (if int_lt (pos m) (pos stop) then ended (int_le (pos stop) (pos (m + 1))) false (within m) else behind m end)) (lt_no m at (omega arith))
        ∙ ap (λ x. if x then ended (int_le (pos stop) (pos (m + 1))) false (within m) else behind m end) (lt_no m stop u) in
        subst (Shows m) (sym is) (out_shows m end lt none (λ _. ends_is false off))

  pub band_shows : (m : ℕ) (end : ℤ) → m < f.extent → Shows m (view ts ls (band_walk f e) end (pos m))
  band_shows m end lt =
      ⊎_elim
      (λ (some : from < to).
      ⊎_elim (λ (l : m < at). before_shows m end lt some l)
      (λ (l : at ≤ m). ⊎_elim (λ (u : m < at + (to - from)). within_shows m end lt some l u) (λ (u : at + (to - from) ≤ m). behind_shows m end lt some u) (cases_lt m (at + (to - from))))
      (cases_lt m at))
      (λ (le : to ≤ from). empty_shows m end lt le)
      (cases_lt from to)

  pub band_sound : (bound served : Places) (m : ℕ) → m < f.extent → SoundWithin bound ts ls (band_walk f e) served (pos m)
  band_sound bound served m lt =
      let y = value ts ls (block_begin f e) in
      let z = value ts ls (block_end f e) in
      sound_phase bound ts ls (filled f (block_begin f e)) (block f e ∷ rest f ∷ []) served (pos m)
      (elim (int_lt (pos m) y) as (λ b. (((b ≡ true) × Unit {0}) ⊎ ((b ≡ false) × SoundWithin bound ts ls (Sequence (block f e ∷ rest f ∷ [])) served (pos m)))) [
        | true ↦ inl (refl, tt)
        | false ↦ inr (
          refl,
          sound_phase bound ts ls (block f e) (rest f ∷ []) served (pos m)
              (elim (int_lt (pos m) z) as (λ c. ((c ≡ true) × Unit {0}) ⊎ ((c ≡ false) × SoundWithin bound ts ls (Sequence (rest f ∷ [])) served (pos m))) [
                | true ↦ inl (refl, tt)
                | false ↦ inr (refl, rest_sound bound ts ls f served m lt)
              ]),
        )
      ])
