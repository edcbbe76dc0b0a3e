-- The unfurled looplet means the fibre.
use Rattle.std.proofs.Common.{◌≡◌, ℕ, ◌+◌, ◌-◌, ◌<◌, ◌≤◌, List, length, refl, sym, ap, ◌∙◌, subst, Some, None, Bool, true, false, ℤ, pos, ◌+ℤ◌, ◌<ℤ◌, arith}
use Rattle.std.specs.Prelude.{min, nat_eq, slice_index, slice_index_or, Option, Result, IfOk, if◌then◌else◌}
use Rattle.std.proofs.lemmas.Result.{IfOk-weaker}
use Rattle.std.specs.List.{filter, range_with_len}
use borrow.Author.Differences.{up, down, lt_out, le_out, below_in, at_most_in}
use Rattle.fin_tensor.specs.declared.format.Level.{Level}
use Rattle.fin_tensor.specs.declared.format.Level.TheVariants as level
use Rattle.fin_tensor.specs.declared.part.Part.{Part}
use Rattle.fin_tensor.specs.declared.part.Part.TheVariants as part
use Rattle.fin_tensor.specs.Levels.{IsAt, IsLevel, fibres, child_in}
use Rattle.fin_tensor.specs.Pieces.{walked, holds_number, stored_length, ends_after}
use Rattle.fin_tensor.proofs.ByLines.{valid_by_lines}
use Rattle.fin_tensor.proofs.Fibres.{level_keys, level_runs}
use Rattle.fin_tensor.proofs.Pieces.{ends_are_breaks, stored_are_few}
use Rattle.fin_tensor.proofs.Walk.{level_at, stored_lengths, stored_levels}
use Rattle.fin_ir.specs.Frozen.{Frozen}
use Rattle.fin_ir.specs.Loads.{part_at}
use Rattle.fin_ir.specs.Meaning.{span}
use Rattle.fin_looplet.specs.declared.looplet.Looplet.{Looplet}
use Rattle.fin_looplet.specs.View.{Store, view, View, gap, word, position}
use Rattle.fin_looplet.specs.Sound.{Places, anywhere, SoundWithin}
use Rattle.fin_unfurl.specs.declared.fibre.Fibre.{Fibre}
use Rattle.fin_unfurl.specs.Fibres.{Asked, IsApart, Stand, nowhere, at, IsPlaced, StandsAt, sight_of, sight_at, varies_at, BreaksAt, length_of, ShowsLeaves, ShowsVarying, ShowsBreaks, IsSound, HasFewStops, OwnsTwo, DependsOnPlace}
use Rattle.fin_unfurl.specs.Walks.{walk_of, fibre_of, guarded, unfurl_of}
use Rattle.fin_unfurl.proofs.Small.{natural, sub_is}
use Rattle.fin_unfurl.proofs.Places.{Here, sight_below}
use Rattle.fin_unfurl.proofs.Shows.{ShowsAt, sight_or}
use Rattle.fin_unfurl.proofs.Walked.{stop_after, walk_shows, walk_sound}
use Rattle.fin_unfurl.proofs.Guards.{guarded_on, guarded_off, guarded_sound_on, guarded_sound_off}
use Rattle.fin_unfurl.proofs.Dependence.{guarded_owns, guarded_free}
use Rattle.fin_unfurl.proofs.Counts.{filter_at_most, filter_none, span_is}

abbrev pub ends_of : Asked → Stand → ℕ → Bool
ends_of a nowhere i = false
ends_of a (at s p) i = ends_after walked (part_at s.parts a.level) p i

abbrev pub stops_of : Asked → Stand → ℕ → Bool
stops_of a nowhere i = false
stops_of a (at s p) i = stop_after (part_at s.parts a.level) p i

module _ (a : Asked) (within : a.level < length a.format.levels) (apart : IsApart a.cursor a.place) where
  abbrev kind : Level
  kind = slice_index_or a.format.levels a.level level.Dense

  abbrev made : Looplet
  made = unfurl_of a

  module _ (ts : Store) (ls : List ℤ) where
    in_parts : (s : Frozen) (p : ℕ) → IsPlaced ts ls a s p → a.level < length s.parts
    in_parts s p h = omega (arith, within, stored_lengths 1 a.format.levels s.shape s.parts s.val h.valid, stored_levels 1 a.format.levels s.shape s.parts s.val h.valid)

    stands_at : (s : Frozen) (p : ℕ) → IsPlaced ts ls a s p → IsAt a.extent (part_at s.parts a.level) p
    stands_at s p h = subst (λ (n : ℕ). IsAt n (part_at s.parts a.level) p) h.extent (level_at a.level 1 a.format.levels s.shape s.parts s.val p h.valid (in_parts s p h) h.within)

    here : (s : Frozen) (p : ℕ) → IsPlaced ts ls a s p → Here ts ls (fibre_of a) a.place s p
    here s p h = record { is = h.is; at = stands_at s p h; within = h.within; extent = h.extent; room = h.room; here = h.here; apart = apart }

    is_level : (s : Frozen) (p : ℕ) → IsPlaced ts ls a s p → IsLevel kind a.extent (fibres s.shape s.parts 1 a.level) (part_at s.parts a.level)
    is_level s p h =
        let lines = (valid_by_lines a.format.levels s.shape s.parts s.val).0 h.valid in
        subst (λ (n : ℕ). IsLevel kind n (fibres s.shape s.parts 1 a.level) (part_at s.parts a.level)) h.extent (lines.levels_are a.level (in_parts s p h))

    -- the level below is the next one
    below_is : (s : Frozen) (few : length a.format.levels ≤ 8) (o : Option ℕ) → sight_or (fibre_of a) s o ≡ sight_of a s o
    below_is s few None = refl
    below_is s few (Some q) =
        let small : min (a.level + 1) 255 ≡ a.level + 1 = omega (arith, within, few) in
        elim (nat_eq (a.level + 1) (length a.format.levels)) as (λ b. sight_below a.tensor s.val (if b then None else Some (min (a.level + 1) 255)) q
        ≡ (if b then word (slice_index_or s.val q (pos 0)) else position a.tensor (a.level + 1) (pos q))) [
          | true ↦ refl
          | false ↦ ap (λ (k : ℕ). position a.tensor k (pos q)) small
        ]

    pub shows : (stand : Stand) → StandsAt ts ls a stand → (m : ℕ) (end : ℤ) → m < a.extent
        → ShowsAt (view ts ls made end (pos m)) (sight_at a stand m) (varies_at a stand m) (ends_of a stand m) (stops_of a stand m) (m + 1 < a.extent)
    unfolding unfurl_of
    shows nowhere off m end lt =
        subst (λ (v : View). ShowsAt v (gap a.format.fill) false false false (m + 1 < a.extent)) (sym (guarded_off ts ls (fibre_of a) a.there (walk_of kind (fibre_of a) a.place) end (pos m) off))
        (record { sight = refl; varies = refl; ends = λ _. refl; stop = λ x. x })
    shows (at s p) h m end lt =
        let x = part_at s.parts a.level in
        let w = walk_shows ts ls (fibre_of a) a.place s p (here s p h) (fibres s.shape s.parts 1 a.level) kind x refl (is_level s p h) m end lt in
        subst (λ (v : View). ShowsAt v (sight_at a (at s p) m) (varies_at a (at s p) m) (ends_of a (at s p) m) (stops_of a (at s p) m) (m + 1 < a.extent))
        (sym (guarded_on ts ls (fibre_of a) a.there (walk_of kind (fibre_of a) a.place) end (pos m) h.there))
        (record { sight = w.sight ∙ below_is s h.few (child_in a.extent x p m); varies = w.varies; ends = w.ends; stop = w.stop })

    pub sound_at : (bound served : Places) (stand : Stand) → StandsAt ts ls a stand → (m : ℕ) → m < a.extent → SoundWithin bound ts ls made served (pos m)
    unfolding unfurl_of
    sound_at bound served nowhere off m lt = guarded_sound_off ts ls (fibre_of a) a.there (walk_of kind (fibre_of a) a.place) bound served (pos m) off
    sound_at bound served (at s p) h m lt =
        guarded_sound_on ts ls (fibre_of a) a.there (walk_of kind (fibre_of a) a.place) bound served (pos m) h.there
        (walk_sound ts ls (fibre_of a) a.place s p (here s p h) (fibres s.shape s.parts 1 a.level) kind (part_at s.parts a.level) refl (is_level s p h) bound served m lt)

    breaks_in : (stand : Stand) → StandsAt ts ls a stand → (i : ℕ) → ends_of a stand i ≡ true → BreaksAt a stand (i + 1)
    breaks_in nowhere h i e = cc
    breaks_in (at s p) h i e = (ends_are_breaks walked a.extent (part_at s.parts a.level) p i (stands_at s p h)).0 e

    breaks_out : (stand : Stand) → StandsAt ts ls a stand → (i : ℕ) → BreaksAt a stand (i + 1) → ends_of a stand i ≡ true
    breaks_out nowhere h i b = absurd b
    breaks_out (at s p) h i b = (ends_are_breaks walked a.extent (part_at s.parts a.level) p i (stands_at s p h)).1 b

    -- of the coordinates of a region at most so many stop
    pub few_stops : (stand : Stand) → StandsAt ts ls a stand → (lo m : ℕ) → length (filter (λ k. stops_of a stand (lo + k)) (range_with_len 0 m)) ≤ length_of a stand
    few_stops nowhere h lo m = omega (arith, filter_none 0 m)
    few_stops (at s p) h lo m = of_part (part_at s.parts a.level) (stands_at s p h)
      where
        of_part : (x : Part) → IsAt a.extent x p → length (filter (λ k. stop_after x p (lo + k)) (range_with_len 0 m)) ≤ stored_length walked x p
        of_part part.Dense i = omega (arith, filter_none 0 m)
        of_part (part.Keys ptr idx) i =
            let lines = level_keys i.kind a.extent i.count ptr idx i.level in
            let from = slice_index ptr p in
            let to = slice_index ptr (p + 1) in
            let weaker = filter_at_most (λ k. holds_number idx from to (lo + k)) (λ k. holds_number idx from to (k + lo)) 0 m
            (λ k l u x. let e : lo + k ≡ k + lo = omega arith in subst (λ (y : ℕ). holds_number idx from to y ≡ true) e x) in
            omega (arith, weaker, stored_are_few idx from to lo 0 m (lines.0.rises p i.within))
        of_part (part.Runs ptr stop) i =
            let lines = level_runs i.kind a.extent i.count ptr stop i.level in
            let from = slice_index ptr p in
            let to = slice_index ptr (p + 1) in
            let weaker = filter_at_most (λ k. holds_number stop from to (lo + k + 1)) (λ k. holds_number stop from to (k + (lo + 1))) 0 m
            (λ k l u x. let e : lo + k + 1 ≡ k + (lo + 1) = omega arith in subst (λ (y : ℕ). holds_number stop from to y ≡ true) e x) in
            omega (arith, weaker, stored_are_few stop from to (lo + 1) 0 m (lines.0.rises p i.within))
        of_part (part.Band ptr start) i = omega (arith, filter_none 0 m)

  pub made_leaves : ShowsLeaves a made
  made_leaves ts ls stand h end i lt = (shows ts ls stand h i end lt).sight

  pub made_varying : ShowsVarying a made
  made_varying ts ls stand h end i lt = (shows ts ls stand h i end lt).varies

  pub made_breaks : ShowsBreaks a made
  made_breaks ts ls stand h lo hi le x = (
    λ b.
        let after : lo < x = omega (arith, lt_out (pos lo) (pos x) b.after) in
        let before : x < hi = omega (arith, lt_out (pos x) (pos hi) b.before) in
        let e : x - 1 + 1 ≡ x = omega arith in
        let inner : x - 1 + 1 < a.extent = omega arith in
        let is = ap (λ (z : ℤ). (view ts ls made (pos hi) z).ends) (sub_is x 1 (omega arith)) in
        (after, before, subst (BreaksAt a stand) e (breaks_in ts ls stand h (x - 1) (sym ((shows ts ls stand h (x - 1) (pos hi) (omega arith)).ends inner) ∙ sym is ∙ b.ends))),
    λ b.
        let after : lo < x = b.0 in
        let before : x < hi = b.1 in
        let e : x ≡ x - 1 + 1 = omega arith in
        let inner : x - 1 + 1 < a.extent = omega arith in
        let is = ap (λ (z : ℤ). (view ts ls made (pos hi) z).ends) (sub_is x 1 (omega arith)) in
        record {
          after = below_in (pos lo) (pos x) (omega arith);
          before = below_in (pos x) (pos hi) (omega arith);
          ends = is ∙ (shows ts ls stand h (x - 1) (pos hi) (omega arith)).ends inner ∙ breaks_out ts ls stand h (x - 1) (subst (BreaksAt a stand) e b.2);
        },
  )

  pub made_sound : IsSound a made
  made_sound ts ls stand h lo hi le i low high =
      let n = natural i (at_most_in (pos 0) i (omega (arith, le_out (pos lo) i low))) in
      subst (SoundWithin anywhere ts ls made (λ j. j <ℤ pos hi)) (sym n.1)
      (sound_at ts ls anywhere (λ j. j <ℤ pos hi) stand h n.0 (omega (arith, le, lt_out i (pos hi) high, ap up n.1, ap down n.1)))

  pub made_stops : HasFewStops a made
  made_stops ts ls stand h lo hi le =
      let m = span (pos lo) (pos hi) - 1 in
      let long = span_is lo hi in
      let weaker = filter_at_most (λ k. (view ts ls made (pos hi) (pos lo +ℤ pos k)).stop) (λ k. stops_of a stand (lo + k)) 0 m
      (λ k l u x. (shows ts ls stand h (lo + k) (pos hi) (omega (arith, u, long, le))).stop x) in
      omega (arith, weaker, few_stops ts ls stand h lo m)

-- the looplet that is made of the fibre and its level is the unfurled one
made_is : (a : Asked) (f : Fibre) (l : Level) → f ≡ fibre_of a → l ≡ slice_index_or a.format.levels a.level level.Dense → guarded f a.there (walk_of l f a.place) ≡ unfurl_of a
unfolding unfurl_of
made_is a f l e k = ap (λ (x : Fibre). guarded x a.there (walk_of l x a.place)) e ∙ ap (λ (x : Level). guarded (fibre_of a) a.there (walk_of x (fibre_of a) a.place)) k

pub made_by : {E : Type 0} (a : Asked) (f : Fibre) (l : Level) (made : Result Looplet E) → f ≡ fibre_of a → l ≡ slice_index_or a.format.levels a.level level.Dense
    → IfOk made (λ x. x ≡ guarded f a.there (walk_of l f a.place)) → IfOk made (λ x. x ≡ unfurl_of a)
made_by a f l made e k = IfOk-weaker made (λ (x : Looplet). x ≡ guarded f a.there (walk_of l f a.place)) (λ (x : Looplet). x ≡ unfurl_of a) (λ x is. is ∙ made_is a f l e k)

pub made_owns : (a : Asked) → OwnsTwo a (unfurl_of a)
unfolding unfurl_of
made_owns a x o = guarded_owns (fibre_of a) a.place x (slice_index_or a.format.levels a.level level.Dense) a.there o

pub made_depends : (a : Asked) → DependsOnPlace a (unfurl_of a)
unfolding unfurl_of
made_depends a x h = guarded_free (fibre_of a) a.place x (slice_index_or a.format.levels a.level level.Dense) a.there h
