-- The looplet of a driven read stops only where its fibre has a place, and the entry of the loop is charged for each.
use Rattle.std.proofs.Common.{◌≡◌, ⊎_elim, inl, inr, ℕ, ◌+◌, ◌<◌, ◌≤◌, ◌^◌, ℤ, pos, negsuc, ◌+ℤ◌, ◌-ℤ◌, Bool, true, false, T, ◌&&◌, ◌||◌, List, length, None, refl, sym, ap, ◌∙◌, arith, subst}
use Rattle.std.specs.Prelude.{int_le, slice_set}
use Rattle.std.specs.List.{filter, range_with_len}
use borrow.Author.Differences.{up, down, same_in, sum_is_lem, at_most_in}
use Rattle.fin_tensor.specs.declared.format.Format.{Format}
use Rattle.fin_tensor.specs.declared.part.Part.{Part}
use Rattle.fin_tensor.specs.declared.part.Part.TheVariants as part
use Rattle.fin_ast.specs.declared.tree.Index.{Index}
use Rattle.fin_ast.specs.Value.{Numbers, place}
use Rattle.fin_looplet.specs.declared.looplet.Looplet.{Looplet}
use Rattle.fin_looplet.specs.declared.looplet.Looplet.TheVariants.{Shift}
use Rattle.fin_looplet.specs.View.{Store, value, view, View}
use Rattle.fin_looplet.proofs.Bridges.{view_shift}
use Rattle.fin_unfurl.specs.Fibres.{Asked, IsApart, nowhere, at}
use Rattle.fin_unfurl.specs.Shifts.{edged}
use Rattle.fin_unfurl.proofs.Small.{natural}
use Rattle.fin_unfurl.proofs.Counts.{filter_at_most, filter_none}
use Rattle.fin_unfurl.proofs.Walked.{stop_after}
use Rattle.fin_unfurl.proofs.Means.{shows, few_stops}
use Rattle.fin_unfurl.proofs.Edges.{sub_of, Before, Inside, Behind, where_is, view_before, view_inside, view_behind}
use Rattle.fin_simp.specs.Sights.{Stand, Nowhere, At, Unsettled, length_at}
use Rattle.fin_simp.specs.Work.{Driven, length_of}
use Rattle.fin_drive.specs.declared.reading.Reading.{Reading}
use Rattle.fin_drive.specs.declared.reading.Spot.{Spot}
use Rattle.fin_drive.specs.Looplets.{other, fibre_at, driven_looplet}
use Rattle.fin_drive.specs.Stopping.{part_stops, stand_stops, stops_after}
use Rattle.fin_drive.specs.Standing.{asked_by, StandsFor, IsDriven, StaysIn, StopsAtPlaces, IsPaid}
use Rattle.fin_drive.proofs.Ranges.{moved_at_most, counted}
use Rattle.fin_drive.proofs.Offsets.{other_small, place_is, meets_within}
use Rattle.fin_drive.proofs.Fibres.{fibre_by}
use Rattle.fin_drive.proofs.Along.{Kinds, kinds, lands, moved_is, bare_is}

same_stop : (x : Part) (q m : ℕ) → part_stops x q m ≡ stop_after x q m
same_stop part.Dense q m = refl
same_stop (part.Keys ptr idx) q m = refl
same_stop (part.Runs ptr stop) q m = refl
same_stop (part.Band ptr start) q m = refl

abbrev stops_known : Stand → ℕ → Bool
stops_known stand m = stand_stops stand (pos m)

-- a stop is at a coordinate of the level
known_at : (stand : Stand) (z : ℤ) → stand_stops stand z ≡ true → (j : ℕ) × (z ≡ pos j) × (stops_known stand j ≡ true)
known_at Nowhere z e = absurd (subst T (sym e) tt)
known_at Unsettled z e = absurd (subst T (sym e) tt)
known_at (At x q) (pos m) e = (m, refl, e)
known_at (At x q) (negsuc m) e = absurd (subst T (sym e) tt)

no_walk : (e s : Bool) → ((e && false) || s) ≡ s
no_walk true s = refl
no_walk false s = refl

module _ (a : Asked) (within : a.level < length a.format.levels) (apart : IsApart a.cursor a.place) (ts : Store) (ls : List ℤ) where
  fibre_stop : (settled : Bool) (coord : ℕ) (stand : Stand) → StandsFor ts ls a settled stand → (end : ℤ) (m : ℕ) → m < a.extent → (view ts ls (fibre_by a settled coord) end (pos m)).stop ≡ true
      → stops_known stand m ≡ true
  fibre_stop true coord Nowhere h end m lt e = (shows a within apart ts ls nowhere h m end lt).stop e
  fibre_stop true coord (At x q) h end m lt e = same_stop x q m ∙ ap (λ (y : Part). stop_after y q m) h.1 ∙ (shows a within apart ts ls (at h.0 q) h.2 m end lt).stop e
  fibre_stop true coord Unsettled h end m lt e = absurd h
  fibre_stop false coord Nowhere h end m lt e = absurd h
  fibre_stop false coord (At x q) h end m lt e = absurd h
  fibre_stop false coord Unsettled h end m lt e = e

  few_known : (settled : Bool) (stand : Stand) → StandsFor ts ls a settled stand → (i : Index) (lo m : ℕ)
      → length (filter (λ k. stops_known stand (lo + k)) (range_with_len 0 m)) ≤ length_at i.proto stand
  few_known settled Nowhere h i lo m = omega (arith, filter_none 0 m)
  few_known settled Unsettled h i lo m = omega (arith, filter_none 0 m)
  few_known true (At x q) h i lo m =
      let few = subst (λ (y : Part). length (filter (λ k. stop_after y q (lo + k)) (range_with_len 0 m)) ≤ length_at i.proto (At y q)) (sym h.1) (few_stops a within apart ts ls (at h.0 q) h.2 lo m) in
      omega (arith, few, filter_at_most (λ k. part_stops x q (lo + k)) (λ k. stop_after x q (lo + k)) 0 m (λ k l u e. sym (same_stop x q (lo + k)) ∙ e))
  few_known false (At x q) h i lo m = absurd h

module _ (format : Format) (r : Reading) (spot : Spot) (within : r.level < length format.levels) (apart : IsApart r.cursor spot.place) where
  abbrev a : Asked
  a = asked_by format r spot

  abbrev fibre : Looplet
  fibre = fibre_at format r spot.place spot.there

  module _ (ts : Store) (ls : List ℤ) (vars : Numbers) (d : Driven) (h : IsDriven ts ls format r spot vars d) where
    abbrev k : ℕ
    k = h.other_number

    abbrev z : ℕ → ℤ
    z c = pos (c + k) +ℤ r.index.offset

    points : (c : ℕ) → place (slice_set vars r.var (pos c)) d.index ≡ z c
    points c = ap (λ (i : Index). place (slice_set vars r.var (pos c)) i) h.index ∙ place_is vars r.var c k h.bound r.index h.differs h.last h.others

    stop_at : (end : ℤ) (m : ℕ) → m < r.extent → (view ts ls fibre end (pos m)).stop ≡ true → stops_known d.stand m ≡ true
    stop_at end m lt e = fibre_stop a within apart ts ls r.settled (r.cursor + 1) d.stand h.stands end m lt e

    module _ (lo hi : ℕ) (stays : StaysIn r vars d lo hi) (c : ℕ) (low : lo ≤ c) (high : c < hi) where
      -- the fibre has a place there
      abbrev Stops : Type 0
      Stops = (j : ℕ) × (z c ≡ pos j) × (stops_known d.stand j ≡ true)

      abbrev stop_of : Looplet → Bool
      stop_of l = (view ts ls l (pos hi) (pos c)).stop

      bare_stop : r.index.loose ≡ false → other r ≡ None → r.index.offset ≡ pos 0 → stop_of fibre ≡ true → Stops
      bare_stop plain alone unmoved e =
          let m = lands format r spot within apart ts ls vars d lo hi h stays plain c low high in
          let is : pos c ≡ pos m.0 = sym (bare_is format r spot within apart ts ls vars d lo hi h stays alone unmoved c) ∙ m.1 in
          (m.0, m.1, stop_at (pos hi) m.0 m.2 (ap (λ (y : ℤ). (view ts ls fibre (pos hi) y).stop) (sym is) ∙ e))

      moved_stop : r.index.loose ≡ false → stop_of (Shift spot.by fibre) ≡ true → Stops
      moved_stop plain e =
          let b = value ts ls spot.by in
          let m = lands format r spot within apart ts ls vars d lo hi h stays plain c low high in
          let is = moved_is format r spot within apart ts ls vars d lo hi h stays plain c low high in
          let stop = sym (ap (λ (v : View). v.stop) (view_shift ts ls spot.by fibre (pos hi) (pos c))) ∙ e in
          (m.0, m.1, stop_at (pos hi -ℤ b) m.0 m.2 (ap (λ (y : ℤ). (view ts ls fibre (pos hi -ℤ b) y).stop) (sym is) ∙ stop))

      abbrev n : ℕ
      n = r.extent

      abbrev w : ℤ
      w = pos c -ℤ value ts ls spot.by

      lt : c < 2 ^ 40
      lt = omega (arith, high, stays.top)

      inside_stop : Inside fibre spot.by n format.fill h.small ts ls c → stop_of (edged fibre spot.by n format.fill) ≡ true → Stops
      inside_stop i e =
          let sub = sub_of (pos c) (value ts ls spot.by) in
          let m = natural w (at_most_in (pos 0) w (omega (arith, sub, i))) in
          let inner : m.0 < n = omega (arith, sub, i, ap up m.1, ap down m.1) in
          let is : z c ≡ pos m.0 = meets_within c k n r.index.offset lt (other_small vars (other r) k h.others) h.small m.0 (sym (ap (λ y. pos c -ℤ y) h.behind) ∙ m.1) inner in (
            m.0,
            is,
            stop_at (pos n) m.0 inner (ap (λ (y : ℤ). (view ts ls fibre (pos n) y).stop) (sym m.1)
                ∙ sym (no_walk (int_le (value ts ls spot.by +ℤ pos n) (pos (c + 1))) (view ts ls fibre (pos n) w).stop)
                ∙ sym (ap (λ (v : View). v.stop) (view_inside fibre spot.by n format.fill h.small ts ls c (pos hi) lt i)) ∙ e),
          )

      edged_stop : stop_of (edged fibre spot.by n format.fill) ≡ true → Stops
      edged_stop e =
          ⊎_elim
          (λ (i : Before fibre spot.by n format.fill h.small ts ls c).
          absurd (subst T (sym (sym (no_walk (int_le (value ts ls spot.by) (pos (c + 1))) false)
          ∙ sym (ap (λ (v : View). v.stop) (view_before fibre spot.by n format.fill h.small ts ls c (pos hi) lt i)) ∙ e)) tt))
          (λ s. ⊎_elim
          (λ (i : Inside fibre spot.by n format.fill h.small ts ls c). inside_stop i e)
          (λ (i : Behind fibre spot.by n format.fill h.small ts ls c).
          absurd (subst T (sym (sym (no_walk (int_le (pos (2 ^ 40)) (pos (c + 1))) false)
          ∙ sym (ap (λ (v : View). v.stop) (view_behind fibre spot.by n format.fill h.small ts ls c (pos hi) lt i)) ∙ e)) tt))
          s) (where_is fibre spot.by n format.fill h.small ts ls c)

      stop_kind : (l : Looplet) → Kinds r format.fill fibre spot.by l → stop_of l ≡ true → Stops
      stop_kind l (inl q) e = bare_stop q.1 q.2 q.3 (sym (ap stop_of q.0) ∙ e)
      stop_kind l (inr (inl q)) e = edged_stop (sym (ap stop_of q.0) ∙ e)
      stop_kind l (inr (inr q)) e = moved_stop q.1 (sym (ap stop_of q.0) ∙ e)

  pub driven_stops : StopsAtPlaces format r spot (driven_looplet format r spot)
  driven_stops ts ls vars d lo hi h stays c low high e =
      let got = stop_kind ts ls vars d h lo hi stays c low high (driven_looplet format r spot) (kinds r format.fill fibre spot.by) e in
      ap (stand_stops d.stand) (points ts ls vars d h c ∙ got.1) ∙ got.2

  pub driven_paid : IsPaid format r spot
  driven_paid ts ls vars d h from m =
      let other = h.other_number in
      let o = r.index.offset in
      let by = pos 0 -ℤ (pos other +ℤ o) in
      let p = stops_after vars r.var d in
      let begun = moved_at_most p (λ i. p (from + i)) from 0 m (λ i small e. let y : from + i ≡ from + (0 + i) = omega arith in subst (λ j. p j ≡ true) y e) in
      let all = counted (stops_known d.stand) (length_of d) (λ lo count. few_known a within apart ts ls r.settled d.stand h.stands d.index lo count) (λ i. p (from + i)) from m by
      (λ i small e.
      let got = known_at d.stand (place (slice_set vars r.var (pos (from + i))) d.index) e in
      let is : pos (from + i + other) +ℤ o ≡ pos got.0 = sym (points ts ls vars d h (from + i)) ∙ got.1 in (
        got.0,
        same_in (pos (from + i) -ℤ by) (pos got.0) (omega (
          arith,
          sub_of (pos (from + i)) by,
          sub_of (pos 0) (pos other +ℤ o),
          sum_is_lem (pos other) o,
          sum_is_lem (pos (from + i + other)) o,
          ap up is,
          ap down is,
        )),
        got.2,
      )) in
      omega (arith, begun, all)
