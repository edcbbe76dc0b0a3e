-- Which leaf the looplet of a driven read shows at a coordinate of its loop.
use Rattle.std.proofs.Common.{◌≡◌, ⊎_elim, inl, inr, ℕ, ◌+◌, ◌<◌, ◌≤◌, ◌^◌, ℤ, pos, negsuc, ◌+ℤ◌, ◌-ℤ◌, ◌≤ℤ◌, ◌<ℤ◌, Bool, true, false, List, length, refl, sym, ap, ◌∙◌, arith, if◌then◌else◌}
use Rattle.std.specs.Prelude.{nat_lt, slice_set}
use Rattle.std.proofs.lemmas.Bool.Decides.{nat_tests}
use borrow.Author.Differences.{up, down, lt_out, le_out, below_in, at_most_in}
use Rattle.fin_tensor.specs.declared.format.Format.{Format}
use Rattle.fin_ast.specs.Value.{Numbers, place}
use Rattle.fin_ir.specs.declared.expression.IExpr.{IExpr}
use Rattle.fin_ir.specs.declared.expression.IExpr.TheVariants.{Num}
use Rattle.fin_ir.specs.Value.{is_off}
use Rattle.fin_ir.proofs.Values.{value_num}
use Rattle.fin_looplet.specs.declared.looplet.Looplet.{Looplet}
use Rattle.fin_looplet.specs.View.{Store, value, view, View, Sight, gap, position, absent}
use Rattle.fin_looplet.proofs.Bridges.{view_shift}
use Rattle.fin_unfurl.specs.Fibres as storage
use Rattle.fin_unfurl.specs.Fibres.{Asked, IsApart, StandsAt}
use Rattle.fin_unfurl.specs.Shifts.{edged}
use Rattle.fin_unfurl.proofs.Small.{natural}
use Rattle.fin_unfurl.proofs.Means.{shows}
use Rattle.fin_unfurl.proofs.Edges.{sub_of, Before, Inside, Behind, where_is, view_before, view_inside, view_behind}
use Rattle.fin_simp.specs.Work.{Driven}
use Rattle.fin_drive.specs.declared.reading.Reading.{Reading}
use Rattle.fin_drive.specs.declared.reading.Spot.{Spot}
use Rattle.fin_drive.specs.Looplets.{other, fibre_at, driven_looplet}
use Rattle.fin_drive.specs.Standing.{asked_by, IsDriven, StaysIn, shown_at, ShowsLeaves, ShowsTensor}
use Rattle.fin_drive.proofs.Offsets.{Meets, other_small, place_is, meets}
use Rattle.fin_drive.proofs.Fibres.{fibre_by}
use Rattle.fin_drive.proofs.Along.{Kinds, kinds, lands, moved_is, bare_is}

-- ---- inside of the extent and outside

module _ (g : ℕ → Sight) (n : ℕ) (fill : ℤ) where
  abbrev on : ℤ → Sight
  on = shown_at g n fill

  on_inside : (m : ℕ) → m < n → on (pos m) ≡ g m
  on_inside m lt = let held : nat_lt m n ≡ true = grind (arith, nat_tests) in ap (λ b. if b then g m else gap fill) held

  on_behind : (w : ℤ) → pos n ≤ℤ w → on w ≡ gap fill
  on_behind (pos m) h =
      let le : n ≤ m = omega (arith, le_out (pos n) (pos m) h) in
      let out : nat_lt m n ≡ false = grind (arith, nat_tests) in
      ap (λ b. if b then g m else gap fill) out
  on_behind (negsuc m) h = refl

  on_before : (w : ℤ) → w <ℤ pos 0 → on w ≡ gap fill
  on_before (pos m) h = absurd (omega (arith, lt_out (pos m) (pos 0) h))
  on_before (negsuc m) h = refl

  on_same : (w z : ℤ) → Meets n w z → on w ≡ on z
  on_same w z (inl e) = ap on e
  on_same w z (inr (inl h)) = on_behind w h.0 ∙ sym (on_behind z h.1)
  on_same w z (inr (inr h)) =
      on_before w (below_in w (pos 0) (omega (arith, lt_out w (negsuc 0) h.0))) ∙ sym (on_before z (below_in z (pos 0) (omega (arith, lt_out z (negsuc 0) h.1))))

  -- ---- with an edge

  module _ (child : Looplet) (by : IExpr) (small : n ≤ 2 ^ 40) (ts : Store) (ls : List ℤ) (shown : (end : ℤ) (m : ℕ) → m < n → (view ts ls child end (pos m)).seen.sight ≡ g m) where
    edged_leaf : (c : ℕ) (end : ℤ) → c < 2 ^ 40 → (view ts ls (edged child by n fill) end (pos c)).seen.sight ≡ on (pos c -ℤ value ts ls by)
    edged_leaf c end lt =
        let w = pos c -ℤ value ts ls by in
        let sub = sub_of (pos c) (value ts ls by) in
        ⊎_elim
        (λ (h : Before child by n fill small ts ls c). ap (λ (v : View). v.seen.sight) (view_before child by n fill small ts ls c end lt h)
        ∙ sym (on_before w (below_in w (pos 0) (omega (arith, sub, h)))))
        (λ r. ⊎_elim
        (λ (h : Inside child by n fill small ts ls c).
        let m = natural w (at_most_in (pos 0) w (omega (arith, sub, h))) in
        let inner : m.0 < n = omega (arith, sub, h, ap up m.1, ap down m.1) in
        ap (λ (v : View). v.seen.sight) (view_inside child by n fill small ts ls c end lt h)
        ∙ ap (λ (y : ℤ). (view ts ls child (pos n) y).seen.sight) m.1 ∙ shown (pos n) m.0 inner ∙ sym (on_inside m.0 inner) ∙ ap on (sym m.1))
        (λ (h : Behind child by n fill small ts ls c). ap (λ (v : View). v.seen.sight) (view_behind child by n fill small ts ls c end lt h)
        ∙ sym (on_behind w (at_most_in (pos n) w (omega (arith, sub, h)))))
        r) (where_is child by n fill small ts ls c)

-- ---- along a region

module _ (format : Format) (r : Reading) (spot : Spot) (within : r.level < length format.levels) (apart : IsApart r.cursor spot.place) where
  abbrev a : Asked
  a = asked_by format r spot

  abbrev fibre : Looplet
  fibre = fibre_at format r spot.place spot.there

  module _ (ts : Store) (ls : List ℤ) (vars : Numbers) (d : Driven) (lo hi : ℕ) (h : IsDriven ts ls format r spot vars d) (stays : StaysIn r vars d lo hi) (g : ℕ → Sight)
      (shown : (end : ℤ) (m : ℕ) → m < r.extent → (view ts ls fibre end (pos m)).seen.sight ≡ g m) (end : ℤ) (c : ℕ) (low : lo ≤ c) (high : c < hi) where
    abbrev z : ℤ
    z = pos (c + h.other_number) +ℤ r.index.offset

    abbrev target : ℤ → Sight
    target = shown_at g r.extent format.fill

    abbrev leaf_of : Looplet → Sight
    leaf_of l = (view ts ls l end (pos c)).seen.sight

    lt : c < 2 ^ 40
    lt = omega (arith, high, stays.top)

    leaf_kind : (l : Looplet) → Kinds r format.fill fibre spot.by l → leaf_of l ≡ target z
    leaf_kind l (inl q) =
        let m = lands format r spot within apart ts ls vars d lo hi h stays q.1 c low high in
        let is : pos c ≡ pos m.0 = sym (bare_is format r spot within apart ts ls vars d lo hi h stays q.2 q.3 c) ∙ m.1 in
        ap leaf_of q.0 ∙ ap (λ (y : ℤ). (view ts ls fibre end y).seen.sight) is ∙ shown end m.0 m.2 ∙ sym (on_inside g r.extent format.fill m.0 m.2) ∙ ap target (sym m.1)
    leaf_kind l (inr (inl q)) =
        let b = value ts ls spot.by in
        ap leaf_of q.0 ∙ edged_leaf g r.extent format.fill fibre spot.by h.small ts ls shown c end lt ∙ ap (λ y. target (pos c -ℤ y)) h.behind
        ∙ on_same g r.extent format.fill _ z (meets c h.other_number r.extent r.index.offset lt (other_small vars (other r) h.other_number h.others) h.small)
    leaf_kind l (inr (inr q)) =
        let m = lands format r spot within apart ts ls vars d lo hi h stays q.1 c low high in
        let is = moved_is format r spot within apart ts ls vars d lo hi h stays q.1 c low high in
        let far = end -ℤ value ts ls spot.by in
        ap leaf_of q.0 ∙ ap (λ (v : View). v.seen.sight) (view_shift ts ls spot.by fibre end (pos c)) ∙ ap (λ (y : ℤ). (view ts ls fibre far y).seen.sight) is ∙ shown far m.0 m.2
        ∙ sym (on_inside g r.extent format.fill m.0 m.2) ∙ ap target (sym m.1)

    driven_leaf : leaf_of (driven_looplet format r spot) ≡ target (place (slice_set vars r.var (pos c)) r.index)
    driven_leaf = leaf_kind (driven_looplet format r spot) (kinds r format.fill fibre spot.by) ∙ ap target (sym (place_is vars r.var c h.other_number h.bound r.index h.differs h.last h.others))

  -- a fibre that is settled, at its stand
  settled_leaf : (ts : Store) (ls : List ℤ) (stand : storage.Stand) (s : Bool) → s ≡ true → StandsAt ts ls a stand → (end : ℤ) (m : ℕ) → m < r.extent
      → (view ts ls (fibre_by a s (r.cursor + 1)) end (pos m)).seen.sight ≡ storage.sight_at a stand m
  settled_leaf ts ls stand true e at end m small = (shows a within apart ts ls stand at m end small).sight
  settled_leaf ts ls stand false e at end m small = let x : false ≡ true = e in cc

  there_is : (b : Bool) (w : ℤ) → b ≡ false → w ≡ pos 0 → (if b then absent else position r.tensor 0 w) ≡ position r.tensor 0 (pos 0)
  there_is true w e k = let x : true ≡ false = e in cc
  there_is false w e k = ap (position r.tensor 0) k

  -- one that isn't
  tensor_leaf : (ts : Store) (ls : List ℤ) (s : Bool) → s ≡ false → (end : ℤ) (m : ℕ) → (view ts ls (fibre_by a s (r.cursor + 1)) end (pos m)).seen.sight ≡ position r.tensor 0 (pos 0)
  tensor_leaf ts ls true e end m = let x : true ≡ false = e in cc
  tensor_leaf ts ls false e end m =
      let inner = slice_set ls (r.cursor + 1) (pos m) in
      there_is (is_off (value ts inner (Num (pos 1)))) (value ts inner (Num (pos 0))) (ap is_off (value_num ts inner (pos 1))) (value_num ts inner (pos 0))

  pub driven_leaves : ShowsLeaves format r spot (driven_looplet format r spot)
  driven_leaves end stand ts ls vars d lo hi h stays c low high settled at =
      driven_leaf ts ls vars d lo hi h stays (storage.sight_at a stand) (λ end' m small. settled_leaf ts ls stand r.settled settled at end' m small) end c low high

  pub driven_tensor : ShowsTensor format r spot (driven_looplet format r spot)
  driven_tensor end ts ls vars d lo hi h stays c low high unsettled =
      driven_leaf ts ls vars d lo hi h stays (λ m. position r.tensor 0 (pos 0)) (λ end' m small. tensor_leaf ts ls r.settled unsettled end' m) end c low high
