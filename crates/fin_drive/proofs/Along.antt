-- The looplet of a driven read shows what the definition of work knows of it.
use Rattle.std.proofs.Common.{◌≡◌, ◌⊎◌, inl, inr, ℕ, ◌+◌, ◌<◌, ◌≤◌, ◌^◌, ℤ, pos, negsuc, ◌+ℤ◌, ◌-ℤ◌, ◌<ℤ◌, Bool, true, false, not, ◌&&◌, ◌||◌, List, length, Option, Some, None, refl, sym, ap, ◌∙◌, arith, subst, if◌then◌else◌}
use Rattle.std.specs.Prelude.{nat_eq, is_none, slice_set}
use Rattle.std.specs.Ordering.{int_eq}
use borrow.Author.Differences.{up, down, same_in, sum_is_lem, at_most_in}
use Rattle.fin_tensor.specs.declared.format.Format.{Format}
use Rattle.fin_tensor.specs.Pieces.{walked}
use Rattle.fin_ast.specs.declared.tree.Index.{Index}
use Rattle.fin_ast.specs.Value.{Numbers, place}
use Rattle.fin_ir.specs.declared.expression.IExpr.{IExpr}
use Rattle.fin_looplet.specs.declared.looplet.Looplet.{Looplet}
use Rattle.fin_looplet.specs.declared.looplet.Looplet.TheVariants.{Shift}
use Rattle.fin_looplet.specs.View.{Store, value, view, View}
use Rattle.fin_looplet.specs.Sound.{Places, SoundWithin, Near as IsNear}
use Rattle.fin_looplet.proofs.Bridges.{view_shift, sound_shift}
use Rattle.fin_unfurl.specs.Fibres.{Asked, IsApart, nowhere, at}
use Rattle.fin_unfurl.specs.Shifts.{edged, shift_of}
use Rattle.fin_unfurl.proofs.Small.{natural}
use Rattle.fin_unfurl.proofs.Means.{sound_at}
use Rattle.fin_unfurl.proofs.Edges.{Inside, edged_sound_at, sub_of}
use Rattle.fin_simp.specs.Sights as known
use Rattle.fin_simp.specs.Sights.{Stand, Nowhere, At, Unsettled, stand_sight, sight_at}
use Rattle.fin_simp.specs.Lasting.{IsInside}
use Rattle.fin_simp.specs.Work.{Driven, sight_of}
use Rattle.fin_drive.specs.declared.reading.Reading.{Reading}
use Rattle.fin_drive.specs.declared.reading.Spot.{Spot}
use Rattle.fin_drive.specs.Looplets.{other, back_offset, fibre_at, placed, driven_looplet}
use Rattle.fin_drive.specs.Watches.{Faces}
use Rattle.fin_drive.specs.Standing.{asked_by, StandsFor, OtherIs, IsDriven, StaysIn, ShowsDriven, IsSoundDriven}
use Rattle.fin_drive.proofs.Offsets.{other_small, place_is, meets, within_meets, reaches}
use Rattle.fin_drive.proofs.Fibres.{fibre_by, fibre_faces, edged_faces, inside_is, outside_same}

-- ---- which looplet it is

-- the fibre itself where the index is the loop's variable alone; with an edge; or moved
abbrev pub Kinds : Reading → ℤ → Looplet → IExpr → Looplet → Type 0
Kinds r fill fibre by l =
    ((l ≡ fibre) × (r.index.loose ≡ false) × (other r ≡ None) × (r.index.offset ≡ pos 0))
    ⊎ (((l ≡ edged fibre by r.extent fill) × (r.index.loose ≡ true)) ⊎ ((l ≡ Shift by fibre) × (r.index.loose ≡ false)))

none_is : (o : Option ℕ) → is_none o ≡ true → o ≡ None
none_is None e = refl
none_is (Some x) e = let y : false ≡ true = e in cc

zero_is : (z : ℤ) → int_eq z (pos 0) ≡ true → z ≡ pos 0
zero_is z e = grind (arith)

module _ (r : Reading) (fill : ℤ) (child : Looplet) (by : IExpr) where
  abbrev chosen : Bool → Bool → Bool → Looplet
  chosen l n z = if not l && (n && z) then child else shift_of child by (if l then Some (r.extent, fill) else None)

  kinds_by : (l n z : Bool) → r.index.loose ≡ l → is_none (other r) ≡ n → int_eq r.index.offset (pos 0) ≡ z → Kinds r fill child by (chosen l n z)
  kinds_by true n z e f g = inr (inl (refl, e))
  kinds_by false true true e f g = inl (refl, e, none_is (other r) f, zero_is r.index.offset g)
  kinds_by false true false e f g = inr (inr (refl, e))
  kinds_by false false z e f g = inr (inr (refl, e))

  pub kinds : Kinds r fill child by (placed r fill child by)
  kinds = kinds_by r.index.loose (is_none (other r)) (int_eq r.index.offset (pos 0)) refl refl refl

-- ---- along a region

module _ (format : Format) (r : Reading) (spot : Spot) (within : r.level < length format.levels) (apart : IsApart r.cursor spot.place) where
  abbrev a : Asked
  a = asked_by format r spot

  abbrev fibre : Looplet
  fibre = fibre_at format r spot.place spot.there

  module _ (ts : Store) (ls : List ℤ) (vars : Numbers) (d : Driven) (lo hi : ℕ) (h : IsDriven ts ls format r spot vars d) (stays : StaysIn r vars d lo hi) where
    abbrev k : ℕ
    k = h.other_number

    few : k < 2 ^ 40
    few = other_small vars (other r) k h.others

    abbrev z : ℕ → ℤ
    z c = pos (c + k) +ℤ r.index.offset

    abbrev w : ℕ → ℤ
    w c = pos c -ℤ value ts ls spot.by

    points : (c : ℕ) → place (slice_set vars r.var (pos c)) r.index ≡ z c
    points c = place_is vars r.var c k h.bound r.index h.differs h.last h.others

    back_is : (c : ℕ) → w c ≡ pos c -ℤ (back_offset r.index.offset -ℤ pos k)
    back_is c = ap (λ y. pos c -ℤ y) h.behind

    faces : (end : ℤ) (m : ℕ) → m < r.extent → Faces (view ts ls fibre end (pos m)) (stand_sight walked r.extent d.stand m) format.fill (m + 1 < r.extent)
    faces end m lt = fibre_faces a within apart ts ls r.settled (r.cursor + 1) d.stand h.stands end m lt

    sound : (served : Places) (m : ℕ) → m < r.extent → SoundWithin IsNear ts ls fibre served (pos m)
    sound served m lt = sound_by r.settled d.stand h.stands where
      sound_by : (s : Bool) (stand : Stand) → StandsFor ts ls a s stand → SoundWithin IsNear ts ls (fibre_by a s (r.cursor + 1)) served (pos m)
      sound_by true Nowhere s = sound_at a within apart ts ls IsNear served nowhere s m lt
      sound_by true (At part q) s = sound_at a within apart ts ls IsNear served (at s.0 q) s.2 m lt
      sound_by true Unsettled s = absurd s
      sound_by false Nowhere s = absurd s
      sound_by false (At part q) s = absurd s
      sound_by false Unsettled s = tt

    sound_number : (served : Places) (y : ℤ) (m : ℕ) → y ≡ pos m → m < r.extent → SoundWithin IsNear ts ls fibre served y
    sound_number served y m e lt = subst (SoundWithin IsNear ts ls fibre served) (sym e) (sound served m lt)

    -- what the definition of work knows
    knows : (c : ℕ) → sight_at r.index r.extent d.stand (z c) ≡ sight_of vars r.var c d
    knows c =
        let p = place (slice_set vars r.var (pos c)) r.index in
        ap (sight_at r.index r.extent d.stand) (sym (points c))
        ∙ ap (λ n. sight_at r.index n d.stand p) (sym h.extent)
        ∙ ap (λ (i : Index). sight_at i d.extent d.stand (place (slice_set vars r.var (pos c)) i)) (sym h.index)

    -- a plain index stays inside
    pub lands : r.index.loose ≡ false → (c : ℕ) → lo ≤ c → c < hi → (m : ℕ) × (z c ≡ pos m) × (m < r.extent)
    lands plain c low high = by_case (stays.inside c low high) where
      by_case : IsInside d.index d.extent (place (slice_set vars r.var (pos c)) d.index) → (m : ℕ) × (z c ≡ pos m) × (m < r.extent)
      by_case (inl e) = let x : true ≡ false = sym e ∙ ap (λ (i : Index). i.loose) h.index ∙ plain in cc
      by_case (inr q) = (q.0, sym (points c) ∙ ap (λ (i : Index). place (slice_set vars r.var (pos c)) i) (sym h.index) ∙ q.1, subst (λ n. q.0 < n) h.extent q.2)

    -- and so at the next coordinate
    next_lands : (plain : r.index.loose ≡ false) (c : ℕ) (low : lo ≤ c) (high : c < hi) → c + 1 < hi → (lands plain c low high).0 + 1 < r.extent
    next_lands plain c low high more =
        let here = lands plain c low high in
        let next = lands plain (c + 1) (omega (arith, low)) more in
        omega (arith, next.2, ap up here.1, ap down here.1, ap up next.1, ap down next.1, sum_is_lem (pos (c + k)) r.index.offset, sum_is_lem (pos (c + 1 + k)) r.index.offset)

    plain_faces : (plain : r.index.loose ≡ false) (c : ℕ) (low : lo ≤ c) (high : c < hi) (v : View)
        → Faces v (stand_sight walked r.extent d.stand (lands plain c low high).0) format.fill ((lands plain c low high).0 + 1 < r.extent)
        → Faces v (sight_at r.index r.extent d.stand (z c)) format.fill (c + 1 < hi)
    plain_faces plain c low high v f =
        let m = lands plain c low high in
        let s = stand_sight walked r.extent d.stand m.0 in
        subst (λ (y : ℤ). Faces v (sight_at r.index r.extent d.stand y) format.fill (c + 1 < hi)) (sym m.1)
        (subst (λ (x : known.Sight). Faces v x format.fill (c + 1 < hi)) (sym (inside_is r.index r.extent d.stand m.0 m.2))
        (record { gap = f.gap; varies = f.varies; ends = λ more. f.ends (next_lands plain c low high more) ∙ ap (λ b. (b && nat_eq (m.0 + 1) r.extent) || s.ends) (sym plain) }))

    near : (c : ℕ) → c < 2 ^ 40 → IsNear (w c)
    near c low =
        subst IsNear (sym (back_is c))
        (let y = pos c -ℤ (back_offset r.index.offset -ℤ pos k) in (
          at_most_in (negsuc (2 ^ 42)) y (omega (arith, reaches c k r.extent r.index.offset low few h.small)),
          at_most_in y (pos (2 ^ 42 + 2 ^ 41)) (omega (arith, reaches c k r.extent r.index.offset low few h.small)),
        ))

    -- the bare variable is the coordinate
    pub bare_is : other r ≡ None → r.index.offset ≡ pos 0 → (c : ℕ) → z c ≡ pos c
    bare_is alone unmoved c =
        let first : k ≡ 0 = subst (λ (o : Option ℕ). OtherIs vars o k) alone h.others in
        let same : c + k ≡ c = omega (arith, first) in
        ap (λ j. pos j +ℤ r.index.offset) same ∙ ap (λ y. pos c +ℤ y) unmoved ∙ same_in (pos c +ℤ pos 0) (pos c) (omega (arith, sum_is_lem (pos c) (pos 0)))

    own : {x y : ℕ} → pos x ≡ pos y → x ≡ y
    own e = omega (arith, ap up e)

    pub moved_is : (plain : r.index.loose ≡ false) (c : ℕ) (low : lo ≤ c) (high : c < hi) → w c ≡ pos (lands plain c low high).0
    moved_is plain c low high =
        let m = lands plain c low high in
        back_is c ∙ within_meets c k r.extent r.index.offset (omega (arith, high, stays.top)) few h.small m.0 m.1 m.2

    shows_kind : (end : ℤ) (l : Looplet) → Kinds r format.fill fibre spot.by l → (c : ℕ) → lo ≤ c → c < hi
        → Faces (view ts ls l end (pos c)) (sight_at r.index r.extent d.stand (z c)) format.fill (c + 1 < hi)
    shows_kind end l (inl q) c low high =
        let m = lands q.1 c low high in
        let same : m.0 ≡ c = own (sym m.1 ∙ bare_is q.2 q.3 c) in
        plain_faces q.1 c low high (view ts ls l end (pos c))
        (subst (λ (x : Looplet). Faces (view ts ls x end (pos c)) (stand_sight walked r.extent d.stand m.0) format.fill (m.0 + 1 < r.extent)) (sym q.0)
        (subst (λ j. Faces (view ts ls fibre end (pos j)) (stand_sight walked r.extent d.stand m.0) format.fill (m.0 + 1 < r.extent)) same (faces end m.0 m.2)))
    shows_kind end l (inr (inl q)) c low high =
        let lt : c < 2 ^ 40 = omega (arith, high, stays.top) in
        subst (λ (x : Looplet). Faces (view ts ls x end (pos c)) (sight_at r.index r.extent d.stand (z c)) format.fill (c + 1 < hi)) (sym q.0)
        (subst (λ (s : known.Sight). Faces (view ts ls (edged fibre spot.by r.extent format.fill) end (pos c)) s format.fill (c + 1 < hi))
        (ap (sight_at r.index r.extent d.stand) (back_is c) ∙ outside_same r.index r.extent d.stand (pos c -ℤ (back_offset r.index.offset -ℤ pos k)) (z c)
        (meets c k r.extent r.index.offset lt few h.small))
        (edged_faces fibre spot.by r.extent format.fill h.small ts ls d.stand r.index q.1 faces c end (c + 1 < hi) lt (λ more. omega (arith, more, stays.top))))
    shows_kind end l (inr (inr q)) c low high =
        let m = lands q.1 c low high in
        let b = value ts ls spot.by in
        plain_faces q.1 c low high (view ts ls l end (pos c))
        (subst (λ (x : Looplet). Faces (view ts ls x end (pos c)) (stand_sight walked r.extent d.stand m.0) format.fill (m.0 + 1 < r.extent)) (sym q.0)
        (subst (λ (v : View). Faces v (stand_sight walked r.extent d.stand m.0) format.fill (m.0 + 1 < r.extent)) (sym (view_shift ts ls spot.by fibre end (pos c)))
        (subst (λ (y : ℤ). Faces (view ts ls fibre (end -ℤ b) y) (stand_sight walked r.extent d.stand m.0) format.fill (m.0 + 1 < r.extent))
        (sym (moved_is q.1 c low high)) (faces (end -ℤ b) m.0 m.2))))

    sound_kind : (served : Places) (l : Looplet) → Kinds r format.fill fibre spot.by l → (c : ℕ) → lo ≤ c → c < hi → SoundWithin IsNear ts ls l served (pos c)
    sound_kind served l (inl q) c low high =
        let m = lands q.1 c low high in
        let same : m.0 ≡ c = own (sym m.1 ∙ bare_is q.2 q.3 c) in
        subst (λ (x : Looplet). SoundWithin IsNear ts ls x served (pos c)) (sym q.0) (subst (λ j. SoundWithin IsNear ts ls fibre served (pos j)) same (sound served m.0 m.2))
    sound_kind served l (inr (inl q)) c low high =
        let lt : c < 2 ^ 40 = omega (arith, high, stays.top) in
        subst (λ (x : Looplet). SoundWithin IsNear ts ls x served (pos c)) (sym q.0)
        (edged_sound_at fibre spot.by r.extent format.fill h.small ts ls IsNear served c lt
        (λ (i : Inside fibre spot.by r.extent format.fill h.small ts ls c).
        let sub = sub_of (pos c) (value ts ls spot.by) in
        let m = natural (w c) (at_most_in (pos 0) (w c) (omega (arith, sub, i))) in
        (near c lt, sound_number _ (w c) m.0 m.1 (omega (arith, sub, i, ap up m.1, ap down m.1)))))
    sound_kind served l (inr (inr q)) c low high =
        let m = lands q.1 c low high in
        let lt : c < 2 ^ 40 = omega (arith, high, stays.top) in
        subst (λ (x : Looplet). SoundWithin IsNear ts ls x served (pos c)) (sym q.0)
        (sound_shift IsNear ts ls spot.by fibre served (pos c) (near c lt, sound_number _ (w c) m.0 (moved_is q.1 c low high) m.2))

  pub driven_shows : ShowsDriven format r spot (driven_looplet format r spot)
  driven_shows end ts ls vars d lo hi h stays c low high =
      let l = driven_looplet format r spot in
      subst (λ (s : known.Sight). Faces (view ts ls l end (pos c)) s d.fill (c + 1 < hi)) (knows ts ls vars d lo hi h stays c)
      (subst (λ (f : ℤ). Faces (view ts ls l end (pos c)) (sight_at r.index r.extent d.stand (z ts ls vars d lo hi h stays c)) f (c + 1 < hi)) (sym h.fill)
      (shows_kind ts ls vars d lo hi h stays end l (kinds r format.fill fibre spot.by) c low high))

  pub driven_sound : IsSoundDriven format r spot (driven_looplet format r spot)
  driven_sound ts ls vars d lo hi h stays c low high = sound_kind ts ls vars d lo hi h stays (λ j. j <ℤ pos hi) (driven_looplet format r spot) (kinds r format.fill fibre spot.by) c low high
