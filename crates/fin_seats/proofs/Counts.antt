-- Steps, splits and joins keep the count of the seats.
use Rattle.std.proofs.Common.{◌≡◌, ℕ, ◌+◌, ◌<◌, ◌≤◌, ◌≢◌, ◌⊎◌, List, [], ◌∷◌, ◌++◌, set, sym, ap, ◌∙◌, subst, inl, inr, ⊎_elim, arith}
use mathlib.Core.Option.{some}
use lib.ListN.{get_elem?}
use Rattle.fin_seats.specs.declared.views.Standing.{Standing}
use Rattle.fin_seats.specs.Counts.{opened, spent, counted, entered, united, made, stood, IsCounted}
use Rattle.fin_seats.proofs.Totals.{total-set, total-append, total-at, total-two}
use Rattle.fin_seats.proofs.Places.{each_set, each_more, each_one, was_there}

module _ {V : Type 0} (of : V → Standing) (seats : ℕ) where
  abbrev count : V → ℕ
  count v = (of v).count

  abbrev stands : V → ℕ
  stands v = (of v).stands

  -- how one view may stand where n seats were made
  abbrev Fair : ℕ → V → Type 0
  Fair n v = ((count v ≡ 0) ⊎ (count v ≡ n)) × (0 < stands v → (of v).seats ≡ seats) × (stands v ≡ 0 → count v ≡ 0)

  gathers : (vs : List V) → stood of vs ≡ made of vs → made of vs ≤ seats → ((i : ℕ) (v : V) → get_elem? vs i ≡ some v → Fair (made of vs) v) → IsCounted of seats vs
  gathers vs is few fair = record {
    stood_is = is;
    room = few;
    single = λ i v e. (fair i v e).0;
    alike = λ i v e. (fair i v e).1;
    unspent = λ i v e. (fair i v e).2;
  }

  fair_of : (vs : List V) → IsCounted of seats vs → (i : ℕ) (v : V) → get_elem? vs i ≡ some v → Fair (made of vs) v
  fair_of vs r i v e = (r.single i v e, r.alike i v e, r.unspent i v e)

  pub counted-opens : (v : V) → of v ≡ opened seats → 0 < seats → IsCounted of seats (v ∷ [])
  counted-opens v is some_seat =
      let c = ap (λ (s : Standing). s.count) is in
      let t = ap (λ (s : Standing). s.stands) is in
      let most = ap (λ (s : Standing). s.seats) is in
      gathers (v ∷ []) (omega arith) (omega arith) (each_one (Fair (count v + 0)) v (inr (omega arith), λ _. most, λ z. absurd (omega arith)))

  -- a view whose standing stays may change
  pub counted-same : (vs : List V) (id : ℕ) (v w : V) → IsCounted of seats vs → get_elem? vs id ≡ some v → of w ≡ of v → IsCounted of seats (set vs id w)
  counted-same vs id v w r at is =
      let c = ap (λ (s : Standing). s.count) is in
      let t = ap (λ (s : Standing). s.stands) is in
      let most = ap (λ (s : Standing). s.seats) is in
      let e_count = total-set count vs id v w at in
      let e_stands = total-set stands vs id v w at in
      let sum = r.stood_is in
      let room = r.room in
      let same : made of (set vs id w) ≡ made of vs = omega arith in
      gathers (set vs id w) (omega arith) (omega arith) (λ j u e. rw same (each_set (Fair (made of vs)) vs id w (λ i y _ d. fair_of vs r i y d)
      (subst (λ (s : Standing). ((s.count ≡ 0) ⊎ (s.count ≡ made of vs)) × (0 < s.stands → s.seats ≡ seats) × (s.stands ≡ 0 → s.count ≡ 0)) (sym is) (fair_of vs r id v at)) j u e))

  -- the view with the count has all of it
  pub counts-all : (vs : List V) (id : ℕ) (v : V) → IsCounted of seats vs → get_elem? vs id ≡ some v → 0 < count v → count v ≡ made of vs
  counts-all vs id v r at holds = ⊎_elim (λ (z : count v ≡ 0). absurd (omega arith)) (λ (t : count v ≡ made of vs). t) (r.single id v at)

  -- one more seat was made
  pub made-split : (vs : List V) (id : ℕ) (v left right : V) → get_elem? vs id ≡ some v → of left ≡ counted (of v) → of right ≡ entered (of v) → made of (set vs id left ++ right ∷ []) ≡ made of vs + 1
  made-split vs id v left right at left_is right_is =
      let c = ap (λ (s : Standing). s.count) left_is in
      let d = ap (λ (s : Standing). s.count) right_is in
      let p = total-set count vs id v left at in
      let q = total-append count (set vs id left) (right ∷ []) in
      omega arith

  pub counted-split : (vs : List V) (id : ℕ) (v left right : V) → IsCounted of seats vs → get_elem? vs id ≡ some v → 0 < stands v → 0 < count v → count v < (of v).seats → of left ≡ counted (of v) → of right ≡ entered (of v)
      → IsCounted of seats (set vs id left ++ right ∷ [])
  counted-split vs id v left right r at seated holds more left_is right_is =
      let more_is = made-split vs id v left right at left_is right_is in
      let all = counts-all vs id v r at holds in
      let alike = r.alike id v at seated in
      let left_count = ap (λ (s : Standing). s.count) left_is in
      let left_stands = ap (λ (s : Standing). s.stands) left_is in
      let right_count = ap (λ (s : Standing). s.count) right_is in
      let right_stands = ap (λ (s : Standing). s.stands) right_is in
      let p = total-set stands vs id v left at in
      let q = total-append stands (set vs id left) (right ∷ []) in
      let sum = r.stood_is in
      let room = r.room in
      gathers (set vs id left ++ right ∷ []) (omega arith) (omega arith)
      (λ j u e. rw more_is (each_more (Fair (made of vs + 1)) (set vs id left) right
      (each_set (Fair (made of vs + 1)) vs id left
      (λ i y apart d. let two = total-two count vs id i v y apart at d in (inl (omega arith), r.alike i y d, r.unspent i y d))
      (inr (omega arith), (λ _. ap (λ (s : Standing). s.seats) left_is ∙ alike), λ z. absurd (omega arith)))
      (inl right_count, (λ _. ap (λ (s : Standing). s.seats) right_is ∙ alike), λ z. absurd (omega arith)) j u e))

  -- a join makes no seat
  pub made-join : (vs : List V) (id : ℕ) (v : V) (other : ℕ) (w both gone : V) → get_elem? vs id ≡ some v → get_elem? (set vs id both) other ≡ some w → of both ≡ united (of v) (of w) → of gone ≡ spent → made of (set (set vs id both) other gone) ≡ made of vs
  made-join vs id v other w both gone at there both_is gone_is =
      let c = ap (λ (s : Standing). s.count) both_is in
      let d = ap (λ (s : Standing). s.count) gone_is in
      let p = total-set count vs id v both at in
      let q = total-set count (set vs id both) other w gone there in
      omega arith

  pub counted-join : (vs : List V) (id : ℕ) (v : V) (other : ℕ) (w both gone : V) → IsCounted of seats vs → get_elem? vs id ≡ some v → other ≢ id → get_elem? (set vs id both) other ≡ some w → 0 < stands v → of both ≡ united (of v) (of w) → of gone ≡ spent
      → IsCounted of seats (set (set vs id both) other gone)
  counted-join vs id v other w both gone r at apart there seated both_is gone_is =
      let between = set vs id both in
      let their = was_there vs id other both w apart there in
      let same = made-join vs id v other w both gone at there both_is gone_is in
      let both_count = ap (λ (s : Standing). s.count) both_is in
      let both_stands = ap (λ (s : Standing). s.stands) both_is in
      let gone_count = ap (λ (s : Standing). s.count) gone_is in
      let gone_stands = ap (λ (s : Standing). s.stands) gone_is in
      let p = total-set stands vs id v both at in
      let q = total-set stands between other w gone there in
      let two = total-two count vs id other v w apart at their in
      let sum = r.stood_is in
      let room = r.room in
      let one : (count both ≡ 0) ⊎ (count both ≡ made of vs) = ⊎_elim
      (λ (a : count v ≡ 0). ⊎_elim (λ (b : count w ≡ 0). inl (omega arith)) (λ (b : count w ≡ made of vs). inr (omega arith)) (r.single other w their))
      (λ (a : count v ≡ made of vs). inr (omega arith))
      (r.single id v at) in
      gathers (set between other gone) (omega arith) (omega arith)
      (λ j u e. rw same (each_set (Fair (made of vs)) between other gone
      (λ i y _ d. each_set (Fair (made of vs)) vs id both (λ i y _ d. fair_of vs r i y d)
      (one, (λ _. ap (λ (s : Standing). s.seats) both_is ∙ r.alike id v at seated), λ z. absurd (omega arith)) i y d)
      (inl gone_count, (λ z. absurd (omega arith)), λ _. gone_count) j u e))

  -- a view stands for no more seats than were allowed
  pub stands-few : (vs : List V) (id : ℕ) (v : V) → IsCounted of seats vs → get_elem? vs id ≡ some v → stands v ≤ seats
  stands-few vs id v r at =
      let one = total-at stands vs id v at in
      let sum = r.stood_is in
      let room = r.room in
      omega arith

  -- where one view stands for all seats, the others are spent
  pub others-spent : (vs : List V) (id : ℕ) (v : V) (j : ℕ) (w : V) → IsCounted of seats vs → get_elem? vs id ≡ some v → stands v ≡ seats → j ≢ id → get_elem? vs j ≡ some w → stands w ≡ 0
  others-spent vs id v j w r at all apart e =
      let two = total-two stands vs id j v w apart at e in
      let sum = r.stood_is in
      let room = r.room in
      omega arith
