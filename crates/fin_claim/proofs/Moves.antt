-- Each step of the counter keeps its rule.
use Rattle.std.proofs.Common.{◌≡◌, ℕ, ◌+◌, ◌%◌, ◌^◌, ◌<◌, ◌≤◌, List, [], ◌∷◌, get_or, set, sym, refl, ap, ◌∙◌, subst, arith, length-set, get_or-set_same}
use Rattle.std.specs.Prelude.{slice_index}
use Rattle.std.proofs.lemmas.Bool.{le-ltb}
use Rattle.std.proofs.lemmas.List.{set-get_or}
use mathlib.Core.Logic.{dite}
use native.Mathlib.Decide.{dec_lt}
use mathlib.Core.Option.{none, some}
use lib.ListN.{get_elem?}
use Rattle.atomic_table.specs.Table.{State, Me, step, keeps, Allows, Splits, Joins}
use Rattle.atomic_table.proofs.Lists.{set_again}
use Rattle.fin_claim.specs.declared.rule.Holding.{Holding}
use Rattle.fin_claim.specs.declared.rule.Limits.{Limits}
use Rattle.fin_seats.specs.Counts.{total}
use Rattle.fin_seats.proofs.Totals.{total-set, total-append, total-at, total-alone, total-le}
use Rattle.fin_seats.proofs.Places.{each_set, each_more, each_one, was_there}
use Rattle.fin_seats.proofs.Counts.{counted-opens, counted-same, counted-split, counted-join, stands-few, others-spent}
use Rattle.fin_claim.specs.Claims.{times, once_below, is_late, is_it, standing, opening_view, spent_view, counted, new_view, joined, drawn, IsFair, IsKept, Draws, Weighs}
use Rattle.fin_claim.proofs.Numbers.{times-some, once-below, once-more, late-some, late-le}

-- how often x stands in a view
abbrev seen : ℕ → Holding → ℕ
seen x v = times x v.numbers

abbrev done : Holding → ℕ
done v = v.done

pub opens : (k : Limits) → 0 < k.seats → k.limit + k.seats < 2 ^ 63 → IsKept k record { words = 0 ∷ []; homes = []; views = opening_view k ∷ [] }
opens k any fits = record {
  one_word = refl;
  fits = fits;
  each_once = λ x. rw (le-ltb x 0 (omega arith)) refl;
  counted_are = counted-opens standing k.seats (opening_view k) refl any;
  fair = each_one (IsFair k) (opening_view k) record { lates = refl; few = omega arith; alike = λ _. refl; empty = λ _. refl };
  reach = omega arith;
}

-- no more seats are done than there are
done-few : (k : Limits) (s : State (Unit {0}) Holding) → IsKept k s → total done s.views ≤ k.seats
done-few k s r =
    let few = total-le done (λ (u : Holding). u.standing.stands) s.views (λ j u e. (r.fair j u e).few) in
    let sum = r.counted_are.stood_is in
    let room = r.counted_are.room in
    omega arith

pub draws : (k : Limits) (slots id : ℕ) (me : Me (Unit {0}) Holding) → me.0.done < me.0.standing.stands → Allows (IsKept k) slots id me 0 (λ n. (n + 1) % 2 ^ 64) (Draws (step slots 0 1 0 none) me)
draws k slots id me undone s r _ at small =
    let v : Holding = me.0 in
    let n : ℕ = slice_index s.words 0 in
    let w : Holding = drawn v n in
    let mine = r.fair id v at in
    let alike = mine.alike (omega arith) in
    let few = done-few k s r in
    let reach = r.reach in
    let fits = r.fits in
    let next : (n + 1) % 2 ^ 64 ≡ n + 1 = omega arith in
    let e_done = total-set done s.views id v w at in
    let one_word = r.one_word in
    let word : slice_index (set s.words 0 ((n + 1) % 2 ^ 64)) 0 ≡ n + 1 = get_or-set_same s.words 0 ((n + 1) % 2 ^ 64) 0 (omega arith) ∙ next in
    let step_late : is_late k.limit n ≡ is_late v.limit n = ap (λ (m : ℕ). is_late m n) (sym alike) in (
      w,
      keeps,
      tt,
      record {
        one_word = length-set s.words 0 ((n + 1) % 2 ^ 64) ∙ one_word;
        fits = fits;
        each_once = λ x. rw word
            (let e = total-set (seen x) s.views id v w at in
            let a = total-append (is_it x) v.numbers (n ∷ []) in
            let o = r.each_once x in
            let m = once-more x n in
            omega arith);
        counted_are = counted-same standing k.seats s.views id v w r.counted_are at refl;
        fair = each_set (IsFair k) s.views id w (λ j u _ d. r.fair j u d)
            record {
              lates = (let a = total-append (is_late k.limit) v.numbers (n ∷ []) in let b = mine.lates in omega arith);
              few = (let l = late-le n v.limit in omega arith);
              alike = mine.alike;
              empty = λ z. absurd (omega arith);
            };
        reach = rw word (dite (dec_lt n k.limit) (λ h. omega arith) (λ h. let one : is_late k.limit n ≡ 1 = rw (le-ltb n k.limit (omega arith)) refl in omega arith));
      },
      (refl, refl, λ i d h. let y : ℕ = get_or v.numbers i d in once-below y n (let a = times-some v.numbers i d h in let b = total-at (seen y) s.views id v at in let o = r.each_once y in omega arith)),
    )

pub weighs : (k : Limits) (slots id : ℕ) (me : Me (Unit {0}) Holding) → 0 < me.0.standing.stands → Allows (IsKept k) slots id me 0 (λ n. n) (Weighs (step slots 0 0 0 none) me)
weighs k slots id me seated s r _ at small =
    let v : Holding = me.0 in
    let same_words : set s.words 0 (slice_index s.words 0) ≡ s.words = set-get_or s.words 0 0 in
    let same_views : set s.views id v ≡ s.views = set_again s.views id v at in
    let few = stands-few standing k.seats s.views id v r.counted_are at in
    let fits = r.fits in
    let mine = r.fair id v at in
    let is = r.counted_are.alike id v at seated in
    (v, keeps, tt, subst (λ (t : List ℕ × List Holding). IsKept k record { words = t.0; homes = s.homes; views = t.1 }) (λ i. (sym same_words i, sym same_views i)) r, (refl, omega arith, mine.few, omega arith))

pub splits : (k : Limits) (id : ℕ) (v : Holding) → 0 < v.standing.stands → 0 < v.standing.count → v.standing.count < v.standing.seats → Splits {S = Unit {0}} (IsKept k) id v (counted v) (new_view v)
splits k id v seated holds more s r at =
    let mine = r.fair id v at in
    let left : Holding = counted v in
    let right : Holding = new_view v in
    let views = set s.views id left in
    let p_done = total-set done s.views id v left at in
    let q_done = total-append done views (right ∷ []) in
    let reach = r.reach in record {
      one_word = r.one_word;
      fits = r.fits;
      each_once = λ x.
          let e = total-set (seen x) s.views id v left at in
          let a = total-append (seen x) views (right ∷ []) in
          let o = r.each_once x in
          omega arith;
      counted_are = counted-split standing k.seats s.views id v left right r.counted_are at seated holds more refl refl;
      fair = each_more (IsFair k) views right
          (each_set (IsFair k) s.views id left (λ i y _ d. r.fair i y d) record { lates = mine.lates; few = mine.few; alike = mine.alike; empty = mine.empty })
          record { lates = refl; few = omega arith; alike = λ _. mine.alike seated; empty = λ z. refl };
      reach = omega arith;
    }

pub joins : (k : Limits) (id : ℕ) (v : Holding) (other : ℕ) (w : Holding) → 0 < v.standing.stands → Joins {S = Unit {0}} (IsKept k) id v other w (joined v w) spent_view
joins k id v other w seated s r at apart there =
    let both : Holding = joined v w in
    let between = set s.views id both in
    let their = was_there s.views id other both w apart there in
    let mine = r.fair id v at in
    let theirs = r.fair other w their in
    let p_done = total-set done s.views id v both at in
    let q_done = total-set done between other w spent_view there in
    let reach = r.reach in record {
      one_word = r.one_word;
      fits = r.fits;
      each_once = λ x.
          let e = total-set (seen x) s.views id v both at in
          let d = total-set (seen x) between other w spent_view there in
          let a = total-append (is_it x) v.numbers w.numbers in
          let o = r.each_once x in
          omega arith;
      counted_are = counted-join standing k.seats s.views id v other w both spent_view r.counted_are at apart there seated refl refl;
      fair = each_set (IsFair k) between other spent_view
          (λ i y _ d. each_set (IsFair k) s.views id both (λ i y _ d. r.fair i y d)
          record {
            lates = (let a = total-append (is_late k.limit) v.numbers w.numbers in let b = mine.lates in let c = theirs.lates in omega arith);
            few = (let b = mine.few in let c = theirs.few in omega arith);
            alike = λ _. mine.alike seated;
            empty = λ z. absurd (omega arith);
          }
          i y d)
          record { lates = refl; few = omega arith; alike = λ z. absurd (omega arith); empty = λ _. refl };
      reach = omega arith;
    }

module _ (k : Limits) (id : ℕ) (v : Holding) (s : State (Unit {0}) Holding) (r : IsKept k s) (at : get_elem? s.views id ≡ some v) where
  pub closes : v.standing.stands ≡ k.seats → (x : ℕ) → times x v.numbers ≡ once_below x (slice_index s.words 0)
  closes all x =
      let alone = total-alone (seen x) s.views id v at (λ j w apart e. ap (times x) ((r.fair j w e).empty (others-spent standing k.seats s.views id v j w r.counted_are at all apart e))) in
      let o = r.each_once x in
      omega arith

  pub reached : 0 < v.done → k.limit < slice_index s.words 0
  reached some_done =
      let lates = (r.fair id v at).lates in
      let y = late-some k.limit v.numbers (omega arith) in
      let b = total-at (seen y.0) s.views id v at in
      let o = r.each_once y.0 in
      let over = y.1 in
      let there = y.2 in
      let under = once-below y.0 (slice_index s.words 0) (omega arith) in
      omega arith

  pub at_most : v.standing.stands ≡ k.seats → slice_index s.words 0 ≤ k.limit + v.done
  at_most all =
      let alone = total-alone done s.views id v at (λ j w apart e. let z = others-spent standing k.seats s.views id v j w r.counted_are at all apart e in let few = (r.fair j w e).few in omega arith) in
      let reach = r.reach in
      omega arith
