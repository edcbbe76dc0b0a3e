-- The first tie by line that joins unequal numbers gives the least such line.
use Rattle.std.proofs.Common.{◌≡◌, ◌⊎◌, ◌<◌, ◌≤◌, ◌+◌, inl, inr, ℕ, zero, suc, Bool, true, false, cond, List, [], ◌∷◌, refl, sym, ap, ◌∙◌, subst, arith, length, get_or, take, nat_le}
use Rattle.std.specs.Prelude.{Contains, IsPermutation, filter}
use Rattle.std.specs.List.Sorted.{IsNonDecreasingBy}
use Rattle.std.proofs.lemmas.Bool.Decides.{nat_tests}
use Rattle.std.proofs.lemmas.List.{get_or-take, length-take-le}
use Rattle.std.proofs.lemmas.List.Sorted.{IsPermutation-sym, Contains-permutation}
use Rattle.fin_ast.specs.declared.place.Tie.{Tie}
use Rattle.fin_ast.specs.Ties.{Shapes, Extents, AreExtents, IsUneven, IsFirstUneven, ties_up_to}
use Rattle.fin_dims.specs.Settled.{BreaksAt}
use Rattle.fin_dims.proofs.Joined.{IsWithin, uneven_stays, extent_stays}

pub cons_cases : {X : Type 0} (y : X) (ys : List X) (x : X) (k : ℕ) → k < length (y ∷ ys) → get_or (y ∷ ys) k x ≡ x → (y ≡ x) ⊎ Contains ys x
cons_cases y ys x zero h e = inl e
cons_cases y ys x (suc k) h e = inr (k, omega arith, e)

pub later : {X : Type 0} (y : X) (ys : List X) (x : X) → Contains ys x → Contains (y ∷ ys) x
later y ys x h = (suc h.0, omega (arith, h.1), h.2)

pub here : {X : Type 0} (y : X) (ys : List X) (x : X) → y ≡ x → Contains (y ∷ ys) x
here y ys x e = (0, omega arith, e)

module _ (p : Tie → Bool) where
  kept_by : (b : Bool) (y : Tie) (ys : List Tie) (x : Tie) → p y ≡ b → p x ≡ true → (Contains ys x → Contains (filter p ys) x) → (y ≡ x) ⊎ Contains ys x → Contains (cond b (y ∷ filter p ys) (filter p ys)) x
  kept_by true y ys x eb ex rest (inl e) = here y (filter p ys) x e
  kept_by true y ys x eb ex rest (inr h) = later y (filter p ys) x (rest h)
  kept_by false y ys x eb ex rest (inl e) = let f : true ≡ false = sym ex ∙ ap p (sym e) ∙ eb in absurd (cc)
  kept_by false y ys x eb ex rest (inr h) = rest h

  pub in_filter : (xs : List Tie) (x : Tie) → p x ≡ true → Contains xs x → Contains (filter p xs) x
  in_filter [] x e h = absurd (omega (arith, h.1))
  in_filter (y ∷ ys) x e h = kept_by (p y) y ys x refl e (in_filter ys x e) (cons_cases y ys x h.0 h.1 h.2)

  chosen_by : (b : Bool) (y : Tie) (ys : List Tie) (x : Tie) → p y ≡ b → (Contains (filter p ys) x → Contains ys x × (p x ≡ true)) → Contains (cond b (y ∷ filter p ys) (filter p ys)) x → Contains (y ∷ ys) x × (p x ≡ true)
  chosen_by true y ys x eb rest h = elim (cons_cases y (filter p ys) x h.0 h.1 h.2) [
    | inl e ↦ (here y ys x e, ap p (sym e) ∙ eb)
    | inr k ↦ (later y ys x (rest k).0, (rest k).1)
  ]
  chosen_by false y ys x eb rest h = (later y ys x (rest h).0, (rest h).1)

  pub from_filter : (xs : List Tie) (x : Tie) → Contains (filter p xs) x → Contains xs x × (p x ≡ true)
  from_filter [] x h = absurd (omega (arith, h.1))
  from_filter (y ∷ ys) x h = chosen_by (p y) y ys x refl (from_filter ys x) h

pub at_most : (a b : ℕ) → a ≤ b → nat_le a b ≡ true
at_most a b h = grind (arith, nat_tests)

from_at_most : (a b : ℕ) → nat_le a b ≡ true → a ≤ b
from_at_most a b h = grind (arith, nat_tests)

in_take : (ties : List Tie) (n : ℕ) (x : Tie) → n ≤ length ties → Contains (take n ties) x → (i : ℕ) × (i < n) × (get_or ties i x ≡ x)
in_take ties n x room h = let below : h.0 < n = omega (arith, h.1, length-take-le n ties room) in (h.0, below, sym (get_or-take n ties h.0 x below) ∙ h.2)

to_take : (ties : List Tie) (n i : ℕ) (x : Tie) → n ≤ length ties → i < n → get_or ties i x ≡ x → Contains (take n ties) x
to_take ties n i x room below e = (i, omega (arith, length-take-le n ties room), get_or-take n ties i x below ∙ e)

pub before_or_not : (a b : ℕ) → (a < b) ⊎ (b ≤ a)
before_or_not a zero = inr (omega arith)
before_or_not zero (suc b) = inl (omega arith)
before_or_not (suc a) (suc b) = elim (before_or_not a b) [ inl h ↦ inl (omega arith) | inr h ↦ inr (omega arith) ]

module _ (shapes : Shapes) (ties sorted : List Tie) (same : IsPermutation ties sorted) where
  pub forth : IsWithin ties sorted
  forth t h = Contains-permutation ties sorted t same h

  pub back : IsWithin sorted ties
  back t h = Contains-permutation sorted ties t (IsPermutation-sym ties sorted same) h

  pub first_uneven : (k line : ℕ) → IsNonDecreasingBy (λ t. t.line) sorted → BreaksAt shapes sorted k line → IsFirstUneven shapes ties line
  first_uneven k line rises b = record {
    uneven = uneven_stays shapes (take (k + 1) sorted) (ties_up_to line ties) (λ t h.
        let p = in_take sorted (k + 1) t (omega (arith, b.within)) h in
        let low : t.line ≤ line = subst (λ (n : ℕ). t.line ≤ n) (b.on_line t) (subst (λ (x : Tie). x.line ≤ (get_or sorted k t).line) p.2 (rises p.0 k t (omega (arith, p.1)) b.within)) in
        in_filter (λ x. nat_le x.line line) ties t (at_most t.line line low) (back t (p.0, omega (arith, p.1, b.within), p.2))) b.uneven;
    least = λ before h u. b.even (uneven_stays shapes (ties_up_to before ties) (take k sorted) (λ t m.
        let p = from_filter (λ x. nat_le x.line before) ties t m in
        let q = forth t p.0 in
        let low : t.line ≤ before = from_at_most t.line before p.1 in
        elim (before_or_not q.0 k) [
          | inl below ↦ to_take sorted k q.0 t (omega (arith, b.within)) below q.2
          | inr past ↦ absurd (let high : line ≤ t.line = subst (λ (n : ℕ). n ≤ t.line) (b.on_line t) (subst (λ (x : Tie). (get_or sorted k t).line ≤ x.line) q.2 (rises k q.0 t past q.1)) in omega arith)
        ]) u);
  }

  pub even_too : ¬ IsUneven shapes sorted → ¬ IsUneven shapes ties
  even_too even u = even (uneven_stays shapes ties sorted forth u)

  pub extents_too : (extent : Extents) → AreExtents shapes sorted extent → AreExtents shapes ties extent
  extents_too extent e a n = (λ h. extent_stays shapes sorted ties back a n ((e a n).0 h), λ h. (e a n).1 (extent_stays shapes ties sorted forth a n h))
