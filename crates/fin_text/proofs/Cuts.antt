-- Lists that are cut at an element.
use Rattle.std.proofs.Common.{◌≡◌, ◌≢◌, List, [], ◌∷◌, ◌++◌, length, refl, ap₂, subst, arith, length-append}
use Rattle.std.specs.Prelude.{All}
use Rattle.std.proofs.lemmas.List.Elements.{All-tail}
use Rattle.std.proofs.Math.Seq.{get_or-append_seam}

-- where a list is cut at the first such element, it is cut there alone
pub cut_at_one_place : {X : Type 0} (x : X) (xs ys us vs : List X) → All (λ y. y ≢ x) xs → All (λ y. y ≢ x) us → xs ++ x ∷ ys ≡ us ++ x ∷ vs → (xs ≡ us) × (ys ≡ vs)
cut_at_one_place x [] ys [] vs h k e = (refl, cc)
cut_at_one_place x [] ys (u ∷ us) vs h k e = absurd (k 0 x (omega arith) (cc))
cut_at_one_place x (y ∷ xs) ys [] vs h k e = absurd (h 0 x (omega arith) (cc))
cut_at_one_place x (y ∷ xs) ys (u ∷ us) vs h k e =
    let first : y ≡ u = cc in
    let rest : xs ++ x ∷ ys ≡ us ++ x ∷ vs = cc in
    let same = cut_at_one_place x xs ys us vs (All-tail (λ y. y ≢ x) y xs h) (All-tail (λ y. y ≢ x) u us k) rest in
    (ap₂ (λ a l. a ∷ l) first same.0, same.1)

-- a list without such an element is cut nowhere
pub cut_nowhere : {X : Type 0} (x : X) (all xs ys : List X) → All (λ y. y ≢ x) all → all ≡ xs ++ x ∷ ys → ⊥
cut_nowhere x all xs ys h e = subst (All (λ y. y ≢ x)) e h (length xs) x (omega (arith, length-append xs (x ∷ ys))) (get_or-append_seam xs x ys x)
