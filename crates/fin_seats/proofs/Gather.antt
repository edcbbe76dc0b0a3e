-- What all entries make of a start, in whichever books they stand.
use Rattle.std.proofs.Common.{◌≡◌, ◌≢◌, ℕ, zero, suc, cond, eqb, true, false, Bool, ℤ, List, [], ◌∷◌, ◌++◌, set, sym, refl, ap, ◌∙◌, arith}
use Rattle.std.specs.List.{AllByRecursion}
use Rattle.std.proofs.lemmas.List.Elements.{All-append, All-from_recursion}
use Rattle.std.proofs.lemmas.List.Sorted.{IsPermutation-append_comm}
use Rattle.std.proofs.lemmas.List.Sums.{fold-append}
use mathlib.Core.Option.{some, some-injective, some-ne-none}
use lib.ListN.{get_elem?}
use Rattle.fin_base.specs.declared.reduce.Reduce.{Reduce}
use Rattle.fin_base.specs.declared.reduce.Reduce.TheVariants.{Put}
use Rattle.fin_base.specs.Words.{IsWord, apply, reduced}
use Rattle.fin_base.proofs.Reductions.{keeps_words, forgets_order}
use Rattle.fin_seats.specs.declared.views.Book.{Book}
use Rattle.fin_seats.specs.Books.{values_at, gathered, AreWords}

abbrev pub Words : List ℤ → Type 0
Words zs = AllByRecursion IsWord zs

abbrev pub BooksFit : List Book → Type 0
BooksFit l = (j : ℕ) (u : Book) → get_elem? l j ≡ some u → AreWords u.entries

pub values_at-append : (k : ℕ) (xs ys : List (ℕ × ℤ)) → values_at k (xs ++ ys) ≡ values_at k xs ++ values_at k ys
values_at-append k [] ys = refl
values_at-append k (e ∷ es) ys = rw (values_at-append k es ys) (front (eqb e.0 k) e.1 (values_at k es) (values_at k ys))
  where
    front : (b : Bool) (z : ℤ) (zs ws : List ℤ) → cond b (z ∷ (zs ++ ws)) (zs ++ ws) ≡ cond b (z ∷ zs) zs ++ ws
    front true z zs ws = refl
    front false z zs ws = refl

pub values-fit : (k : ℕ) (es : List (ℕ × ℤ)) → AreWords es → Words (values_at k es)
values-fit k [] f = f
values-fit k (e ∷ es) f = pick (eqb e.0 k) e.1 (values_at k es) f.0 (values-fit k es f.1)
  where
    pick : (b : Bool) (z : ℤ) (zs : List ℤ) → IsWord z → Words zs → Words (cond b (z ∷ zs) zs)
    pick true z zs g h = (g, h)
    pick false z zs g h = h

pub fit-append : (xs ys : List (ℕ × ℤ)) → AreWords xs → AreWords ys → AreWords (xs ++ ys)
fit-append [] ys f g = g
fit-append (x ∷ xs) ys f g = (f.0, fit-append xs ys f.1 g)

pub reduced-fits : (by : Reduce) (a : ℤ) (xs : List ℤ) → IsWord a → Words xs → IsWord (reduced by a xs)
reduced-fits by a [] f g = f
reduced-fits by a (x ∷ xs) f g = reduced-fits by (apply by a x) xs (keeps_words by a x f g.0) g.1

module _ (by : Reduce) (free : by ≢ Put) where
  pub reduced-swap : (a : ℤ) (xs ys : List ℤ) → IsWord a → Words xs → Words ys → reduced by (reduced by a xs) ys ≡ reduced by (reduced by a ys) xs
  reduced-swap a xs ys f g h =
      sym (fold-append (apply by) a xs ys)
      ∙ forgets_order by a (xs ++ ys) (ys ++ xs) free f (All-append IsWord xs ys (All-from_recursion IsWord xs g) (All-from_recursion IsWord ys h)) (IsPermutation-append_comm xs ys)
      ∙ fold-append (apply by) a ys xs

  module _ (k : ℕ) where
    rest_fit : (v : Book) (vs : List Book) → BooksFit (v ∷ vs) → BooksFit vs
    rest_fit v vs h j u e = h (suc j) u e

    gathered-through : (a : ℤ) (xs : List ℤ) (vs : List Book) → IsWord a → Words xs → BooksFit vs → gathered by k (reduced by a xs) vs ≡ reduced by (gathered by k a vs) xs
    gathered-through a xs [] f g h = refl
    gathered-through a xs (v ∷ vs) f g h =
        let mine = values-fit k v.entries (h 0 v refl) in
        ap (λ (z : ℤ). gathered by k z vs) (reduced-swap a xs (values_at k v.entries) f g mine)
        ∙ gathered-through (reduced by a (values_at k v.entries)) xs vs (reduced-fits by a (values_at k v.entries) f mine) g (rest_fit v vs h)

    pub gathered-fits : (a : ℤ) (vs : List Book) → IsWord a → BooksFit vs → IsWord (gathered by k a vs)
    gathered-fits a [] f h = f
    gathered-fits a (v ∷ vs) f h = gathered-fits (reduced by a (values_at k v.entries)) vs (reduced-fits by a (values_at k v.entries) f (values-fit k v.entries (h 0 v refl))) (rest_fit v vs h)

    -- a book that has more entries than it had
    pub gathered-set : (a : ℤ) (l : List Book) (i : ℕ) (v w : Book) (xs : List ℤ) → IsWord a → BooksFit l → Words xs → get_elem? l i ≡ some v → values_at k w.entries ≡ values_at k v.entries ++ xs → gathered by k a (set l i w) ≡ reduced by (gathered by k a l) xs
    gathered-set a [] i v w xs f h g e is = absurd (some-ne-none v (sym e))
    gathered-set a (x ∷ l) zero v w xs f h g e is =
        let same : x ≡ v = some-injective x v e in
        let mine = values-fit k x.entries (h 0 x refl) in
        ap (λ (zs : List ℤ). gathered by k (reduced by a zs) l) (is ∙ ap (λ (y : Book). values_at k y.entries ++ xs) (sym same))
        ∙ ap (λ (z : ℤ). gathered by k z l) (fold-append (apply by) a (values_at k x.entries) xs)
        ∙ gathered-through (reduced by a (values_at k x.entries)) xs l (reduced-fits by a (values_at k x.entries) f mine) g (rest_fit x l h)
    gathered-set a (x ∷ l) (suc i) v w xs f h g e is =
        gathered-set (reduced by a (values_at k x.entries)) l i v w xs (reduced-fits by a (values_at k x.entries) f (values-fit k x.entries (h 0 x refl))) (rest_fit x l h) g e is

-- a book without entries changes nothing
pub gathered-none : (by : Reduce) (k : ℕ) (a : ℤ) (l : List Book) (w : Book) → w.entries ≡ [] → gathered by k a (l ++ w ∷ []) ≡ gathered by k a l
gathered-none by k a [] w e = ap (λ (es : List (ℕ × ℤ)). reduced by a (values_at k es)) e
gathered-none by k a (x ∷ l) w e = gathered-none by k (reduced by a (values_at k x.entries)) l w e

gathered-empty : (by : Reduce) (k : ℕ) (a : ℤ) (l : List Book) → ((j : ℕ) (w : Book) → get_elem? l j ≡ some w → w.entries ≡ []) → gathered by k a l ≡ a
gathered-empty by k a [] n = refl
gathered-empty by k a (x ∷ l) n = ap (λ (es : List (ℕ × ℤ)). gathered by k (reduced by a (values_at k es)) l) (n 0 x refl) ∙ gathered-empty by k a l (λ j w e. n (suc j) w e)

-- where only one book has entries, it decides
pub gathered-alone : (by : Reduce) (k : ℕ) (a : ℤ) (l : List Book) (i : ℕ) (v : Book) → get_elem? l i ≡ some v → ((j : ℕ) (w : Book) → j ≢ i → get_elem? l j ≡ some w → w.entries ≡ []) → gathered by k a l ≡ reduced by a (values_at k v.entries)
gathered-alone by k a [] i v e n = absurd (some-ne-none v (sym e))
gathered-alone by k a (x ∷ l) zero v e n = gathered-empty by k (reduced by a (values_at k x.entries)) l (λ j w d. n (suc j) w (λ h. omega arith) d) ∙ ap (λ (y : Book). reduced by a (values_at k y.entries)) (some-injective x v e)
gathered-alone by k a (x ∷ l) (suc i) v e n = ap (λ (es : List (ℕ × ℤ)). gathered by k (reduced by a (values_at k es)) l) (n 0 x (λ h. omega arith) refl) ∙ gathered-alone by k a l i v e (λ j w d b. n (suc j) w (λ h. d (omega arith)) b)
