-- What a step of one seat leaves of the turns that others hold.
use Rattle.std.proofs.Common.{◌≡◌, ℕ, ◌+◌, ◌<◌, ◌≢◌, List, map, length, set, Option, Some, None, sym, ap, ◌∙◌, ⊎_elim, arith}
use Rattle.std.specs.Prelude.{slice_index}
use mathlib.Core.Logic.{dite}
use native.Mathlib.Decide.{ℕ_discrete}
use mathlib.Core.Option.{some, some-injective}
use lib.ListN.{get_elem?}
use lib.Seq.{map-set}
use Rattle.atomic_table.specs.Table.{State}
use Rattle.atomic_table.proofs.Lists.{at_set, set_again, set_here, set_else, at_map}
use Rattle.fin_seats.specs.declared.views.Book.{Book}
use Rattle.fin_seats.specs.Counts.{made}
use Rattle.fin_seats.specs.Books.{standing, AreKept}
use Rattle.fin_seats.proofs.Totals.{total-set}
use Rattle.fin_seats.proofs.Places.{each_set, at-lt}
use Rattle.fin_mutex.specs.declared.rule.View.{View}
use Rattle.fin_mutex.specs.declared.rule.Plan.{Plan}
use Rattle.fin_mutex.specs.Turns.{book, count_of, turn_of, all_made, IsFair, IsTied, IsKept}

abbrev unwrapped : {A : Type 0} → Option A → A → A
unwrapped (Some a) d = a
unwrapped None d = d

pub same_some : {A : Type 0} (a b : A) → Some a ≡ Some b → a ≡ b
same_some a b e = ap (λ o. unwrapped o a) e

pub not_none : {A : Type 0} (o : Option A) (a : A) → o ≡ None → o ≡ Some a → ⊥
not_none o a e f = absurd (cc)

pub same_books : (l : List View) (id : ℕ) (v w : View) → get_elem? l id ≡ some v → book w ≡ book v → map book (set l id w) ≡ map book l
same_books l id v w at e = map-set book l id w ∙ ap (set (map book l) id) e ∙ set_again (map book l) id (book v) (at_map book l id v at)

-- no seat is made where the standing stays
pub same_made : (l : List View) (id : ℕ) (v w : View) → get_elem? l id ≡ some v → standing (book w) ≡ standing (book v) → all_made (set l id w) ≡ all_made l
same_made l id v w at is =
    let sum = total-set (λ (b : Book). (standing b).count) (map book l) id (book v) (book w) (at_map book l id v at) in
    let same = ap (λ s. s.count) is in
    ap (made standing) (map-set book l id w) ∙ omega arith

abbrev pub Apart : List View → Type 0
Apart l = (i j : ℕ) (v w : View) → get_elem? l i ≡ some v → get_elem? l j ≡ some w → 0 < v.book.standing.stands → 0 < w.book.standing.stands → v.number ≡ w.number → i ≡ j

-- numbers stay apart where one view becomes another with its number, or one that is spent
pub apart_set : (l : List View) (id : ℕ) (v w : View) → Apart l → get_elem? l id ≡ some v → (0 < w.book.standing.stands → (0 < v.book.standing.stands) × (w.number ≡ v.number)) → Apart (set l id w)
apart_set l id v w h at keeps_number = λ i j x y e f. ⊎_elim
    (λ (t : (i ≡ id) × (w ≡ x)). ⊎_elim
    (λ (q : (j ≡ id) × (w ≡ y)) _ _ _. t.0 ∙ sym q.0)
    (λ (q : (j ≢ id) × (get_elem? l j ≡ some y)) sx sy same.
    let a : w.book.standing.stands ≡ x.book.standing.stands = ap (λ (z : View). z.book.standing.stands) t.1 in
    let b : w.number ≡ x.number = ap (λ (z : View). z.number) t.1 in
    let k = keeps_number (omega arith) in
    t.0 ∙ h id j v y at q.1 k.0 sy (sym k.1 ∙ b ∙ same))
    (at_set l id j w y f))
    (λ (t : (i ≢ id) × (get_elem? l i ≡ some x)). ⊎_elim
    (λ (q : (j ≡ id) × (w ≡ y)) sx sy same.
    let a : w.book.standing.stands ≡ y.book.standing.stands = ap (λ (z : View). z.book.standing.stands) q.1 in
    let b : w.number ≡ y.number = ap (λ (z : View). z.number) q.1 in
    let k = keeps_number (omega arith) in
    h i id x v t.1 at sx k.0 (same ∙ sym b ∙ k.1) ∙ sym q.0)
    (λ (q : (j ≢ id) × (get_elem? l j ≡ some y)) sx sy same. h i j x y t.1 q.1 sx sy same)
    (at_set l id j w y f))
    (at_set l id i w x e)

-- a step after which one view, with the same standing and number, is another
pub changed : (key : Plan) (s : State (Unit {0}) View) (id : ℕ) (v w : View) (ws : List ℕ) → IsKept key s → get_elem? s.views id ≡ some v
    → standing (book w) ≡ standing (book v) → w.number ≡ v.number → w.base ≡ v.base → w.per ≡ v.per → length ws ≡ length s.words
    → AreKept key.start (count_of key) ws (map book (set s.views id w))
    → ((i : ℕ) (u : View) → get_elem? (set s.views id w) i ≡ some u → IsTied key record { words = ws; homes = s.homes; views = set s.views id w } u)
    → ((p : ℕ) → p < key.positions → slice_index ws (count_of key + p) ≢ 0 → (i : ℕ) × (u : View) × (get_elem? (set s.views id w) i ≡ some u) × (u.held ≡ Some p))
    → IsKept key record { words = ws; homes = s.homes; views = set s.views id w }
changed key s id v w ws r at standing_is number_is base_is per_is long kept tied free =
    let same = same_made s.views id v w at standing_is in
    let stands_is = ap (λ z. z.stands) standing_is in record {
      wide = long ∙ r.wide;
      kept = kept;
      fair = λ j u e. rw same (each_set (λ (y : View). 0 < y.book.standing.stands → IsFair key (all_made s.views) y) s.views id w (λ j u _ d. r.fair j u d)
          (λ h. let mine = r.fair id v at (omega arith) in let a = mine.numbered in let b = mine.within in record { base_is = base_is ∙ mine.base_is; per_is = per_is ∙ mine.per_is; numbered = omega arith; within = omega arith }) j u e);
      apart = apart_set s.views id v w r.apart at (λ h. (omega arith, number_is));
      tied = tied;
      free_is = free;
    }

-- what another view holds and notes stays true where its turn word and its noted word stay
pub stays : (key : Plan) (s t : State (Unit {0}) View) (u : View) → IsTied key s u → ((p : ℕ) → u.held ≡ Some p → turn_of key t p ≡ turn_of key s p) → ((k x : ℕ) → u.note ≡ Some (k, x) → slice_index t.words k ≡ slice_index s.words k) → IsTied key t u
stays key s t u h turn note = record {
  held_is = λ p e. let g = h.held_is p e in (g.0, turn p e ∙ g.1, g.2);
  note_is = λ k x e. let g = h.note_is k x e in (g.0, g.1, note k x e ∙ g.2);
}

-- who held a position holds it after a step by a view that keeps its own
pub still_held : (key : Plan) (s : State (Unit {0}) View) (id : ℕ) (v w : View) (q : ℕ) → get_elem? s.views id ≡ some v → w.held ≡ v.held → ((i : ℕ) × (u : View) × (get_elem? s.views i ≡ some u) × (u.held ≡ Some q)) → (i : ℕ) × (u : View) × (get_elem? (set s.views id w) i ≡ some u) × (u.held ≡ Some q)
still_held key s id v w q at same_held f = dite (ℕ_discrete f.0 id)
    (λ same. (id, w, set_here s.views id w (at-lt s.views id v at), same_held ∙ sym (ap (λ (y : View). y.held) (some-injective f.1 v (sym f.2 ∙ ap (get_elem? s.views) same ∙ at))) ∙ f.3))
    (λ ne. (f.0, f.1, set_else s.views id f.0 w ne ∙ f.2, f.3))

-- two views that hold one position are one
pub one_holder : (key : Plan) (s : State (Unit {0}) View) (i j : ℕ) (u v : View) (p : ℕ) → IsKept key s → get_elem? s.views i ≡ some u → get_elem? s.views j ≡ some v → u.held ≡ Some p → v.held ≡ Some p → i ≡ j
one_holder key s i j u v p r e f a b = let g = (r.tied i u e).held_is p a in let h = (r.tied j v f).held_is p b in r.apart i j u v e f g.2 h.2 (sym g.1 ∙ h.1)
