-- Splits and joins keep the rule, and what it says at the end.
use Rattle.std.proofs.Common.{◌≡◌, ℕ, zero, suc, ◌+◌, ◌<◌, ◌≤◌, ◌≢◌, ◌⊎◌, List, [], ◌∷◌, ◌++◌, map, length, set, None, sym, refl, ap, ◌∙◌, subst, inl, inr, ⊎_elim, arith}
use Rattle.std.specs.Prelude.{slice_index}
use mathlib.Core.Logic.{dite}
use native.Mathlib.Decide.{ℕ_discrete}
use mathlib.Core.Option.{some, some-injective, some-ne-none}
use lib.ListN.{get_elem?}
use lib.Seq.{map-set}
use mathlib.Core.List.{map-append}
use Rattle.atomic_table.specs.Table.{State, Splits, Joins}
use Rattle.atomic_table.proofs.Lists.{set_here, set_else, at_map, at_longer}
use Rattle.fin_base.specs.declared.reduce.Reduce.TheVariants.{Put}
use Rattle.fin_base.specs.Words.{IsWord, reduced}
use Rattle.fin_seats.specs.declared.views.Book.{Book}
use Rattle.fin_seats.specs.Counts.{made}
use Rattle.fin_seats.specs.Codes.{code, decode}
use Rattle.fin_seats.specs.Books.{values_at, start_at, standing, AreKept}
use Rattle.fin_seats.specs.Books as books
use Rattle.fin_seats.proofs.Counts.{counts-all, made-split, made-join}
use Rattle.fin_seats.proofs.Places.{each_set, each_more, each_one, was_there, at-lt}
use Rattle.fin_seats.proofs.Books.{kept-opens, kept-split, kept-join, kept-closes}
use Rattle.fin_mutex.specs.declared.rule.View.{View}
use Rattle.fin_mutex.specs.declared.rule.Plan.{Plan}
use Rattle.fin_mutex.specs.Turns.{book, count_of, counted, new_view, joined, spent_view, opening_view, all_made, IsFair, IsTied, IsKept}
use Rattle.fin_mutex.proofs.Tied.{not_none, Apart, apart_set, stays, still_held}

at_first : (l : List View) (a : View) (i : ℕ) (u : View) → get_elem? (l ++ a ∷ []) i ≡ some u → ((i < length l) × (get_elem? l i ≡ some u)) ⊎ ((i ≡ length l) × (a ≡ u))
at_first [] a zero u e = inr (refl, some-injective a u e)
at_first [] a (suc i) u e = absurd (some-ne-none u (sym e))
at_first (x ∷ xs) a zero u e = inl (omega arith, e)
at_first (x ∷ xs) a (suc i) u e = ⊎_elim (λ t. inl ((let h = t.0 in omega arith), t.1)) (λ t. inr (ap suc t.0, t.1)) (at_first xs a i u e)

-- numbers stay apart where one more view has a number over all others
apart_more : (l : List View) (a : View) (n : ℕ) → Apart l → ((i : ℕ) (u : View) → get_elem? l i ≡ some u → 0 < u.book.standing.stands → u.number ≤ n) → n < a.number → Apart (l ++ a ∷ [])
apart_more l a n h most over = λ i j x y e f. ⊎_elim
    (λ (p : (i < length l) × (get_elem? l i ≡ some x)). ⊎_elim
    (λ (q : (j < length l) × (get_elem? l j ≡ some y)) sx sy same. h i j x y p.1 q.1 sx sy same)
    (λ (q : (j ≡ length l) × (a ≡ y)) sx sy same.
    let top : a.number ≡ y.number = ap (λ (z : View). z.number) q.1 in
    let small = most i x p.1 sx in
    absurd (omega arith))
    (at_first l a j y f))
    (λ (p : (i ≡ length l) × (a ≡ x)). ⊎_elim
    (λ (q : (j < length l) × (get_elem? l j ≡ some y)) sx sy same.
    let top : a.number ≡ x.number = ap (λ (z : View). z.number) p.1 in
    let small = most j y q.1 sy in
    absurd (omega arith))
    (λ (q : (j ≡ length l) × (a ≡ y)) sx sy same. p.0 ∙ sym q.0)
    (at_first l a j y f))
    (at_first l a i x e)

abbrev Fair_of : Plan → ℕ → View → Type 0
Fair_of key n u = 0 < u.book.standing.stands → IsFair key n u

-- what is within the seats made is within one more
wider : (key : Plan) (n : ℕ) (u : View) → IsFair key n u → IsFair key (n + 1) u
wider key n u f = let a = f.within in record { base_is = f.base_is; per_is = f.per_is; numbered = f.numbered; within = omega arith }

-- the books after a split
split_books : (l : List View) (id : ℕ) (v : View) → map book (set l id (counted v) ++ new_view v ∷ []) ≡ set (map book l) id (books.counted v.book) ++ books.entered v.book ∷ []
split_books l id v = map-append book (set l id (counted v)) (new_view v ∷ []) ∙ ap (λ (bs : List Book). bs ++ books.entered v.book ∷ []) (map-set book l id (counted v))

pub splits : (key : Plan) (id : ℕ) (v : View) → 0 < v.book.standing.stands → 0 < v.book.standing.count → v.book.standing.count < v.book.standing.seats → Splits {S = Unit {0}} (IsKept key) id v (counted v) (new_view v)
splits key id v seated holds more s r at =
    let left : View = counted v in
    let right : View = new_view v in
    let views = set s.views id left in
    let t : State (Unit {0}) View = record { words = s.words; homes = s.homes; views = views ++ right ∷ [] } in
    let mine = r.fair id v at seated in
    let there = at_map book s.views id v at in
    let one_more : all_made (views ++ right ∷ []) ≡ all_made s.views + 1 = ap (made standing) (split_books s.views id v) ∙ made-split standing key.start.seats (map book s.views) id (book v) (books.counted v.book) (books.entered v.book) there refl refl in
    let has_all : v.book.standing.count ≡ all_made s.views = counts-all standing key.start.seats (map book s.views) id (book v) r.kept.counted_are there holds in
    record {
      wide = r.wide;
      kept = subst (AreKept key.start (count_of key) s.words) (sym (split_books s.views id v)) (kept-split key.start (count_of key) s.words (map book s.views) id (book v) r.kept there seated holds more);
      fair = λ j u e. rw one_more (each_more (Fair_of key (all_made s.views + 1)) views right
          (each_set (Fair_of key (all_made s.views + 1)) s.views id left (λ i y _ d h. wider key (all_made s.views) y (r.fair i y d h)) (λ h. wider key (all_made s.views) left record { base_is = mine.base_is; per_is = mine.per_is; numbered = mine.numbered; within = mine.within }))
          (λ h. record { base_is = mine.base_is; per_is = mine.per_is; numbered = omega arith; within = omega arith }) j u e);
      apart = apart_more views right (all_made s.views) (apart_set s.views id v left r.apart at (λ h. (seated, refl)))
          (each_set (λ (u : View). 0 < u.book.standing.stands → u.number ≤ all_made s.views) s.views id left (λ j u _ d h. (r.fair j u d h).within) (λ h. mine.within))
          (omega arith);
      tied = each_more (IsTied key t) views right
          (each_set (IsTied key t) s.views id left (λ i y _ d. stays key s t y (r.tied i y d) (λ q g. refl) (λ k x g. refl))
          record { held_is = λ q g. (r.tied id v at).held_is q g; note_is = λ k x g. (r.tied id v at).note_is k x g })
          record { held_is = λ q g. absurd (not_none right.held q refl g); note_is = λ k x g. absurd (not_none right.note (k, x) refl g) };
      free_is = λ q h busy. let f = still_held key s id v left q at refl (r.free_is q h busy) in (f.0, f.1, at_longer views (right ∷ []) f.0 f.1 f.2, f.3);
    }

-- the books after a join
join_books : (l : List View) (id other : ℕ) (v w : View) → map book (set (set l id (joined v w)) other spent_view) ≡ set (set (map book l) id (books.joined v.book w.book)) other books.spent
join_books l id other v w = map-set book (set l id (joined v w)) other spent_view ∙ ap (λ (bs : List Book). set bs other books.spent) (map-set book l id (joined v w))

pub joins : (key : Plan) (id : ℕ) (v : View) (other : ℕ) (w : View) → 0 < v.book.standing.stands → w.held ≡ None → w.note ≡ None → Joins {S = Unit {0}} (IsKept key) id v other w (joined v w) spent_view
joins key id v other w seated idle blank s r at apart there =
    let both : View = joined v w in
    let between = set s.views id both in
    let their = was_there s.views id other both w apart there in
    let mine = r.fair id v at seated in
    let t : State (Unit {0}) View = record { words = s.words; homes = s.homes; views = set between other spent_view } in
    let mine_there = at_map book s.views id v at in
    let their_there : get_elem? (set (map book s.views) id (books.joined v.book w.book)) other ≡ some (book w) = ap (λ (bs : List Book). get_elem? bs other) (sym (map-set book s.views id both)) ∙ at_map book between other w there in
    let same : all_made (set between other spent_view) ≡ all_made s.views = ap (made standing) (join_books s.views id other v w) ∙ made-join standing key.start.seats (map book s.views) id (book v) other (book w) (books.joined v.book w.book) books.spent mine_there their_there refl refl in
    record {
      wide = r.wide;
      kept = subst (AreKept key.start (count_of key) s.words) (sym (join_books s.views id other v w)) (kept-join key.start (count_of key) s.words (map book s.views) id (book v) other (book w) r.kept mine_there apart their_there seated);
      fair = λ j u e. rw same (each_set (Fair_of key (all_made s.views)) between other spent_view
          (λ i y _ d. each_set (Fair_of key (all_made s.views)) s.views id both (λ i y _ d. r.fair i y d) (λ h. record { base_is = mine.base_is; per_is = mine.per_is; numbered = mine.numbered; within = mine.within }) i y d)
          (λ z. absurd (omega arith)) j u e);
      apart = apart_set between other w spent_view (apart_set s.views id v both r.apart at (λ h. (seated, refl))) there (λ h. absurd (omega arith));
      tied = each_set (IsTied key t) between other spent_view
          (λ i y _ d. each_set (IsTied key t) s.views id both (λ i y _ d. stays key s t y (r.tied i y d) (λ q g. refl) (λ k x g. refl))
          record { held_is = λ q g. let h = (r.tied id v at).held_is q g in (h.0, h.1, (let p = h.2 in omega arith)); note_is = λ k x g. (r.tied id v at).note_is k x g } i y d)
          record { held_is = λ q g. absurd (not_none spent_view.held q refl g); note_is = λ k x g. absurd (not_none spent_view.note (k, x) refl g) };
      free_is = λ q h busy. let f = r.free_is q h busy in
          let not_other : f.0 ≢ other = λ same. not_none f.1.held q (ap (λ (y : View). y.held) (some-injective f.1 w (sym f.2 ∙ ap (get_elem? s.views) same ∙ their)) ∙ idle) f.3 in
          dite (ℕ_discrete f.0 id)
          (λ same. (id, both, set_else between other id spent_view (λ e. apart (sym e)) ∙ set_here s.views id both (at-lt s.views id v at), sym (ap (λ (y : View). y.held) (some-injective f.1 v (sym f.2 ∙ ap (get_elem? s.views) same ∙ at))) ∙ f.3))
          (λ ne. (f.0, f.1, set_else between other f.0 spent_view not_other ∙ set_else s.views id f.0 both ne ∙ f.2, f.3));
    }

pub opens : (key : Plan) (ws : List ℕ) → key.start.by ≢ Put → 0 < key.start.seats → length ws ≡ count_of key + key.positions → ((k : ℕ) → k < count_of key → IsWord (start_at key.start k) × (code key.start.by (start_at key.start k) ≡ slice_index ws k)) → ((p : ℕ) → p < key.positions → slice_index ws (count_of key + p) ≡ 0)
    → IsKept key record { words = ws; homes = []; views = opening_view key ∷ [] }
opens key ws free any long starts turns = record {
  wide = long;
  kept = kept-opens key.start (count_of key) ws free any starts;
  fair = each_one (Fair_of key 1) (opening_view key) (λ h. record { base_is = refl; per_is = refl; numbered = omega arith; within = omega arith });
  apart = λ i j v w e f _ _ _. at_zero i v e ∙ sym (at_zero j w f);
  tied = each_one (IsTied key record { words = ws; homes = []; views = opening_view key ∷ [] }) (opening_view key) record { held_is = λ q g. absurd (not_none (opening_view key).held q refl g); note_is = λ k x g. absurd (not_none (opening_view key).note (k, x) refl g) };
  free_is = λ p h busy. absurd (busy (turns p h));
}
  where
    at_zero : (j : ℕ) (u : View) → get_elem? (opening_view key ∷ []) j ≡ some u → j ≡ 0
    at_zero zero u e = refl
    at_zero (suc j) u e = absurd (some-ne-none u (sym e))

pub closes : (key : Plan) (id : ℕ) (v : View) (s : State (Unit {0}) View) → IsKept key s → get_elem? s.views id ≡ some v → v.book.standing.stands ≡ key.start.seats → (ws : List ℕ) → s.words ≡ ws → (k : ℕ) → k < count_of key → decode key.start.by (slice_index ws k) ≡ reduced key.start.by (start_at key.start k) (values_at k v.book.entries)
closes key id v s r at all ws same k h = ap (λ l. decode key.start.by (slice_index l k)) (sym same) ∙ kept-closes key.start (count_of key) s.words (map book s.views) id (book v) r.kept (at_map book s.views id v at) all k h

-- the entries of a view are words
pub values_are : (key : Plan) (id : ℕ) (v : View) (s : State (Unit {0}) View) → IsKept key s → get_elem? s.views id ≡ some v → books.AreWords v.book.entries
values_are key id v s r at = r.kept.values_are id (book v) (at_map book s.views id v at)
