-- Entries, splits and joins keep the words reduced by all entries.
use Rattle.std.proofs.Common.{◌≡◌, ◌≢◌, ℕ, ◌<◌, ◌≤◌, ℤ, List, [], ◌∷◌, ◌++◌, length, set, sym, refl, ap, ◌∙◌, subst, arith, get_or-set_same, get_or-set_other, append-nil}
use Rattle.std.specs.Prelude.{slice_index}
use Rattle.std.proofs.lemmas.Bool.{eq-eqb, ne_eqb}
use Rattle.std.proofs.lemmas.List.{set-set}
use mathlib.Core.Logic.{dite}
use native.Mathlib.Decide.{ℕ_discrete}
use mathlib.Core.Option.{some}
use lib.ListN.{get_elem?}
use Rattle.atomic_table.proofs.Lists.{set_again, set_here, set_else}
use Rattle.fin_base.specs.declared.reduce.Reduce.TheVariants.{Put}
use Rattle.fin_base.specs.Words.{IsWord, apply, reduced}
use Rattle.fin_seats.specs.declared.views.Book.{Book}
use Rattle.fin_seats.specs.declared.views.Start.{Start}
use Rattle.fin_seats.specs.Codes.{code, decode}
use Rattle.fin_seats.specs.Books.{values_at, gathered, start_at, standing, opened, spent, counted, entered, joined, noted, AreWords, AreKept}
use Rattle.fin_seats.proofs.Places.{each_set, each_more, each_one, was_there, at-lt, set_swap}
use Rattle.fin_seats.proofs.Counts.{counted-opens, counted-same, counted-split, counted-join, others-spent}
use Rattle.fin_seats.proofs.Storing.{decodes}
use Rattle.fin_seats.proofs.Gather.{BooksFit, values_at-append, values-fit, fit-append, reduced-fits, gathered-set, gathered-fits, gathered-none, gathered-alone}

-- what one book may be
abbrev Fair : Book → Type 0
Fair b = AreWords b.entries × (b.standing.stands ≡ 0 → b.entries ≡ [])

module _ (key : Start) (count : ℕ) where
  fair_of : (ws : List ℕ) (bs : List Book) → AreKept key count ws bs → (i : ℕ) (b : Book) → get_elem? bs i ≡ some b → Fair b
  fair_of ws bs r i b e = (r.values_are i b e, r.empty i b e)

  pub kept-opens : (ws : List ℕ) → key.by ≢ Put → 0 < key.seats → ((k : ℕ) → k < count → IsWord (start_at key k) × (code key.by (start_at key k) ≡ slice_index ws k)) → AreKept key count ws (opened key ∷ [])
  kept-opens ws free any starts = record {
    word_is = λ k h. sym (starts k h).1;
    starts_are = λ k h. (starts k h).0;
    order_free = free;
    counted_are = counted-opens standing key.seats (opened key) refl any;
    values_are = each_one (λ (b : Book). AreWords b.entries) (opened key) tt;
    empty = each_one (λ (b : Book). b.standing.stands ≡ 0 → b.entries ≡ []) (opened key) (λ z. refl);
  }

  -- the stored words may change behind the first ones
  pub kept-words : (ws us : List ℕ) (bs : List Book) → AreKept key count ws bs → ((k : ℕ) → k < count → slice_index us k ≡ slice_index ws k) → AreKept key count us bs
  kept-words ws us bs r same = record {
    word_is = λ k h. same k h ∙ r.word_is k h;
    starts_are = r.starts_are;
    order_free = r.order_free;
    counted_are = r.counted_are;
    values_are = r.values_are;
    empty = r.empty;
  }

  -- what word k stands for is a word
  pub kept-is_word : (ws : List ℕ) (bs : List Book) (k : ℕ) → AreKept key count ws bs → k < count → IsWord (gathered key.by k (start_at key k) bs)
  kept-is_word ws bs k r h = gathered-fits key.by r.order_free k (start_at key k) bs (r.starts_are k h) r.values_are

  -- word k was reduced by z, and that is noted
  pub kept-noted : (ws : List ℕ) (bs : List Book) (id : ℕ) (b : Book) (k : ℕ) (z : ℤ) (new : ℕ) → AreKept key count ws bs → get_elem? bs id ≡ some b → 0 < b.standing.stands → k < count → count ≤ length ws → IsWord z → new ≡ code key.by (apply key.by (gathered key.by k (start_at key k) bs) z)
      → AreKept key count (set ws k new) (set bs id (noted b k z))
  kept-noted ws bs id b k z new r at seated in_range long fit new_is =
      let grows : (j : ℕ) → j < count → gathered key.by j (start_at key j) (set bs id (noted b k z)) ≡ reduced key.by (gathered key.by j (start_at key j) bs) (values_at j ((k, z) ∷ [])) =
      λ j h. gathered-set key.by r.order_free j (start_at key j) bs id b (noted b k z) (values_at j ((k, z) ∷ [])) (r.starts_are j h) r.values_are (values-fit j ((k, z) ∷ []) (fit, tt)) at (values_at-append j b.entries ((k, z) ∷ [])) in
      record {
        word_is = λ j h. dite (ℕ_discrete j k)
            (λ e.
            let one : values_at k ((k, z) ∷ []) ≡ z ∷ [] = rw (eq-eqb k k refl) refl in
            let now : gathered key.by k (start_at key k) (set bs id (noted b k z)) ≡ apply key.by (gathered key.by k (start_at key k) bs) z = grows k in_range ∙ ap (reduced key.by (gathered key.by k (start_at key k) bs)) one in
            subst (λ (m : ℕ). slice_index (set ws k new) m ≡ code key.by (gathered key.by m (start_at key m) (set bs id (noted b k z)))) (sym e)
            (get_or-set_same ws k new 0 (omega arith) ∙ new_is ∙ ap (code key.by) (sym now)))
            (λ ne.
            let none_there : values_at j ((k, z) ∷ []) ≡ [] = rw (ne_eqb k j (λ e. ne (sym e))) refl in
            let now : gathered key.by j (start_at key j) (set bs id (noted b k z)) ≡ gathered key.by j (start_at key j) bs = grows j h ∙ ap (reduced key.by (gathered key.by j (start_at key j) bs)) none_there in
            get_or-set_other ws k j new 0 ne ∙ r.word_is j h ∙ ap (code key.by) (sym now));
        starts_are = r.starts_are;
        order_free = r.order_free;
        counted_are = counted-same standing key.seats bs id b (noted b k z) r.counted_are at refl;
        values_are = each_set (λ (c : Book). AreWords c.entries) bs id (noted b k z) (λ j c _ e. r.values_are j c e) (fit-append b.entries ((k, z) ∷ []) (r.values_are id b at) (fit, tt));
        empty = each_set (λ (c : Book). c.standing.stands ≡ 0 → c.entries ≡ []) bs id (noted b k z) (λ j c _ e. r.empty j c e) (λ e. absurd (omega arith));
      }

  -- a seat was split
  pub kept-split : (ws : List ℕ) (bs : List Book) (id : ℕ) (b : Book) → AreKept key count ws bs → get_elem? bs id ≡ some b → 0 < b.standing.stands → 0 < b.standing.count → b.standing.count < b.standing.seats → AreKept key count ws (set bs id (counted b) ++ entered b ∷ [])
  kept-split ws bs id b r at seated holds more =
      let left = set bs id (counted b) in record {
        word_is = λ j h. r.word_is j h ∙ ap (code key.by) (sym (gathered-none key.by j (start_at key j) left (entered b) refl ∙ gathered-set key.by r.order_free j (start_at key j) bs id b (counted b) [] (r.starts_are j h) r.values_are tt at (sym (append-nil (values_at j b.entries)))));
        starts_are = r.starts_are;
        order_free = r.order_free;
        counted_are = counted-split standing key.seats bs id b (counted b) (entered b) r.counted_are at seated holds more refl refl;
        values_are = each_more (λ (c : Book). AreWords c.entries) left (entered b) (each_set (λ (c : Book). AreWords c.entries) bs id (counted b) (λ j c _ e. r.values_are j c e) (r.values_are id b at)) tt;
        empty = each_more (λ (c : Book). c.standing.stands ≡ 0 → c.entries ≡ []) left (entered b) (each_set (λ (c : Book). c.standing.stands ≡ 0 → c.entries ≡ []) bs id (counted b) (λ j c _ e. r.empty j c e) (r.empty id b at)) (λ z. refl);
      }

  -- entries that go from one book to another leave what all of them make
  moved : (ws : List ℕ) (bs : List Book) (j id : ℕ) (b : Book) (other : ℕ) (c : Book) → AreKept key count ws bs → j < count → other ≢ id → get_elem? bs id ≡ some b → get_elem? bs other ≡ some c
      → gathered key.by j (start_at key j) (set (set bs id (joined b c)) other spent) ≡ gathered key.by j (start_at key j) bs
  moved ws bs j id b other c r h apart at their =
      let a = start_at key j in
      let a_fits = r.starts_are j h in
      let without : List Book = set bs other spent in
      let small : BooksFit without = each_set (λ (u : Book). AreWords u.entries) bs other spent (λ i u _ e. r.values_are i u e) tt in
      let in_range : other < length bs = at-lt bs other c their in
      let spent_there : get_elem? without other ≡ some spent = set_here bs other spent in_range in
      let mine_there : get_elem? without id ≡ some b = set_else bs other id spent (λ e. apart (sym e)) ∙ at in
      let xs = values_at j c.entries in
      let xs_fit = values-fit j c.entries (r.values_are other c their) in
      let was : set without other c ≡ bs = set-set bs other spent c ∙ set_again bs other c their in
      let one : gathered key.by j a (set without other c) ≡ reduced key.by (gathered key.by j a without) xs = gathered-set key.by r.order_free j a without other spent c xs a_fits small xs_fit spent_there refl in
      let two : gathered key.by j a (set without id (joined b c)) ≡ reduced key.by (gathered key.by j a without) xs = gathered-set key.by r.order_free j a without id b (joined b c) xs a_fits small xs_fit mine_there (values_at-append j b.entries c.entries) in
      ap (gathered key.by j a) (set_swap bs id other (joined b c) spent apart) ∙ two ∙ sym one ∙ ap (gathered key.by j a) was

  -- a seat was joined into another one
  pub kept-join : (ws : List ℕ) (bs : List Book) (id : ℕ) (b : Book) (other : ℕ) (c : Book) → AreKept key count ws bs → get_elem? bs id ≡ some b → other ≢ id → get_elem? (set bs id (joined b c)) other ≡ some c → 0 < b.standing.stands → AreKept key count ws (set (set bs id (joined b c)) other spent)
  kept-join ws bs id b other c r at apart there seated =
      let between = set bs id (joined b c) in
      let their = was_there bs id other (joined b c) c apart there in record {
        word_is = λ j h. r.word_is j h ∙ ap (code key.by) (sym (moved ws bs j id b other c r h apart at their));
        starts_are = r.starts_are;
        order_free = r.order_free;
        counted_are = counted-join standing key.seats bs id b other c (joined b c) spent r.counted_are at apart there seated refl refl;
        values_are = each_set (λ (d : Book). AreWords d.entries) between other spent
            (λ i d _ e. each_set (λ (d : Book). AreWords d.entries) bs id (joined b c) (λ i d _ e. r.values_are i d e) (fit-append b.entries c.entries (r.values_are id b at) (r.values_are other c their)) i d e)
            tt;
        empty = each_set (λ (d : Book). d.standing.stands ≡ 0 → d.entries ≡ []) between other spent
            (λ i d _ e. each_set (λ (d : Book). d.standing.stands ≡ 0 → d.entries ≡ []) bs id (joined b c) (λ i d _ e. r.empty i d e) (λ z. absurd (omega arith)) i d e)
            (λ z. refl);
      }

  -- where one book stands for all seats, the words are read as the starts reduced by its entries
  pub kept-closes : (ws : List ℕ) (bs : List Book) (id : ℕ) (b : Book) → AreKept key count ws bs → get_elem? bs id ≡ some b → b.standing.stands ≡ key.seats → (k : ℕ) → k < count → decode key.by (slice_index ws k) ≡ reduced key.by (start_at key k) (values_at k b.entries)
  kept-closes ws bs id b r at all k h =
      ap (decode key.by) (r.word_is k h ∙ ap (code key.by) (gathered-alone key.by k (start_at key k) bs id b at
      (λ j c apart e. r.empty j c e (others-spent standing key.seats bs id b j c r.counted_are at all apart e))))
      ∙ decodes key.by _ (reduced-fits key.by (start_at key k) (values_at k b.entries) (r.starts_are k h) (values-fit k b.entries (r.values_are id b at)))
