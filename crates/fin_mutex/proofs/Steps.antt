-- Taking a turn, loading, storing and giving back keep the rule.
use Rattle.std.proofs.Common.{◌≡◌, ℕ, ◌+◌, ◌/◌, ◌<◌, ◌≢◌, eqb, ℤ, List, length, map, set, Some, None, sym, refl, ap, ◌∙◌, subst, arith, length-set, get_or-set_same, get_or-set_other}
use Rattle.std.specs.Prelude.{slice_index}
use Rattle.std.proofs.lemmas.Bool.{eq-eqb, ne_eqb}
use Rattle.std.proofs.lemmas.List.{set-get_or}
use mathlib.Core.Logic.{dite}
use native.Mathlib.Decide.{ℕ_discrete}
use mathlib.Core.Option.{none, some, some-injective}
use lib.ListN.{get_elem?}
use lib.Seq.{map-set}
use prog.Atomic.{either}
use Rattle.atomic_table.specs.Table.{State, Me, step, keeps, Allows}
use Rattle.atomic_table.proofs.Lists.{set_again, set_here, set_else, at_map}
use Rattle.fin_base.specs.Words.{IsWord, apply}
use Rattle.fin_seats.specs.Codes.{code, decode}
use Rattle.fin_seats.specs.Books.{gathered, start_at, noted, AreKept}
use Rattle.fin_seats.proofs.Places.{each_set, at-lt}
use Rattle.fin_seats.proofs.Storing.{decodes}
use Rattle.fin_seats.proofs.Books.{kept-words, kept-is_word, kept-noted}
use Rattle.fin_mutex.specs.declared.rule.View.{View}
use Rattle.fin_mutex.specs.declared.rule.Plan.{Plan}
use Rattle.fin_mutex.specs.Turns.{book, count_of, holding, reading, written, given_back, turn_of, IsTied, IsKept, Takes, Loads, Writes, Gives}
use Rattle.fin_mutex.proofs.Tied.{same_some, not_none, same_books, changed, stays, still_held, one_holder}

-- the number of a view that holds a position is over 0
over_zero : (key : Plan) (s : State (Unit {0}) View) (i : ℕ) (u : View) → IsKept key s → get_elem? s.views i ≡ some u → 0 < u.book.standing.stands → 0 < u.number
over_zero key s i u r e h = (r.fair i u e h).numbered

takes_won : (key : Plan) (s : State (Unit {0}) View) (id p : ℕ) (v : View) → IsKept key s → get_elem? s.views id ≡ some v → p < key.positions → 0 < v.book.standing.stands → v.held ≡ None → v.note ≡ None → turn_of key s p ≡ 0
    → IsKept key record { words = set s.words (count_of key + p) v.number; homes = s.homes; views = set s.views id (holding v p) }
takes_won key s id p v r at in_range seated idle blank is_free =
    let w : View = holding v p in
    let at_word : ℕ = count_of key + p in
    let ws = set s.words at_word v.number in
    let t : State (Unit {0}) View = record { words = ws; homes = s.homes; views = set s.views id w } in
    let wide = r.wide in
    let word_stays : (k : ℕ) → k < count_of key → slice_index ws k ≡ slice_index s.words k = λ k h. get_or-set_other s.words at_word k v.number 0 (λ e. omega arith) in
    let turn_stays : (q : ℕ) → q ≢ p → turn_of key t q ≡ turn_of key s q = λ q ne. get_or-set_other s.words at_word (count_of key + q) v.number 0 (λ e. ne (omega arith)) in
    let turn_new : turn_of key t p ≡ v.number = get_or-set_same s.words at_word v.number 0 (omega arith) in
    let in_views : id < length s.views = at-lt s.views id v at in
    changed key s id v w ws r at refl refl refl refl (length-set s.words at_word v.number)
    (subst (AreKept key.start (count_of key) ws) (sym (same_books s.views id v w at refl)) (kept-words key.start (count_of key) s.words ws (map book s.views) r.kept word_stays))
    (each_set (IsTied key t) s.views id w
    (λ j u ne e. stays key s t u (r.tied j u e)
    (λ q g. turn_stays q (λ same. let h = (r.tied j u e).held_is q g in let pos = over_zero key s j u r e h.2 in let z : turn_of key s q ≡ turn_of key s p = ap (turn_of key s) same in let is = h.1 in omega arith))
    (λ k x g. word_stays k ((r.tied j u e).note_is k x g).0))
    record {
      held_is = λ q g. let same : p ≡ q = same_some p q g in (subst (λ (n : ℕ). n < key.positions) same in_range, ap (turn_of key t) (sym same) ∙ turn_new, seated);
      note_is = λ k x g. absurd (not_none v.note (k, x) blank g);
    })
    (λ q h busy. dite (ℕ_discrete q p)
    (λ same. (id, w, set_here s.views id w in_views, ap Some (sym same)))
    (λ ne. let f = r.free_is q h (λ z. busy (turn_stays q ne ∙ z)) in
    (f.0, f.1, set_else s.views id f.0 w (λ same. not_none f.1.held q (ap (λ (y : View). y.held) (some-injective f.1 v (sym f.2 ∙ ap (get_elem? s.views) same ∙ at)) ∙ idle) f.3) ∙ f.2, f.3)))

takes : (key : Plan) (slots id : ℕ) (me : Me (Unit {0}) View) (p : ℕ) → p < key.positions → 0 < me.0.book.standing.stands → me.0.held ≡ None → me.0.note ≡ None → me.0.base ≡ count_of key
    → Allows (IsKept key) slots id me (count_of key + p) (λ n. either (eqb n 0) me.0.number n) (Takes (step slots (count_of key + p) 0 me.0.number none) me)
takes key slots id me p in_range seated idle blank base s r _ at small = let n : ℕ = slice_index s.words (count_of key + p) in dite (ℕ_discrete n 0)
    (λ free. (
      holding me.0 p,
      keeps,
      tt,
      rw (eq-eqb n 0 free) (takes_won key s id p me.0 r at in_range seated idle blank free),
      (refl, (λ _. (p, ap (λ (b : ℕ). b + p) (sym base), refl)), λ not. absurd (not free)),
    ))
    (λ busy. (
      me.0,
      keeps,
      tt,
      rw (ne_eqb n 0 busy) (subst (λ (t : List ℕ × List View). IsKept key record { words = t.0; homes = s.homes; views = t.1 }) (λ i. (sym (set-get_or s.words (count_of key + p) 0) i, sym (set_again s.views id me.0 at) i)) r),
      (refl, (λ z. absurd (busy z)), λ _. refl),
    ))

pub loads : (key : Plan) (slots id : ℕ) (me : Me (Unit {0}) View) (k : ℕ) → k < count_of key → 0 < me.0.book.standing.stands → me.0.held ≡ Some (k / key.per) → Allows (IsKept key) slots id me k (λ n. n) (Loads (step slots k 0 0 none) me)
loads key slots id me k in_range seated held s r _ at small =
    let v : View = me.0 in
    let x : ℕ = slice_index s.words k in
    let w : View = reading v k x in
    let t : State (Unit {0}) View = record { words = s.words; homes = s.homes; views = set s.views id w } in (
      w,
      keeps,
      tt,
      subst (λ (l : List ℕ). IsKept key record { words = l; homes = s.homes; views = set s.views id w }) (sym (set-get_or s.words k 0))
          (changed key s id v w s.words r at refl refl refl refl refl
          (subst (AreKept key.start (count_of key) s.words) (sym (same_books s.views id v w at refl)) r.kept)
          (each_set (IsTied key t) s.views id w (λ j u ne e. stays key s t u (r.tied j u e) (λ q g. refl) (λ j x g. refl))
          record {
            held_is = λ q g. (r.tied id v at).held_is q g;
            note_is = λ j y g.
                let same : (k, x) ≡ (j, y) = same_some (k, x) (j, y) g in
                let sk : k ≡ j = ap (λ (z : ℕ × ℕ). z.0) same in
                let sx : x ≡ y = ap (λ (z : ℕ × ℕ). z.1) same in
                (subst (λ (n : ℕ). n < count_of key) sk in_range, held ∙ ap (λ (n : ℕ). Some (n / key.per)) sk, ap (slice_index s.words) (sym sk) ∙ sx);
          })
          (λ q h busy. still_held key s id v w q at refl (r.free_is q h busy))),
      (refl, refl),
    )

pub writes : (key : Plan) (slots id : ℕ) (me : Me (Unit {0}) View) (k x : ℕ) (z : ℤ) (new : ℕ) → 0 < me.0.book.standing.stands → me.0.note ≡ Some (k, x) → IsWord z → new ≡ code key.start.by (apply key.start.by (decode key.start.by x) z)
    → Allows (IsKept key) slots id me k (λ _. new) (λ _. Writes z (step slots k new 0 none) me new)
writes key slots id me k x z new seated note fit new_is s r _ at small =
    let v : View = me.0 in
    let w : View = written v k z in
    let ws = set s.words k new in
    let by = key.start.by in
    let count = count_of key in
    let t : State (Unit {0}) View = record { words = ws; homes = s.homes; views = set s.views id w } in
    let my_note = (r.tied id v at).note_is k x note in
    let wide = r.wide in
    let in_range = my_note.0 in
    let turn_stays : (q : ℕ) → turn_of key t q ≡ turn_of key s q = λ q. get_or-set_other s.words k (count_of key + q) new 0 (λ e. omega arith) in
    let old : ℤ = gathered by k (start_at key.start k) (map book s.views) in
    let reads_old : decode by x ≡ old = ap (decode by) (sym my_note.2 ∙ r.kept.word_is k in_range) ∙ decodes by old (kept-is_word key.start count s.words (map book s.views) k r.kept in_range) in
    let stored_is : new ≡ code by (apply by old z) = new_is ∙ ap (λ (o : ℤ). code by (apply by o z)) reads_old in
    let kept : AreKept key.start count ws (set (map book s.views) id (noted v.book k z)) = kept-noted key.start count s.words (map book s.views) id (book v) k z new r.kept (at_map book s.views id v at) seated in_range (omega arith) fit stored_is in (
      w,
      keeps,
      tt,
      changed key s id v w ws r at refl refl refl refl (length-set s.words k new)
          (subst (AreKept key.start count ws) (sym (map-set book s.views id w)) kept)
          (each_set (IsTied key t) s.views id w
          (λ j u ne e. stays key s t u (r.tied j u e) (λ q g. turn_stays q)
          (λ i y g. get_or-set_other s.words k i new 0 (λ same.
          let their = (r.tied j u e).note_is i y g in
          ne (one_holder key s j id u v (k / key.per) r e at (their.1 ∙ ap (λ (n : ℕ). Some (n / key.per)) same) my_note.1))))
          record {
            held_is = λ q g. let h = (r.tied id v at).held_is q g in (h.0, turn_stays q ∙ h.1, h.2);
            note_is = λ i y g. absurd (not_none w.note (i, y) refl g);
          })
          (λ q h busy. still_held key s id v w q at refl (r.free_is q h (λ e. busy (turn_stays q ∙ e)))),
      (refl, refl),
    )

gives : (key : Plan) (slots id : ℕ) (me : Me (Unit {0}) View) (p : ℕ) → 0 < me.0.book.standing.stands → me.0.held ≡ Some p → me.0.note ≡ None → Allows (IsKept key) slots id me (count_of key + p) (λ _. 0) (λ _. Gives (step slots (count_of key + p) 0 0 none) me 0)
gives key slots id me p seated held blank s r _ at small =
    let v : View = me.0 in
    let w : View = given_back v in
    let at_word : ℕ = count_of key + p in
    let ws = set s.words at_word 0 in
    let t : State (Unit {0}) View = record { words = ws; homes = s.homes; views = set s.views id w } in
    let wide = r.wide in
    let in_range = ((r.tied id v at).held_is p held).0 in
    let word_stays : (k : ℕ) → k < count_of key → slice_index ws k ≡ slice_index s.words k = λ k h. get_or-set_other s.words at_word k 0 0 (λ e. omega arith) in
    let turn_stays : (q : ℕ) → q ≢ p → turn_of key t q ≡ turn_of key s q = λ q ne. get_or-set_other s.words at_word (count_of key + q) 0 0 (λ e. ne (omega arith)) in
    let turn_new : turn_of key t p ≡ 0 = get_or-set_same s.words at_word 0 0 (omega arith) in (
      w,
      keeps,
      tt,
      changed key s id v w ws r at refl refl refl refl (length-set s.words at_word 0)
          (subst (AreKept key.start (count_of key) ws) (sym (same_books s.views id v w at refl)) (kept-words key.start (count_of key) s.words ws (map book s.views) r.kept word_stays))
          (each_set (IsTied key t) s.views id w
          (λ j u ne e. stays key s t u (r.tied j u e)
          (λ q g. turn_stays q (λ same. ne (one_holder key s j id u v p r e at (g ∙ ap Some same) held)))
          (λ k x g. word_stays k ((r.tied j u e).note_is k x g).0))
          record {
            held_is = λ q g. absurd (not_none w.held q refl g);
            note_is = λ k x g. absurd (not_none v.note (k, x) blank g);
          })
          (λ q h busy. dite (ℕ_discrete q p)
          (λ same. absurd (busy (ap (turn_of key t) same ∙ turn_new)))
          (λ ne. let f = r.free_is q h (λ z. busy (turn_stays q ne ∙ z)) in
          (f.0, f.1, set_else s.views id f.0 w (λ same. ne (sym (same_some p q (sym held ∙ sym (ap (λ (y : View). y.held) (some-injective f.1 v (sym f.2 ∙ ap (get_elem? s.views) same ∙ at))) ∙ f.3)))) ∙ f.2, f.3))),
      (refl, refl),
    )

pub takes_at : (key : Plan) (slots id : ℕ) (me : Me (Unit {0}) View) (p i number : ℕ) → i ≡ count_of key + p → number ≡ me.0.number → p < key.positions → 0 < me.0.book.standing.stands → me.0.held ≡ None → me.0.note ≡ None → me.0.base ≡ count_of key
    → Allows (IsKept key) slots id me i (λ n. either (eqb n 0) number n) (Takes (step slots i 0 number none) me)
takes_at key slots id me p i number i_is number_is in_range seated idle blank base =
    subst (λ (z : ℕ × ℕ). Allows (IsKept key) slots id me z.0 (λ n. either (eqb n 0) z.1 n) (Takes (step slots z.0 0 z.1 none) me)) (λ j. (sym i_is j, sym number_is j)) (takes key slots id me p in_range seated idle blank base)

pub gives_at : (key : Plan) (slots id : ℕ) (me : Me (Unit {0}) View) (p i : ℕ) → i ≡ count_of key + p → 0 < me.0.book.standing.stands → me.0.held ≡ Some p → me.0.note ≡ None → Allows (IsKept key) slots id me i (λ _. 0) (λ _. Gives (step slots i 0 0 none) me 0)
gives_at key slots id me p i i_is seated held blank = subst (λ (z : ℕ). Allows (IsKept key) slots id me z (λ _. 0) (λ _. Gives (step slots z 0 0 none) me 0)) (sym i_is) (gives key slots id me p seated held blank)

-- the seat after a turn that was won
pub won : (me after : Me (Unit {0}) View) (p i count n : ℕ) (slots number : ℕ) → i ≡ count + p → me.0.base ≡ count → Takes (step slots i 0 number none) me n after → n ≡ 0 → after ≡ (holding me.0 p, me.1)
won me after p i count n slots number i_is base t z = let g = t.1 z in let at_word = g.1 in let same : g.0 ≡ p = omega arith in let now : after.0 ≡ holding me.0 p = g.2 ∙ ap (holding me.0) same in λ j. (now j, t.0 j)

pub lost : (me after : Me (Unit {0}) View) (n slots i number : ℕ) → Takes (step slots i 0 number none) me n after → n ≢ 0 → after ≡ me
lost me after n slots i number t ne = let now = t.2 ne in λ j. (now j, t.0 j)
