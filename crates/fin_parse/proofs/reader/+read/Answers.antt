use Rattle.std.proofs.Common.{rules, ◌≡◌, ◌+◌, ◌*◌, ◌<◌, ◌≤◌, true, false, [], ◌∷◌, ◌++◌, drop, slice_index_or, length, Some, Result, sym, ap, ◌∙◌, subst, arith, Ok, Err}
use Rattle.fin_parse.specs.declared.grammar.Symbol.TheVariants.{Word, One, Many, Maybe, Deeper, InLoop}
use Rattle.fin_parse.specs.declared.class.Class.TheVariants as class
use Rattle.fin_parse.specs.declared.tree.Tree.{Tree}
use Rattle.fin_parse.specs.declared.tree.Stop.{Stop}
use Rattle.fin_parse.specs.declared.tree.Tree.TheVariants.{Leaf, Node, Group}
use Rattle.fin_parse.specs.Grammar.{row_of as row, form_at}
use Rattle.fin_parse.specs.Choices.{begins, may_open, is_nullable, is_sound, are_sound, goes_on, continues, row_continues, rank, row_weight, weight}
use Rattle.fin_parse.specs.Syntax.{signs, look, lower, entered}
use Rattle.fin_parse.specs.Reading.{Along, Stuck, Ended, Outcome, Trees, Rows, Groups}
use Rattle.fin_parse.proofs.Table.{chosen_for, lighter, sound}
use Rattle.fin_parse.proofs.Examples.{ex_symbol}
use Rattle.fin_parse.proofs.Steps.{through, through_fails, fails_as}
use Rattle.fin_parse.proofs.Symbols.{word_read, word_stuck, phrase_by_form, phrase_stuck, deeper_through, loop_through, deeper_sunk, loop_sunk, deeper_stuck, loop_stuck, GroupFrom, group_goes, group_ends, group_more, group_fails, many_through, maybe_present, maybe_absent, phrase_takes, not_true, Tail, RowFrom, row_ends, row_more, row_fails, whole_tail, tail_at, cut_at, at_end, weight_at, sound_at, word_not_end, solid_many, apart_many, stops_many}
use Rattle.fin_parse.proofs.reader.+read.Goals as goal

-- ---- read_phrase

pub read_phrase-read_row-requires : goal.read_phrase-read_row-requires
read_phrase-read_row-requires t c =
    let f = c.in-Some.form in let n = c.args.phrase in
    let is : form_at n (look (signs c.args.cursor.now)) ≡ Some f = sym (c.in-Some.ensures.value ∙ ap (form_at n) c.class.ensures) in
    let l : row_weight (row f) ≤ rank n = subst (λ m. row_weight (row f) ≤ rank m) (chosen_for n (look (signs c.args.cursor.now)) f is) (lighter f) in
    (omega (arith, l), tt)

pub read_phrase-returns-in_err-parts-in-Some : goal.read_phrase-returns-in_err-parts-in-Some
read_phrase-returns-in_err-parts-in-Some t c =
    let f = c.in-Some.form in let n = c.args.phrase in let old = c.args.cursor.now in let new = c.read_row.new.cursor in let k = c.args.room in
    let is : form_at n (look (signs old)) ≡ Some f = sym (c.in-Some.ensures.value ∙ ap (form_at n) c.class.ensures) in
    record {
      outcome = fails_as (Trees (One n)) k (goes_on n) old new c.from_residual.result c.in_err-parts-in-Some.field-0.0 (search rules)
          (through_fails (Rows (row f)) (λ k. k) (row_continues (row f)) (Trees (One n)) k (goes_on n) (Node f) old new (phrase_by_form k n f old is) c.in_err-parts-in-Some.field-0.0 c.in_err-parts-in-Some.ensures.outcome);
    }

pub read_phrase-returns-in_ok-parts-in-Some : goal.read_phrase-returns-in_ok-parts-in-Some
read_phrase-returns-in_ok-parts-in-Some t c =
    let f = c.in-Some.form in let n = c.args.phrase in let old = c.args.cursor.now in let new = c.read_row.new.cursor in let k = c.args.room in
    let is : form_at n (look (signs old)) ≡ Some f = sym (c.in-Some.ensures.value ∙ ap (form_at n) c.class.ensures) in
    record { outcome = through (Rows (row f)) (λ k. k) (row_continues (row f)) (Trees (One n)) k (goes_on n) (Node f) old new (phrase_by_form k n f old is) c.in_ok-parts-in-Some.parts c.in_ok-parts-in-Some.ensures.outcome }

pub read_phrase-returns-in-None : goal.read_phrase-returns-in-None
read_phrase-returns-in-None t c =
    record { outcome = phrase_stuck c.args.room c.args.phrase c.args.cursor.now (sym (c.in-None.ensures.value ∙ ap (form_at c.args.phrase) c.class.ensures)) }

-- ---- read_row

pub read_row-read_symbol-requires : goal.read_row-read_symbol-requires
read_row-read_symbol-requires t c =
    let f = c.args.form in let i = c.loop-symbol.symbol-index in let s = c.row_of-symbols.result.now in
    let e : s ≡ row f = c.row_of-symbols.ensures.value in
    let inside : i < length s = c.loop-symbol-test.true in
    let w : weight (slice_index_or s i (Word class.In)) ≤ row_weight s = weight_at s i (Word class.In) inside in
    let r : row_weight s ≡ row_weight (row f) = ap row_weight e in
    (omega (arith, w, r), (λ k. sound_at s i (Word class.In) k inside (subst (λ q. are_sound q k ≡ true) (sym e) (sound f k))))

pub read_row-returns-in_err-part : goal.read_row-returns-in_err-part
read_row-returns-in_err-part t c =
    let f = c.args.form in let i = c.loop-symbol.symbol-index in let s = c.row_of-symbols.result.now in let old = c.args.cursor.now in let k = c.args.room in
    let e : s ≡ row f = c.row_of-symbols.ensures.value in
    let inside : i < length s = c.loop-symbol-test.true in
    let cut = cut_at s i (Word class.In) inside in
    let a = subst (λ q. Along (Rows (row f)) k (row_continues (row f)) old c.loop-symbol.cursor (RowFrom c.loop-symbol.parts q)) cut c.loop-symbol.invariant.along in
    let tail = subst (λ q. Tail (row_continues (row f)) q) (ap (drop i) (sym e) ∙ cut) (tail_at (row_continues (row f)) (row f) i (whole_tail f)) in
    record {
      outcome = fails_as (Rows (row f)) k (row_continues (row f)) old c.read_symbol.new.cursor c.from_residual.result c.in_err-part.field-0.0 (search rules)
          (row_fails (row f) k (row_continues (row f)) old c.loop-symbol.cursor c.read_symbol.new.cursor c.loop-symbol.parts (slice_index_or s i (Word class.In)) (drop (i + 1) s) c.in_err-part.field-0.0 tail a c.in_err-part.ensures.outcome);
    }

pub read_row-loop-symbol-preserved : goal.read_row-loop-symbol-preserved
read_row-loop-symbol-preserved t c =
    let f = c.args.form in let i = c.loop-symbol.symbol-index in let s = c.row_of-symbols.result.now in let old = c.args.cursor.now in let k = c.args.room in
    let e : s ≡ row f = c.row_of-symbols.ensures.value in
    let inside : i < length s = c.loop-symbol-test.true in
    let cut = cut_at s i (Word class.In) inside in
    let a = subst (λ q. Along (Rows (row f)) k (row_continues (row f)) old c.loop-symbol.cursor (RowFrom c.loop-symbol.parts q)) cut c.loop-symbol.invariant.along in
    let tail = subst (λ q. Tail (row_continues (row f)) q) (ap (drop i) (sym e) ∙ cut) (tail_at (row_continues (row f)) (row f) i (whole_tail f)) in
    let pushed : c.push.new.self ≡ c.loop-symbol.parts ++ c.in_ok-part.part ∷ [] = search rules in
    record {
      symbols = e;
      along = subst (λ q. Along (Rows (row f)) k (row_continues (row f)) old c.read_symbol.new.cursor (RowFrom q (drop (i + 1) s))) (sym pushed)
          (row_more (row f) k (row_continues (row f)) old c.loop-symbol.cursor c.read_symbol.new.cursor c.loop-symbol.parts (slice_index_or s i (Word class.In)) (drop (i + 1) s) c.in_ok-part.part tail a c.in_ok-part.ensures.outcome);
    }

pub read_row-returns : goal.read_row-returns
read_row-returns t c =
    let f = c.args.form in let i = c.loop-symbol.symbol-index in let s = c.row_of-symbols.result.now in let old = c.args.cursor.now in let k = c.args.room in
    let past : length s ≤ i = omega arith in
    record {
      outcome = row_ends (row f) k (row_continues (row f)) old c.loop-symbol.cursor c.loop-symbol.parts
          (subst (λ q. Along (Rows (row f)) k (row_continues (row f)) old c.loop-symbol.cursor (RowFrom c.loop-symbol.parts q)) (at_end s i past) c.loop-symbol.invariant.along);
    }

-- ---- read_symbol

pub read_symbol-take-requires : goal.read_symbol-take-requires
read_symbol-take-requires t c = word_not_end c.in-Word.class (subst (λ q. is_sound q class.End ≡ true) c.in-Word.is (c.requires.sound class.End))

pub read_symbol-returns-in-Some : goal.read_symbol-returns-in-Some
read_symbol-returns-in-Some t c =
    let k = c.args.room in let w = c.in-Word.class in let token = c.in-Some.token in
    record {
      outcome = subst (λ s. Along (Trees s) k (continues s) c.args.cursor.now c.take.new.self (Ended (Leaf token))) (sym c.in-Word.is)
          (subst (λ q. Along (Trees (Word w)) k (continues (Word w)) q c.take.new.self (Ended (Leaf token))) (sym c.in-Some.ensures.0) (word_read k w token c.take.new.self c.in-Some.ensures.1));
    }

pub read_symbol-returns-in-None : goal.read_symbol-returns-in-None
read_symbol-returns-in-None t c =
    let k = c.args.room in let w = c.in-Word.class in let old = c.args.cursor.now in
    let x = ex_symbol k (Word w) class.End (subst (λ q. is_sound q class.End ≡ true) c.in-Word.is (c.requires.sound class.End)) in
    record {
      outcome = subst (λ s. Stuck (Trees s) k (continues s) old c.take.new.self) (sym c.in-Word.is)
          (subst (λ q. Stuck (Trees (Word w)) k (continues (Word w)) old q) (sym c.in-None.ensures.0) (word_stuck k w old x.0 x.1 x.2 c.in-None.ensures.1));
    }

pub read_symbol-read_many-requires : goal.read_symbol-read_many-requires
read_symbol-read_many-requires t c = (measure, (λ k. subst (λ q. is_sound q k ≡ true) c.in-Many.is (c.requires.sound k)))
  where
    heavy : weight c.args.symbol ≡ rank c.in-Many.phrase + 1
    heavy = ap weight c.in-Many.is

    measure : 100 * c.args.room.levels + (4 * rank c.in-Many.phrase + 5) < t
    measure = omega (arith, heavy)

pub read_symbol-returns-in_err-parts-in-Many : goal.read_symbol-returns-in_err-parts-in-Many
read_symbol-returns-in_err-parts-in-Many t c =
    let n = c.in-Many.phrase in let k = c.args.room in let old = c.args.cursor.now in let new = c.read_many.new.cursor in
    record {
      outcome = subst (λ s. Outcome (Trees s) k (continues s) old new c.from_residual.result) (sym c.in-Many.is) (fails_as (Trees (Many n)) k (continues (Many n)) old new c.from_residual.result c.in_err-parts-in-Many.field-0.0 (search rules)
          (through_fails (Groups n) (λ k. k) (continues (Many n)) (Trees (Many n)) k (continues (Many n)) Group old new (many_through k n (look (signs old))) c.in_err-parts-in-Many.field-0.0 c.in_err-parts-in-Many.ensures.outcome));
    }

pub read_symbol-returns-in_ok-parts-in-Many : goal.read_symbol-returns-in_ok-parts-in-Many
read_symbol-returns-in_ok-parts-in-Many t c =
    let n = c.in-Many.phrase in let k = c.args.room in let old = c.args.cursor.now in let new = c.read_many.new.cursor in
    record {
      outcome = subst (λ s. Along (Trees s) k (continues s) old new (Ended (Group c.in_ok-parts-in-Many.parts))) (sym c.in-Many.is)
          (through (Groups n) (λ k. k) (continues (Many n)) (Trees (Many n)) k (continues (Many n)) Group old new (many_through k n (look (signs old))) c.in_ok-parts-in-Many.parts c.in_ok-parts-in-Many.ensures.outcome);
    }

pub read_symbol-read_maybe-requires : goal.read_symbol-read_maybe-requires
read_symbol-read_maybe-requires t c = (measure, (λ k. subst (λ q. is_sound q k ≡ true) c.in-Maybe.is (c.requires.sound k)))
  where
    heavy : weight c.args.symbol ≡ rank c.in-Maybe.phrase + 1
    heavy = ap weight c.in-Maybe.is

    measure : 100 * c.args.room.levels + (4 * rank c.in-Maybe.phrase + 5) < t
    measure = omega (arith, heavy)

-- ---- read_many

pub read_many-returns-in_err-part : goal.read_many-returns-in_err-part
read_many-returns-in_err-part t c =
    let n = c.args.phrase in let k = c.args.room in let old = c.args.cursor.now in let w = continues (Many n) in
    let goes : begins n (look (signs c.each.cursor)) ≡ true = search rules in
    let a = group_goes n k w (stops_many n) (solid_many n c.requires.sound) (apart_many n c.requires.sound) old c.each.cursor c.each.parts c.each.invariant goes in
    record {
      outcome = fails_as (Groups n) k w old c.read_phrase.new.cursor c.from_residual.result c.in_err-part.field-0.0 (search rules)
          (group_fails n k w (stops_many n) (solid_many n c.requires.sound) (apart_many n c.requires.sound) old c.each.cursor c.read_phrase.new.cursor c.each.parts c.in_err-part.field-0.0 a c.in_err-part.ensures.outcome);
    }

pub read_many-each-smaller : goal.read_many-each-smaller
read_many-each-smaller t c = phrase_takes c.args.room c.args.phrase c.each.cursor c.read_phrase.new.cursor c.in_ok-part.part (solid_many c.args.phrase c.requires.sound) c.in_ok-part.ensures.outcome

pub read_many-each-preserved : goal.read_many-each-preserved
read_many-each-preserved t c =
    let n = c.args.phrase in let k = c.args.room in let old = c.args.cursor.now in let w = continues (Many n) in
    let goes : begins n (look (signs c.each.cursor)) ≡ true = search rules in
    let a = group_goes n k w (stops_many n) (solid_many n c.requires.sound) (apart_many n c.requires.sound) old c.each.cursor c.each.parts c.each.invariant goes in
    let pushed : c.push.new.self ≡ c.each.parts ++ c.in_ok-part.part ∷ [] = search rules in
    subst (λ q. Along (Groups n) k w old c.read_phrase.new.cursor (GroupFrom n q)) (sym pushed)
    (group_more n k w (stops_many n) (solid_many n c.requires.sound) (apart_many n c.requires.sound) old c.each.cursor c.read_phrase.new.cursor c.each.parts c.in_ok-part.part a c.in_ok-part.ensures.outcome)

pub read_many-returns : goal.read_many-returns
read_many-returns t c =
    let n = c.args.phrase in let k = c.args.room in let old = c.args.cursor.now in let w = continues (Many n) in
    let ended : begins n (look (signs c.each.cursor)) ≡ false = search rules in
    record { outcome = group_ends n k w (stops_many n) (solid_many n c.requires.sound) (apart_many n c.requires.sound) old c.each.cursor c.each.parts c.each.invariant ended }

-- ---- read_maybe

pub read_maybe-returns-then-is_none : goal.read_maybe-returns-then-is_none
read_maybe-returns-then-is_none t c =
    let n = c.args.phrase in
    let ended : begins n (look (signs c.args.cursor.now)) ≡ false = search rules in
    record { outcome = subst (λ q. Along (Trees (Maybe n)) c.args.room (continues (Maybe n)) c.args.cursor.now c.args.cursor.now (Ended (Group q))) (sym c.new.ensures) (maybe_absent c.args.room n c.args.cursor.now (not_true (is_nullable n) (c.requires.sound class.End)) ended) }

pub read_maybe-returns-in_err-part : goal.read_maybe-returns-in_err-part
read_maybe-returns-in_err-part t c =
    let n = c.args.phrase in let k = c.args.room in let old = c.args.cursor.now in let new = c.read_phrase.new.cursor in
    let goes : begins n (look (signs old)) ≡ true = search rules in
    record {
      outcome = fails_as (Trees (Maybe n)) k (continues (Maybe n)) old new c.from_residual.result c.in_err-part.field-0.0 (search rules)
          (through_fails (Trees (One n)) (λ k. k) (goes_on n) (Trees (Maybe n)) k (continues (Maybe n)) (λ u. Group (u ∷ [])) old new (maybe_present k n old goes) c.in_err-part.field-0.0 c.in_err-part.ensures.outcome);
    }

pub read_maybe-returns : goal.read_maybe-returns
read_maybe-returns t c =
    let n = c.args.phrase in let k = c.args.room in let old = c.args.cursor.now in let new = c.read_phrase.new.cursor in
    let goes : begins n (look (signs old)) ≡ true = search rules in
    record { outcome = subst (λ q. Along (Trees (Maybe n)) k (continues (Maybe n)) old new (Ended (Group q))) (sym c.in_ok-parts.ensures.value) (through (Trees (One n)) (λ k. k) (goes_on n) (Trees (Maybe n)) k (continues (Maybe n)) (λ u. Group (u ∷ [])) old new (maybe_present k n old goes) c.in_ok-part.part c.in_ok-part.ensures.outcome) }

-- ---- read_deeper and read_in_loop

pub read_deeper-returns-then-room-gt0 : goal.read_deeper-returns-then-room-gt0
read_deeper-returns-then-room-gt0 t c = record { outcome = passed c.read_phrase.result c.read_phrase.ensures.outcome }
  where
    passed : (r : Result Tree Stop) → Outcome (Trees (One c.args.phrase)) (lower c.args.room) (goes_on c.args.phrase) c.args.cursor.now c.read_phrase.new.cursor r → Outcome (Trees (Deeper c.args.phrase)) c.args.room (goes_on c.args.phrase) c.args.cursor.now c.read_phrase.new.cursor r
    passed (Ok u) h = through (Trees (One c.args.phrase)) lower (goes_on c.args.phrase) (Trees (Deeper c.args.phrase)) c.args.room (goes_on c.args.phrase) (λ u. u) c.args.cursor.now c.read_phrase.new.cursor (deeper_through c.args.room c.args.phrase (look (signs c.args.cursor.now)) c.if-room-gt0.true) u h
    passed (Err s) h = through_fails (Trees (One c.args.phrase)) lower (goes_on c.args.phrase) (Trees (Deeper c.args.phrase)) c.args.room (goes_on c.args.phrase) (λ u. u) c.args.cursor.now c.read_phrase.new.cursor (deeper_through c.args.room c.args.phrase (look (signs c.args.cursor.now)) c.if-room-gt0.true) s h

pub read_deeper-returns-then-may_open : goal.read_deeper-returns-then-may_open
read_deeper-returns-then-may_open t c = record { outcome = deeper_sunk c.args.room c.args.phrase c.args.cursor.now (omega arith) (sym (c.if-may_open.ensures.value ∙ ap (may_open c.args.phrase) c.class.ensures)) }

pub read_deeper-returns-else-may_open : goal.read_deeper-returns-else-may_open
read_deeper-returns-else-may_open t c = record { outcome = deeper_stuck c.args.room c.args.phrase c.args.cursor.now (sym (c.if-may_open.ensures.value ∙ ap (may_open c.args.phrase) c.class.ensures)) }

pub read_in_loop-returns-then-room-gt0 : goal.read_in_loop-returns-then-room-gt0
read_in_loop-returns-then-room-gt0 t c = record { outcome = passed c.read_phrase.result c.read_phrase.ensures.outcome }
  where
    passed : (r : Result Tree Stop) → Outcome (Trees (One c.args.phrase)) (entered c.args.room) (goes_on c.args.phrase) c.args.cursor.now c.read_phrase.new.cursor r → Outcome (Trees (InLoop c.args.phrase)) c.args.room (goes_on c.args.phrase) c.args.cursor.now c.read_phrase.new.cursor r
    passed (Ok u) h = through (Trees (One c.args.phrase)) entered (goes_on c.args.phrase) (Trees (InLoop c.args.phrase)) c.args.room (goes_on c.args.phrase) (λ u. u) c.args.cursor.now c.read_phrase.new.cursor (loop_through c.args.room c.args.phrase (look (signs c.args.cursor.now)) c.if-room-gt0.true) u h
    passed (Err s) h = through_fails (Trees (One c.args.phrase)) entered (goes_on c.args.phrase) (Trees (InLoop c.args.phrase)) c.args.room (goes_on c.args.phrase) (λ u. u) c.args.cursor.now c.read_phrase.new.cursor (loop_through c.args.room c.args.phrase (look (signs c.args.cursor.now)) c.if-room-gt0.true) s h

pub read_in_loop-returns-then-may_open : goal.read_in_loop-returns-then-may_open
read_in_loop-returns-then-may_open t c = record { outcome = loop_sunk c.args.room c.args.phrase c.args.cursor.now (omega arith) (sym (c.if-may_open.ensures.value ∙ ap (may_open c.args.phrase) c.class.ensures)) }

pub read_in_loop-returns-else-may_open : goal.read_in_loop-returns-else-may_open
read_in_loop-returns-else-may_open t c = record { outcome = loop_stuck c.args.room c.args.phrase c.args.cursor.now (sym (c.if-may_open.ensures.value ∙ ap (may_open c.args.phrase) c.class.ensures)) }
