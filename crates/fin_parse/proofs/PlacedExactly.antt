-- The words of a format are misplaced exactly if their decorations are, or the levels and the decoration that they name.
use Rattle.std.proofs.Common.{◌≡◌, ℕ, zero, suc, ◌+◌, ◌<◌, ◌↔◌, Bool, true, false, cond, not, ◌&&◌, ◌||◌, ◌==◌, nat_le, nat_lt, ◌^◌, List, [], ◌∷◌, length, Option, Some, None, IsTrue, slice_index_or, refl, sym, ap, ◌∙◌, subst, arith, eqb-true, add-zero, zero-add}
use Rattle.std.specs.List.{cons_option, count_by, list_all, list_any}
use Rattle.std.proofs.lemmas.Bool.{le-leb}
use Rattle.fin_lex.specs.declared.token.Token.{Token}
use Rattle.fin_lex.specs.declared.token.TokenKind.{TokenKind}
use Rattle.fin_lex.specs.declared.token.TokenKind.TheVariants as kind
use Rattle.fin_tensor.specs.declared.format.Level.{Level}
use Rattle.fin_tensor.specs.declared.format.Level.TheVariants.{Runs}
use Rattle.fin_tensor.specs.declared.format.Wrap.TheVariants.{Bare, Atomic, Mutex, Shard}
use Rattle.fin_tensor.specs.Placement as levels
use Rattle.fin_ast.specs.Kinds.{is_input}
use Rattle.fin_parse.specs.declared.class.Class.{Class}
use Rattle.fin_parse.specs.declared.class.Class.TheVariants as class
use Rattle.fin_parse.specs.declared.class.TheConstants.{RESERVED_CLASSES, SYMBOL_CLASSES}
use Rattle.fin_parse.specs.declared.reserved.TheConstants.{IN, OUT, DENSE, LIST, RUNS, BAND, DICT, ELEMENT, ATOMIC, MUTEX, SHARD}
use Rattle.fin_parse.specs.Choices.{same_class}
use Rattle.fin_parse.specs.Classes.{class_of}
use Rattle.fin_parse.specs.HeaderNames.{is_level, levels_of}
use Rattle.fin_parse.specs.FormatWords as words
use Rattle.fin_parse.specs.HeaderTrees.{kind_of, level_of, levels_in, levels_before, wrap_of}
use Rattle.fin_parse.proofs.Table.{impossible, both, implied, same_self}
use Rattle.fin_parse.proofs.Leads.{and_both, or_false, or_left}
use Rattle.fin_parse.proofs.HeaderRows.{IsFormat, ends, goes}
use Rattle.fin_parse.proofs.WordPlacement.{chosen_level, NoneOr, one_if, found, word_counts, length-levels, is_input-kind_of, Passes, passes, placed_as}

-- one decoration at most, atomic directly before the elements, shard first
abbrev pub are_decorations_placed : List Token → Bool
are_decorations_placed ts = nat_le (count_by words.is_decoration ts) 1 && words.stands_last ATOMIC ts && (not (list_any words.is_shard ts) || words.begins_with SHARD ts)

-- ---- the reserved words of a class

module _ (c : Class) (p : ℕ → Bool) where
  -- all that is of the class, from a place on, passes the test
  abbrev all_pass : ℕ → List Class → Bool
  all_pass from [] = not (same_class class.Unknown c)
  all_pass from (d ∷ ds) = (not (same_class d c) || p from) && all_pass (suc from) ds

  passes_at : (from : ℕ) (ds : List Class) (i : ℕ) → all_pass from ds ≡ true → slice_index_or ds i class.Unknown ≡ c → p (from + i) ≡ true
  passes_at from [] i h is = impossible (sym (ap not (ap (λ d. same_class class.Unknown d) (sym is))) ∙ h)
  passes_at from (d ∷ ds) zero h is = subst (λ n. p n ≡ true) (sym (add-zero from)) (implied (same_class d c) (p from) (both (not (same_class d c) || p from) (all_pass (suc from) ds) h).0 (ap (λ e. same_class e c) is ∙ same_self c))
  passes_at from (d ∷ ds) (suc i) h is =
      let e : suc from + i ≡ from + suc i = omega arith in
      subst (λ n. p n ≡ true) e (passes_at (suc from) ds i (both (not (same_class d c) || p from) (all_pass (suc from) ds) h).1 is)

other : (c d : Class) → not (same_class d c) ≡ true → d ≡ c → ⊥
other c d h is = impossible (sym (ap not (ap (λ e. same_class e c) is ∙ same_self c)) ∙ h)

number_never : (c : Class) (a b : Bool) → not (same_class class.Number c) && not (same_class class.Widest c) && not (same_class class.Unknown c) ≡ true → cond a class.Number (cond b class.Widest class.Unknown) ≡ c → ⊥
number_never c true b h is = other c class.Number (both (not (same_class class.Number c)) (not (same_class class.Widest c)) (both (not (same_class class.Number c) && not (same_class class.Widest c)) (not (same_class class.Unknown c)) h).0).0 is
number_never c false true h is = other c class.Widest (both (not (same_class class.Number c)) (not (same_class class.Widest c)) (both (not (same_class class.Number c) && not (same_class class.Widest c)) (not (same_class class.Unknown c)) h).0).1 is
number_never c false false h is = other c class.Unknown (both (not (same_class class.Number c) && not (same_class class.Widest c)) (not (same_class class.Unknown c)) h).1 is

element_is : (k : TokenKind) → class_of k ≡ class.Element → words.is_reserved ELEMENT k ≡ true
element_is kind.Name h = absurd (cc)
element_is (kind.Number n) h = absurd (number_never class.Element (nat_lt n (2 ^ 63)) (n == 2 ^ 63) refl h)
element_is (kind.Reserved k) h = subst (λ n. (n == ELEMENT) ≡ true) (zero-add k) (passes_at class.Element (λ n. n == ELEMENT) 0 RESERVED_CLASSES k refl h)
element_is (kind.Symbol k) h = impossible (passes_at class.Element (λ n. false) 0 SYMBOL_CLASSES k refl h)

abbrev decorates : TokenKind → Bool
decorates k = words.is_reserved ATOMIC k || words.is_reserved MUTEX k || words.is_reserved SHARD k

store_is : (k : TokenKind) → class_of k ≡ class.Store → is_level k || decorates k ≡ true
store_is kind.Name h = absurd (cc)
store_is (kind.Number n) h = absurd (number_never class.Store (nat_lt n (2 ^ 63)) (n == 2 ^ 63) refl h)
store_is (kind.Reserved k) h =
    subst (λ n. (nat_le DENSE n && nat_le n DICT) || (n == ATOMIC || n == MUTEX || n == SHARD) ≡ true) (zero-add k)
    (passes_at class.Store (λ n. (nat_le DENSE n && nat_le n DICT) || (n == ATOMIC || n == MUTEX || n == SHARD)) 0 RESERVED_CLASSES k refl h)
store_is (kind.Symbol k) h = impossible (passes_at class.Store (λ n. false) 0 SYMBOL_CLASSES k refl h)

named : (o : Option Level) (b : Bool) → found o ≡ one_if b → b ≡ true → (l : Level) × (o ≡ Some l)
named None true h is = absurd (omega arith)
named None false h is = impossible is
named (Some l) b h is = (l, refl)

-- what is no decoration names a level
level_there : (k : TokenKind) → class_of k ≡ class.Store → decorates k ≡ false → (l : Level) × (level_of k ≡ Some l)
level_there k is plain = named (level_of k) (is_level k) (word_counts k) (left (is_level k) (decorates k) (store_is k is) plain)
  where
    left : (a b : Bool) → a || b ≡ true → b ≡ false → a ≡ true
    left true b h e = refl
    left false b h e = impossible (sym e ∙ h)

-- ---- the words fit the levels

neither : (a b c d : Bool) → a ≡ false → b ≡ false → c ≡ false → d ≡ false → not (a || b || c || d) ≡ true
neither true b c d p q r s = impossible (sym p)
neither false true c d p q r s = impossible (sym q)
neither false false true d p q r s = impossible (sym r)
neither false false false true p q r s = impossible (sym s)
neither false false false false p q r s = refl

dense_back : (k : ℕ) (a b c d e : Bool) → (k == DENSE) ≡ a → (k == LIST) ≡ b → (k == RUNS) ≡ c → (k == BAND) ≡ d → (k == DICT) ≡ e → NoneOr (λ l. levels.is_dense l ≡ true) (chosen_level a b c d e) → not (k == LIST || k == RUNS || k == BAND || k == DICT) ≡ true
dense_back k true b c d e p q r s t h = subst (λ n. not (n == LIST || n == RUNS || n == BAND || n == DICT) ≡ true) (sym (eqb-true k DENSE p)) refl
dense_back k false true c d e p q r s t h = impossible h
dense_back k false false true d e p q r s t h = impossible h
dense_back k false false false true e p q r s t h = impossible h
dense_back k false false false false true p q r s t h = impossible h
dense_back k false false false false false p q r s t h = neither (k == LIST) (k == RUNS) (k == BAND) (k == DICT) q r s t

dict_back : (k : ℕ) (a b c d e : Bool) → (k == DENSE) ≡ a → (k == LIST) ≡ b → (k == RUNS) ≡ c → (k == BAND) ≡ d → (k == DICT) ≡ e → NoneOr (λ l. levels.is_dense_or_dict l ≡ true) (chosen_level a b c d e) → not (k == LIST || k == RUNS || k == BAND) ≡ true
dict_back k true b c d e p q r s t h = subst (λ n. not (n == LIST || n == RUNS || n == BAND) ≡ true) (sym (eqb-true k DENSE p)) refl
dict_back k false true c d e p q r s t h = impossible h
dict_back k false false true d e p q r s t h = impossible h
dict_back k false false false true e p q r s t h = impossible h
dict_back k false false false false e p q r s t h = neither false (k == LIST) (k == RUNS) (k == BAND) refl q r s

dense_word_back : (k : TokenKind) → NoneOr (λ l. levels.is_dense l ≡ true) (level_of k) → not (words.is_reserved LIST k || words.is_reserved RUNS k || words.is_reserved BAND k || words.is_reserved DICT k) ≡ true
dense_word_back kind.Name h = refl
dense_word_back (kind.Number n) h = refl
dense_word_back (kind.Reserved k) h = dense_back k (k == DENSE) (k == LIST) (k == RUNS) (k == BAND) (k == DICT) refl refl refl refl refl h
dense_word_back (kind.Symbol k) h = refl

dict_word_back : (k : TokenKind) → NoneOr (λ l. levels.is_dense_or_dict l ≡ true) (level_of k) → not (words.is_reserved LIST k || words.is_reserved RUNS k || words.is_reserved BAND k) ≡ true
dict_word_back kind.Name h = refl
dict_word_back (kind.Number n) h = refl
dict_word_back (kind.Reserved k) h = dict_back k (k == DENSE) (k == LIST) (k == RUNS) (k == BAND) (k == DICT) refl refl refl refl refl h
dict_word_back (kind.Symbol k) h = refl

apart : (p : Level → Bool) (o : Option Level) (ls : List Level) → list_all p (cons_option o ls) ≡ true → NoneOr (λ l. p l ≡ true) o × (list_all p ls ≡ true)
apart p None ls h = (tt, h)
apart p (Some l) ls h = both (p l) (list_all p ls) h

dense_words : (ts : List Token) → list_all levels.is_dense (levels_in ts) ≡ true → list_all words.is_dense ts ≡ true
dense_words [] h = refl
dense_words (t ∷ ts) h =
    let m = apart levels.is_dense (level_of t.kind) (levels_in ts) h in
    and_both (words.is_dense t) (list_all words.is_dense ts) (dense_word_back t.kind m.0) (dense_words ts m.1)

dict_words : (ts : List Token) → list_all levels.is_dense_or_dict (levels_in ts) ≡ true → list_all words.is_dense_or_dict ts ≡ true
dict_words [] h = refl
dict_words (t ∷ ts) h =
    let m = apart levels.is_dense_or_dict (level_of t.kind) (levels_in ts) h in
    and_both (words.is_dense_or_dict t) (list_all words.is_dense_or_dict ts) (dict_word_back t.kind m.0) (dict_words ts m.1)

-- ---- runs stand last

-- no word is runs
last_of_none : (ts : List Token) → list_all words.is_dense_or_dict ts ≡ true → words.stands_last RUNS ts ≡ true
last_of_none [] h = refl
last_of_none (t ∷ ts) h =
    let m = both (words.is_dense_or_dict t) (list_all words.is_dense_or_dict ts) h in
    and_both (not (words.is_word RUNS t) || words.begins_with ELEMENT ts) (words.stands_last RUNS ts) (or_left (not (words.is_word RUNS t)) (words.begins_with ELEMENT ts) (no_runs (words.is_word LIST t) (words.is_word RUNS t) (words.is_word BAND t) m.0)) (last_of_none ts m.1)
  where
    no_runs : (a b c : Bool) → not (a || b || c) ≡ true → not b ≡ true
    no_runs true b c h = impossible h
    no_runs false true c h = impossible h
    no_runs false false c h = refl

dense_are_either : (ts : List Token) → list_all words.is_dense ts ≡ true → list_all words.is_dense_or_dict ts ≡ true
dense_are_either [] h = refl
dense_are_either (t ∷ ts) h =
    let m = both (words.is_dense t) (list_all words.is_dense ts) h in
    and_both (words.is_dense_or_dict t) (list_all words.is_dense_or_dict ts) (either (words.is_word LIST t || words.is_word RUNS t || words.is_word BAND t) (words.is_word DICT t) m.0) (dense_are_either ts m.1)
  where
    either : (a b : Bool) → not (a || b) ≡ true → not a ≡ true
    either true b h = impossible h
    either false b h = refl

-- with no decoration, the words before `element` name levels
last_of_levels : (ts : List Token) → IsFormat ts → list_any words.is_decoration ts ≡ false → levels.RunsStandLast (levels_in ts) → words.stands_last RUNS ts ≡ true
last_of_levels ts (ends {t = t} is) plain runs = and_both (not (words.is_word RUNS t) || false) true (or_left (not (words.is_word RUNS t)) false (not_runs t.kind is)) refl
  where
    not_runs : (k : TokenKind) → class_of k ≡ class.Element → not (words.is_reserved RUNS k) ≡ true
    not_runs kind.Name h = refl
    not_runs (kind.Number n) h = refl
    not_runs (kind.Reserved k) h = subst (λ n. not (n == RUNS) ≡ true) (sym (eqb-true k ELEMENT (element_is (kind.Reserved k) h))) refl
    not_runs (kind.Symbol k) h = refl
last_of_levels ts (goes {t = t} {ts = us} is f) plain runs =
    let d = or_false (words.is_decoration t) (list_any words.is_decoration us) plain in
    let l = level_there t.kind is d.0 in
    let split : levels_in ts ≡ l.0 ∷ levels_in us = ap (λ (o : Option Level). cons_option o (levels_in us)) l.1 in
    let runs_here : levels.RunsStandLast (l.0 ∷ levels_in us) = subst levels.RunsStandLast split runs in
    and_both (not (words.is_word RUNS t) || words.begins_with ELEMENT us) (words.stands_last RUNS us)
    (by_word (words.is_word RUNS t) refl (λ r. ends_here us f d.1 (λ more. runs_here 0 (omega arith) (runs_level t.kind l.0 l.1 r))))
    (last_of_levels us f d.1 (λ i less. runs_here (suc i) (omega arith)))
  where
    by_word : (b : Bool) → words.is_word RUNS t ≡ b → (b ≡ true → words.begins_with ELEMENT us ≡ true) → not b || words.begins_with ELEMENT us ≡ true
    by_word true e h = h refl
    by_word false e h = refl

    runs_level : (k : TokenKind) (l : Level) → level_of k ≡ Some l → words.is_reserved RUNS k ≡ true → l ≡ Runs
    runs_level kind.Name l e r = impossible r
    runs_level (kind.Number n) l e r = impossible r
    runs_level (kind.Reserved k) l e r = let i : k ≡ RUNS = eqb-true k RUNS r in cc (sym e ∙ ap (λ n. level_of (kind.Reserved n)) i)
    runs_level (kind.Symbol k) l e r = impossible r

    -- where no level follows, `element` does
    ends_here : (vs : List Token) → IsFormat vs → list_any words.is_decoration vs ≡ false → (0 < length (levels_in vs) → ⊥) → words.begins_with ELEMENT vs ≡ true
    ends_here vs (ends {t = u} e) none empty = element_is u.kind e
    ends_here vs (goes {t = u} {ts = ws} e g) none empty =
        let n = level_there u.kind e (or_false (words.is_decoration u) (list_any words.is_decoration ws) none).0 in
        absurd (empty (subst (λ (o : Option Level). 0 < length (cons_option o (levels_in ws))) (sym n.1) (omega arith)))

-- ---- exactly

undecorated : (ts : List Token) → list_any words.is_atomic ts ≡ false → list_any words.is_mutex ts ≡ false → list_any words.is_shard ts ≡ false → list_any words.is_decoration ts ≡ false
undecorated [] a m s = refl
undecorated (t ∷ ts) a m s =
    let x = or_false (words.is_atomic t) (list_any words.is_atomic ts) a in
    let y = or_false (words.is_mutex t) (list_any words.is_mutex ts) m in
    let z = or_false (words.is_shard t) (list_any words.is_shard ts) s in
    no_four (words.is_atomic t) (words.is_mutex t) (words.is_shard t) (list_any words.is_decoration ts) x.0 y.0 z.0 (undecorated ts x.1 y.1 z.1)
  where
    no_four : (a b c d : Bool) → a ≡ false → b ≡ false → c ≡ false → d ≡ false → (a || b || c) || d ≡ false
    no_four true b c d p q r s = impossible (sym p)
    no_four false true c d p q r s = impossible (sym q)
    no_four false false true d p q r s = impossible (sym r)
    no_four false false false d p q r s = s

module _ (ts : List Token) (f : IsFormat ts) (runs : levels.RunsStandLast (levels_in ts)) where
  -- by the decoration
  from_fit : (a m s : Bool) → list_any words.is_atomic ts ≡ a → list_any words.is_mutex ts ≡ m → list_any words.is_shard ts ≡ s → levels.Fits (cond a Atomic (cond m (Mutex (levels_before ts)) (cond s Shard Bare))) (levels_in ts) → words.stands_last RUNS ts ≡ true
  from_fit true m s p q r fit = last_of_none ts (dense_are_either ts (dense_words ts fit))
  from_fit false true s p q r fit = last_of_none ts (dense_are_either ts (dense_words ts fit.1))
  from_fit false false true p q r fit = last_of_none ts (dict_words ts fit)
  from_fit false false false p q r fit = last_of_levels ts f (undecorated ts p q r) runs

  fitting_word : (a m s : Bool) → levels.Fits (cond a Atomic (cond m (Mutex (levels_before ts)) (cond s Shard Bare))) (levels_in ts) → not a || list_all words.is_dense ts ≡ true
  fitting_word true m s fit = dense_words ts fit
  fitting_word false m s fit = refl

  fitting_lock : (a m s : Bool) → levels.Fits (cond a Atomic (cond m (Mutex (levels_before ts)) (cond s Shard Bare))) (levels_in ts) → not m || list_all words.is_dense ts ≡ true
  fitting_lock a false s fit = refl
  fitting_lock true true s fit = dense_words ts fit
  fitting_lock false true s fit = dense_words ts fit.1

  fitting_part : (a m s b : Bool) → not s || b ≡ true → levels.Fits (cond a Atomic (cond m (Mutex (levels_before ts)) (cond s Shard Bare))) (levels_in ts) → not s || (b && list_all words.is_dense_or_dict ts) ≡ true
  fitting_part a m false b h fit = refl
  fitting_part true m true b h fit = and_both b (list_all words.is_dense_or_dict ts) h (dense_are_either ts (dense_words ts fit))
  fitting_part false true true b h fit = and_both b (list_all words.is_dense_or_dict ts) h (dense_are_either ts (dense_words ts fit.1))
  fitting_part false false true b h fit = and_both b (list_all words.is_dense_or_dict ts) h (dict_words ts fit)

  bare_words : (a m s : Bool) → list_any words.is_atomic ts ≡ a → list_any words.is_mutex ts ≡ m → list_any words.is_shard ts ≡ s → levels.IsBare (cond a Atomic (cond m (Mutex (levels_before ts)) (cond s Shard Bare))) → list_any words.is_decoration ts ≡ false
  bare_words true m s p q r bare = absurd bare
  bare_words false true s p q r bare = absurd bare
  bare_words false false true p q r bare = absurd bare
  bare_words false false false p q r bare = undecorated ts p q r

placed_back : (first ts : List Token) → IsFormat ts → IsTrue (are_decorations_placed ts) → levels.IsPlacedAs (is_input (kind_of first)) (levels_in ts) (wrap_of ts) → words.is_placed (words.begins_with IN first) ts ≡ true
placed_back first ts f decorations placed =
    let input = words.begins_with IN first in
    let a = list_any words.is_atomic ts in
    let m = list_any words.is_mutex ts in
    let s = list_any words.is_shard ts in
    let few = nat_le (levels_of ts) 8 in
    let one = nat_le (count_by words.is_decoration ts) 1 in
    let plain = not (input && list_any words.is_decoration ts) in
    let runs = words.stands_last RUNS ts in
    let atomic = words.stands_last ATOMIC ts in
    let by_word = not a || list_all words.is_dense ts in
    let by_lock = not m || list_all words.is_dense ts in
    let by_part = not s || (words.begins_with SHARD ts && list_all words.is_dense_or_dict ts) in
    let d1 = both (one && atomic) (not s || words.begins_with SHARD ts) decorations in
    let d0 = both one atomic d1.0 in
    let fit = placed.0.fits in
    let least : few ≡ true = le-leb (levels_of ts) 8 (let e : length (levels_in ts) ≡ levels_of ts = length-levels ts in let l = placed.0.few in omega arith) in
    let h1 = and_both few one least d0.0 in
    let h2 = and_both (few && one) plain h1 (uncrossed input (list_any words.is_decoration ts) (λ e. bare_words ts f placed.0.runs a m s refl refl refl (placed.1 (is_input-kind_of first ∙ e)))) in
    let h3 = and_both (few && one && plain) runs h2 (from_fit ts f placed.0.runs a m s refl refl refl fit) in
    let h4 = and_both (few && one && plain && runs) atomic h3 d0.1 in
    let h5 = and_both (few && one && plain && runs && atomic) by_word h4 (fitting_word ts f placed.0.runs a m s fit) in
    let h6 = and_both (few && one && plain && runs && atomic && by_word) by_lock h5 (fitting_lock ts f placed.0.runs a m s fit) in
    and_both (few && one && plain && runs && atomic && by_word && by_lock) by_part h6 (fitting_part ts f placed.0.runs a m s (words.begins_with SHARD ts) d1.1 fit)
  where
    uncrossed : (x y : Bool) → (x ≡ true → y ≡ false) → not (x && y) ≡ true
    uncrossed true y h = ap not (h refl)
    uncrossed false y h = refl

decorations_of_placed : (input : Bool) (ts : List Token) → words.is_placed input ts ≡ true → IsTrue (are_decorations_placed ts)
decorations_of_placed input ts h =
    let s = list_any words.is_shard ts in
    let one = nat_le (count_by words.is_decoration ts) 1 in
    let atomic = words.stands_last ATOMIC ts in
    let p : Passes input ts = passes input ts h in
    and_both (one && atomic) (not s || words.begins_with SHARD ts) (and_both one atomic p.one p.atomic) (first_half s (words.begins_with SHARD ts) (list_all words.is_dense_or_dict ts) p.by_part)
  where
    first_half : (x y z : Bool) → not x || (y && z) ≡ true → not x || y ≡ true
    first_half true y z h = (both y z h).0
    first_half false y z h = refl

-- the test is passed exactly where the decorations are well placed, and the levels and the decoration that the words name
pub placed_exactly : (first ts : List Token) → IsFormat ts → IsTrue (words.is_placed (words.begins_with IN first) ts) ↔ (IsTrue (are_decorations_placed ts) × levels.IsPlacedAs (is_input (kind_of first)) (levels_in ts) (wrap_of ts))
placed_exactly first ts f =
    let to : IsTrue (words.is_placed (words.begins_with IN first) ts) → IsTrue (are_decorations_placed ts) × levels.IsPlacedAs (is_input (kind_of first)) (levels_in ts) (wrap_of ts) =
    λ h. (decorations_of_placed (words.begins_with IN first) ts h, (placed_as first ts f h).1) in
    let back : IsTrue (are_decorations_placed ts) × levels.IsPlacedAs (is_input (kind_of first)) (levels_in ts) (wrap_of ts) → IsTrue (words.is_placed (words.begins_with IN first) ts) = λ h. placed_back first ts f h.0 h.1 in
    (to, back)
