-- The placement of words is that of the levels and the decoration that they name.
use Rattle.std.proofs.Common.{◌≡◌, ◌≢◌, ℕ, zero, suc, ◌+◌, ◌<◌, ◌≤◌, Bool, true, false, cond, not, ◌&&◌, ◌||◌, ◌==◌, nat_le, List, [], ◌∷◌, take, length, Option, Some, None, slice_index_or, refl, sym, ap, ◌∙◌, subst, arith, eqb-true}
use Rattle.std.specs.List.{cons_option, count_by, list_all, list_any, prefix_len}
use Rattle.std.proofs.lemmas.Bool.{leb-true, eqb-false}
use Rattle.std.proofs.lemmas.List.Sums.{sum_by-cons}
use Rattle.fin_lex.specs.declared.token.Token.{Token}
use Rattle.fin_lex.specs.declared.token.TokenKind.{TokenKind}
use Rattle.fin_lex.specs.declared.token.TokenKind.TheVariants as kind
use Rattle.fin_tensor.specs.declared.format.Level.{Level}
use Rattle.fin_tensor.specs.declared.format.Level.TheVariants.{Dense, List as SortedList, Runs, Band, Dict}
use Rattle.fin_tensor.specs.declared.format.Wrap.TheVariants.{Bare, Atomic, Mutex, Shard}
use Rattle.fin_tensor.specs.Placement as levels
use Rattle.fin_ast.specs.declared.header.Kind.TheVariants.{Input, Output, Local}
use Rattle.fin_ast.specs.Kinds.{is_input}
use Rattle.fin_parse.specs.declared.class.Class.TheVariants as class
use Rattle.fin_parse.specs.declared.class.TheConstants.{RESERVED_CLASSES}
use Rattle.fin_parse.specs.declared.reserved.TheConstants.{IN, OUT, DENSE, LIST, RUNS, BAND, DICT, ELEMENT, ATOMIC, SHARD}
use Rattle.fin_parse.specs.Classes.{class_of}
use Rattle.fin_parse.specs.HeaderNames.{is_level, levels_of}
use Rattle.fin_parse.specs.FormatWords as words
use Rattle.fin_parse.specs.HeaderTrees.{kind_of, level_of, levels_in, levels_before, is_no_mutex, wrap_of}
use Rattle.fin_parse.proofs.Table.{impossible, both, implied}
use Rattle.fin_parse.proofs.Leads.{and_both, or_false}
use Rattle.fin_parse.proofs.HeaderRows.{IsFormat, ends, goes}

-- ---- one word

-- the level that five tests choose
abbrev pub chosen_level : Bool → Bool → Bool → Bool → Bool → Option Level
chosen_level a b c d e = cond a (Some Dense) (cond b (Some SortedList) (cond c (Some Runs) (cond d (Some Band) (cond e (Some Dict) None))))

abbrev pub NoneOr : (Level → Type 0) → Option Level → Type 0
NoneOr P None = Unit {0}
NoneOr P (Some l) = P l

dense_chosen : (a b c d e : Bool) → not (b || c || d || e) ≡ true → NoneOr (λ l. levels.is_dense l ≡ true) (chosen_level a b c d e)
dense_chosen true b c d e h = refl
dense_chosen false true c d e h = impossible h
dense_chosen false false true d e h = impossible h
dense_chosen false false false true e h = impossible h
dense_chosen false false false false true h = impossible h
dense_chosen false false false false false h = tt

dict_chosen : (a b c d e : Bool) → not (b || c || d) ≡ true → NoneOr (λ l. levels.is_dense_or_dict l ≡ true) (chosen_level a b c d e)
dict_chosen true b c d e h = refl
dict_chosen false true c d e h = impossible h
dict_chosen false false true d e h = impossible h
dict_chosen false false false true e h = impossible h
dict_chosen false false false false true h = refl
dict_chosen false false false false false h = tt

runs_chosen : (a b c d e : Bool) → NoneOr (λ l. l ≡ Runs → c ≡ true) (chosen_level a b c d e)
runs_chosen true b c d e = λ h. cc
runs_chosen false true c d e = λ h. cc
runs_chosen false false true d e = λ h. refl
runs_chosen false false false true e = λ h. cc
runs_chosen false false false false true = λ h. cc
runs_chosen false false false false false = tt

dense_word : (k : TokenKind) → not (words.is_reserved LIST k || words.is_reserved RUNS k || words.is_reserved BAND k || words.is_reserved DICT k) ≡ true → NoneOr (λ l. levels.is_dense l ≡ true) (level_of k)
dense_word kind.Name h = tt
dense_word (kind.Number n) h = tt
dense_word (kind.Reserved k) h = dense_chosen (k == DENSE) (k == LIST) (k == RUNS) (k == BAND) (k == DICT) h
dense_word (kind.Symbol k) h = tt

dict_word : (k : TokenKind) → not (words.is_reserved LIST k || words.is_reserved RUNS k || words.is_reserved BAND k) ≡ true → NoneOr (λ l. levels.is_dense_or_dict l ≡ true) (level_of k)
dict_word kind.Name h = tt
dict_word (kind.Number n) h = tt
dict_word (kind.Reserved k) h = dict_chosen (k == DENSE) (k == LIST) (k == RUNS) (k == BAND) (k == DICT) h
dict_word (kind.Symbol k) h = tt

runs_word : (k : TokenKind) → NoneOr (λ l. l ≡ Runs → words.is_reserved RUNS k ≡ true) (level_of k)
runs_word kind.Name = tt
runs_word (kind.Number n) = tt
runs_word (kind.Reserved k) = runs_chosen (k == DENSE) (k == LIST) (k == RUNS) (k == BAND) (k == DICT)
runs_word (kind.Symbol k) = tt

-- how many levels a word names
abbrev pub one_if : Bool → ℕ
one_if b = cond b 1 0

abbrev pub found : Option Level → ℕ
found None = 0
found (Some l) = 1

place_counts : (k : ℕ) (a b c d e : Bool) → (k == DENSE) ≡ a → (k == LIST) ≡ b → (k == RUNS) ≡ c → (k == BAND) ≡ d → (k == DICT) ≡ e → found (chosen_level a b c d e) ≡ one_if (nat_le DENSE k && nat_le k DICT)
place_counts k true b c d e p q r s t = let i : k ≡ DENSE = eqb-true k DENSE p in ap (λ n. one_if (nat_le DENSE n && nat_le n DICT)) (sym i)
place_counts k false true c d e p q r s t = let i : k ≡ LIST = eqb-true k LIST q in ap (λ n. one_if (nat_le DENSE n && nat_le n DICT)) (sym i)
place_counts k false false true d e p q r s t = let i : k ≡ RUNS = eqb-true k RUNS r in ap (λ n. one_if (nat_le DENSE n && nat_le n DICT)) (sym i)
place_counts k false false false true e p q r s t = let i : k ≡ BAND = eqb-true k BAND s in ap (λ n. one_if (nat_le DENSE n && nat_le n DICT)) (sym i)
place_counts k false false false false true p q r s t = let i : k ≡ DICT = eqb-true k DICT t in ap (λ n. one_if (nat_le DENSE n && nat_le n DICT)) (sym i)
place_counts k false false false false false p q r s t = ap one_if (sym (none (nat_le DENSE k) (nat_le k DICT) refl refl))
  where
    none : (u v : Bool) → nat_le DENSE k ≡ u → nat_le k DICT ≡ v → u && v ≡ false
    none true true g h = absurd (
        let x : DENSE ≤ k = leb-true DENSE k g in
        let y : k ≤ DICT = leb-true k DICT h in
        let a : k ≢ DENSE = eqb-false k DENSE p in
        let b : k ≢ LIST = eqb-false k LIST q in
        let c : k ≢ RUNS = eqb-false k RUNS r in
        let d : k ≢ BAND = eqb-false k BAND s in
        let e : k ≢ DICT = eqb-false k DICT t in
        omega arith)
    none true false g h = refl
    none false v g h = refl

pub word_counts : (k : TokenKind) → found (level_of k) ≡ one_if (is_level k)
word_counts kind.Name = refl
word_counts (kind.Number n) = refl
word_counts (kind.Reserved k) = place_counts k (k == DENSE) (k == LIST) (k == RUNS) (k == BAND) (k == DICT) refl refl refl refl refl
word_counts (kind.Symbol k) = refl

-- ---- the levels of words

length_behind : (o : Option Level) (ls : List Level) → length (cons_option o ls) ≡ found o + length ls
length_behind None ls = omega arith
length_behind (Some l) ls = omega arith

counted_behind : (p : Token → Bool) (t : Token) (ts : List Token) → count_by p (t ∷ ts) ≡ one_if (p t) + count_by p ts
counted_behind p t ts = sum_by-cons (λ u. cond (p u) 1 0) t ts

pub length-levels : (ts : List Token) → length (levels_in ts) ≡ levels_of ts
length-levels [] = refl
length-levels (t ∷ ts) =
    length_behind (level_of t.kind) (levels_in ts)
    ∙ ap (λ n. n + length (levels_in ts)) (word_counts t.kind)
    ∙ ap (λ n. one_if (is_level t.kind) + n) (length-levels ts)
    ∙ sym (counted_behind (λ (u : Token). is_level u.kind) t ts)

-- ---- the levels fit the words

all_behind : (p : Level → Bool) (o : Option Level) (ls : List Level) → NoneOr (λ l. p l ≡ true) o → list_all p ls ≡ true → list_all p (cons_option o ls) ≡ true
all_behind p None ls h k = k
all_behind p (Some l) ls h k = and_both (p l) (list_all p ls) h k

all_dense : (ts : List Token) → list_all words.is_dense ts ≡ true → list_all levels.is_dense (levels_in ts) ≡ true
all_dense [] h = refl
all_dense (t ∷ ts) h =
    let m = both (words.is_dense t) (list_all words.is_dense ts) h in
    all_behind levels.is_dense (level_of t.kind) (levels_in ts) (dense_word t.kind m.0) (all_dense ts m.1)

all_dense_or_dict : (ts : List Token) → list_all words.is_dense_or_dict ts ≡ true → list_all levels.is_dense_or_dict (levels_in ts) ≡ true
all_dense_or_dict [] h = refl
all_dense_or_dict (t ∷ ts) h =
    let m = both (words.is_dense_or_dict t) (list_all words.is_dense_or_dict ts) h in
    all_behind levels.is_dense_or_dict (level_of t.kind) (levels_in ts) (dict_word t.kind m.0) (all_dense_or_dict ts m.1)

-- ---- runs stand last

-- `element` is no level
element_place : (k : ℕ) (a b c d e : Bool) → (k == DENSE) ≡ a → (k == LIST) ≡ b → (k == RUNS) ≡ c → (k == BAND) ≡ d → (k == DICT) ≡ e → slice_index_or RESERVED_CLASSES k class.Unknown ≡ class.Element → chosen_level a b c d e ≡ None
element_place k true b c d e p q r s t h = let i : k ≡ DENSE = eqb-true k DENSE p in absurd (cc (sym h ∙ ap (λ n. slice_index_or RESERVED_CLASSES n class.Unknown) i))
element_place k false true c d e p q r s t h = let i : k ≡ LIST = eqb-true k LIST q in absurd (cc (sym h ∙ ap (λ n. slice_index_or RESERVED_CLASSES n class.Unknown) i))
element_place k false false true d e p q r s t h = let i : k ≡ RUNS = eqb-true k RUNS r in absurd (cc (sym h ∙ ap (λ n. slice_index_or RESERVED_CLASSES n class.Unknown) i))
element_place k false false false true e p q r s t h = let i : k ≡ BAND = eqb-true k BAND s in absurd (cc (sym h ∙ ap (λ n. slice_index_or RESERVED_CLASSES n class.Unknown) i))
element_place k false false false false true p q r s t h = let i : k ≡ DICT = eqb-true k DICT t in absurd (cc (sym h ∙ ap (λ n. slice_index_or RESERVED_CLASSES n class.Unknown) i))
element_place k false false false false false p q r s t h = refl

element_level : (k : TokenKind) → class_of k ≡ class.Element → level_of k ≡ None
element_level kind.Name h = refl
element_level (kind.Number n) h = refl
element_level (kind.Reserved k) h = element_place k (k == DENSE) (k == LIST) (k == RUNS) (k == BAND) (k == DICT) refl refl refl refl refl h
element_level (kind.Symbol k) h = refl

-- what is a level or a decoration is not `element`
store_word : (k : TokenKind) → class_of k ≡ class.Store → words.is_reserved ELEMENT k ≡ true → ⊥
store_word kind.Name h e = impossible e
store_word (kind.Number n) h e = impossible e
store_word (kind.Reserved k) h e = let i : k ≡ ELEMENT = eqb-true k ELEMENT e in cc (sym h ∙ ap (λ n. slice_index_or RESERVED_CLASSES n class.Unknown) i)
store_word (kind.Symbol k) h e = impossible e

ended_by : (ts : List Token) → IsFormat ts → words.begins_with ELEMENT ts ≡ true → levels_in ts ≡ []
ended_by ts (ends {t = t} is) h = ap (λ (o : Option Level). cons_option o []) (element_level t.kind is)
ended_by ts (goes {t = t} is f) h = absurd (store_word t.kind is h)

abbrev RunsLast : List Level → Type 0
RunsLast = levels.RunsStandLast

runs_behind : (o : Option Level) (ls : List Level) → NoneOr (λ l. l ≡ Runs → ls ≡ []) o → RunsLast ls → RunsLast (cons_option o ls)
runs_behind None ls h k = k
runs_behind (Some l) ls h k = by_place
  where
    by_place : (i : ℕ) → i + 1 < length (l ∷ ls) → slice_index_or (l ∷ ls) i Dense ≢ Runs
    by_place zero less is = let e : ls ≡ [] = h is in absurd (omega (arith, ap length e))
    by_place (suc i) less is = k i (omega arith) is

-- the runs of a word
last_runs : (o : Option Level) (ls : List Level) (b : Bool) → NoneOr (λ l. l ≡ Runs → b ≡ true) o → (b ≡ true → ls ≡ []) → NoneOr (λ l. l ≡ Runs → ls ≡ []) o
last_runs None ls b h k = tt
last_runs (Some l) ls b h k = λ e. k (h e)

runs_last : (ts : List Token) → IsFormat ts → words.stands_last RUNS ts ≡ true → RunsLast (levels_in ts)
runs_last ts (ends {t = t} is) h = subst RunsLast (sym (ap (λ (o : Option Level). cons_option o []) (element_level t.kind is))) (λ i less. absurd (omega arith))
runs_last ts (goes {t = t} {ts = us} is f) h =
    let m = both (not (words.is_word RUNS t) || words.begins_with ELEMENT us) (words.stands_last RUNS us) h in
    runs_behind (level_of t.kind) (levels_in us) (last_runs (level_of t.kind) (levels_in us) (words.is_word RUNS t) (runs_word t.kind) (λ e. ended_by us f (implied (words.is_word RUNS t) (words.begins_with ELEMENT us) m.0 e))) (runs_last us f m.1)

-- ---- decorations

count_front : (p : Token → Bool) (n : ℕ) (ts : List Token) → count_by p (take n ts) ≤ count_by p ts
count_front p zero ts = omega arith
count_front p (suc n) [] = omega arith
count_front p (suc n) (t ∷ ts) = omega (arith, count_front p n ts, counted_behind p t ts, counted_behind p t (take n ts))

pub before_fits : (ts : List Token) → levels_before ts ≤ levels_of ts
before_fits ts = count_front (λ (t : Token). is_level t.kind) (prefix_len is_no_mutex ts) ts

module _ (ts : List Token) where
  fits : (a m s : Bool) → (a ≡ true → list_all words.is_dense ts ≡ true) → (m ≡ true → list_all words.is_dense ts ≡ true) → (s ≡ true → list_all words.is_dense_or_dict ts ≡ true)
      → levels.Fits (cond a Atomic (cond m (Mutex (levels_before ts)) (cond s Shard Bare))) (levels_in ts)
  fits true m s h k l = all_dense ts (h refl)
  fits false true s h k l = (rw (length-levels ts) (before_fits ts), all_dense ts (k refl))
  fits false false true h k l = all_dense_or_dict ts (l refl)
  fits false false false h k l = tt

  bare : (a m s : Bool) → a ≡ false → m ≡ false → s ≡ false → levels.IsBare (cond a Atomic (cond m (Mutex (levels_before ts)) (cond s Shard Bare)))
  bare true m s h k l = impossible (sym h)
  bare false true s h k l = impossible (sym k)
  bare false false true h k l = impossible (sym l)
  bare false false false h k l = tt

no_decoration : (ts : List Token) → list_any words.is_decoration ts ≡ false → (list_any words.is_atomic ts ≡ false) × (list_any words.is_mutex ts ≡ false) × (list_any words.is_shard ts ≡ false)
no_decoration [] h = (refl, refl, refl)
no_decoration (t ∷ ts) h =
    let d = or_false (words.is_decoration t) (list_any words.is_decoration ts) h in
    let s = or_false (words.is_atomic t || words.is_mutex t) (words.is_shard t) d.0 in
    let m = or_false (words.is_atomic t) (words.is_mutex t) s.0 in
    let rest = no_decoration ts d.1 in
    (neither m.0 rest.0, neither m.1 rest.1, neither s.1 rest.2)
  where
    neither : {a b : Bool} → a ≡ false → b ≡ false → a || b ≡ false
    neither {a = a} {b = b} h k = ap (λ x. x || b) h ∙ k

-- ---- the placement

pub input_by_word : (a b : Bool) → is_input (cond a Input (cond b Output Local)) ≡ a
input_by_word true b = refl
input_by_word false true = refl
input_by_word false false = refl

-- an input is what begins with its word
pub is_input-kind_of : (ts : List Token) → is_input (kind_of ts) ≡ words.begins_with IN ts
is_input-kind_of ts = input_by_word (words.begins_with IN ts) (words.begins_with OUT ts)

-- the conditions of the test
pub record Passes (input : Bool) (ts : List Token) : Type 0 where
  pub few : nat_le (levels_of ts) 8 ≡ true
  pub one : nat_le (count_by words.is_decoration ts) 1 ≡ true
  pub plain : not (input && list_any words.is_decoration ts) ≡ true
  pub runs : words.stands_last RUNS ts ≡ true
  pub atomic : words.stands_last ATOMIC ts ≡ true
  pub by_word : not (list_any words.is_atomic ts) || list_all words.is_dense ts ≡ true
  pub by_lock : not (list_any words.is_mutex ts) || list_all words.is_dense ts ≡ true
  pub by_part : not (list_any words.is_shard ts) || (words.begins_with SHARD ts && list_all words.is_dense_or_dict ts) ≡ true

pub passes : (input : Bool) (ts : List Token) → words.is_placed input ts ≡ true → Passes input ts
passes input ts h =
    let few = nat_le (levels_of ts) 8 in
    let one = nat_le (count_by words.is_decoration ts) 1 in
    let plain = not (input && list_any words.is_decoration ts) in
    let runs = words.stands_last RUNS ts in
    let atomic = words.stands_last ATOMIC ts in
    let by_word = not (list_any words.is_atomic ts) || list_all words.is_dense ts in
    let by_lock = not (list_any words.is_mutex ts) || list_all words.is_dense ts in
    let by_part = not (list_any words.is_shard ts) || (words.begins_with SHARD ts && list_all words.is_dense_or_dict ts) in
    let h7 = both (few && one && plain && runs && atomic && by_word && by_lock) by_part h in
    let h6 = both (few && one && plain && runs && atomic && by_word) by_lock h7.0 in
    let h5 = both (few && one && plain && runs && atomic) by_word h6.0 in
    let h4 = both (few && one && plain && runs) atomic h5.0 in
    let h3 = both (few && one && plain) runs h4.0 in
    let h2 = both (few && one) plain h3.0 in
    let h1 = both few one h2.0 in
    record { few = h1.0; one = h1.1; plain = h2.1; runs = h3.1; atomic = h4.1; by_word = h5.1; by_lock = h6.1; by_part = h7.1 }

pub placed_as : (first ts : List Token) → IsFormat ts → words.is_placed (words.begins_with IN first) ts ≡ true → (levels_of ts ≤ 8) × levels.IsPlacedAs (is_input (kind_of first)) (levels_in ts) (wrap_of ts)
placed_as first ts f h =
    let input = words.begins_with IN first in
    let a = list_any words.is_atomic ts in
    let m = list_any words.is_mutex ts in
    let s = list_any words.is_shard ts in
    let p : Passes input ts = passes input ts h in
    let most : levels_of ts ≤ 8 = leb-true (levels_of ts) 8 p.few in
    let of_parts = λ (e : s ≡ true). (both (words.begins_with SHARD ts) (list_all words.is_dense_or_dict ts) (implied s (words.begins_with SHARD ts && list_all words.is_dense_or_dict ts) p.by_part e)).1 in (
      most,
      (
        record {
          few = rw (length-levels ts) most;
          runs = runs_last ts f p.runs;
          fits = fits ts a m s (implied a (list_all words.is_dense ts) p.by_word) (implied m (list_all words.is_dense ts) p.by_lock) of_parts;
        },
        λ is.
            let none = no_decoration ts (undecorated input (list_any words.is_decoration ts) p.plain (sym (is_input-kind_of first) ∙ is)) in
            bare ts a m s none.0 none.1 none.2,
      ),
    )
  where
    undecorated : (a b : Bool) → not (a && b) ≡ true → a ≡ true → b ≡ false
    undecorated true true h k = impossible h
    undecorated true false h k = refl
    undecorated false b h k = impossible k
