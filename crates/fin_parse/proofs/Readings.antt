-- Each list of tokens is read as trees, or breaks the grammar or its limits.
use Rattle.std.proofs.Common.{◌≡◌, ◌⊎◌, inl, inr, ℕ, zero, suc, ◌+◌, ◌*◌, ◌<◌, ◌≤◌, length, length-append, Bool, true, false, List, [], ◌∷◌, ◌++◌, Option, Some, None, Err, refl, sym, subst, arith}
use Rattle.fin_base.specs.declared.refusal.Rule.{Rule}
use Rattle.fin_base.specs.declared.refusal.Rule.TheVariants.{S2, S3}
use Rattle.fin_lex.specs.declared.token.Token.{Token}
use Rattle.fin_parse.specs.declared.class.Class.{Class}
use Rattle.fin_parse.specs.declared.class.Class.TheVariants as class
use Rattle.fin_parse.specs.declared.grammar.Phrase.{Phrase}
use Rattle.fin_parse.specs.declared.grammar.Phrase.TheVariants.{Header, Stmt}
use Rattle.fin_parse.specs.declared.grammar.Form.{Form}
use Rattle.fin_parse.specs.declared.grammar.Symbol.{Symbol}
use Rattle.fin_parse.specs.declared.grammar.Symbol.TheVariants.{Word, One, Many, Maybe, Deeper, InLoop}
use Rattle.fin_parse.specs.declared.tree.Tree.{Tree}
use Rattle.fin_parse.specs.declared.tree.Tree.TheVariants.{Leaf, Node, Group}
use Rattle.fin_parse.specs.declared.tree.Room.{Room}
use Rattle.fin_parse.specs.declared.tree.Stop.{Stop}
use Rattle.fin_parse.specs.declared.tree.Stop.TheVariants.{Unexpected, Deep, Crowded}
use Rattle.fin_parse.specs.declared.trees.Text.{Text}
use Rattle.fin_parse.specs.Breaches.{limits, next_line, last_line, SyntaxBroken}
use Rattle.fin_parse.specs.Classes.{class_of}
use Rattle.fin_parse.specs.Grammar.{row_of, form_at}
use Rattle.fin_parse.specs.Choices.{begins, may_open, goes_on, same_class, continues, row_continues, is_sound, are_sound, rank, weight, row_weight}
use Rattle.fin_parse.specs.Syntax.{signs, look, lower, entered}
use Rattle.fin_parse.specs.Reading.{Kind, Ended, Along, Outcome, Trees, Rows, Groups}
use Rattle.fin_parse.specs.Text.{Headers, HeadersFrom, Gathered, IsWhole, TextRead, goes_on_headers}
use Rattle.fin_parse.proofs.Table.{both, chosen_for, lighter, same_is, same_self, small, stmt_apart}
use Rattle.fin_parse.proofs.Classes.{ended}
use Rattle.fin_parse.proofs.Examples.{ex_symbol}
use Rattle.fin_parse.proofs.Steps.{Through, through, through_fails}
use Rattle.fin_parse.proofs.Symbols.{word_read, word_stuck, phrase_by_form, phrase_stuck, deeper_through, loop_through, deeper_sunk, loop_sunk, deeper_stuck, loop_stuck, GroupFrom, group_start, group_goes, group_ends, group_more, group_fails, many_through, maybe_present, maybe_absent, phrase_takes, not_true, Tail, tail_of, RowFrom, row_start, row_ends, row_more, row_fails, whole_tail, word_not_end, solid_many, apart_many, stops_many}
use Rattle.fin_parse.proofs.TextForms.{headers_start, headers_more, headers_fail, headers_fail_text, stmts_fail_text, crowded_text, text_ended, text_goes_on}

-- ---- what is read of a kind of phrases

-- too deep, or unexpected
abbrev stop_of : Bool → Stop
stop_of true = Deep
stop_of false = Unexpected

abbrev Fails : {A : Type 0} (N : Kind A) (n : Room) (c : Class → Bool) (old : List Token) → Type 0
Fails N n c old = (new : List Token) × (deep : Bool) × Outcome N n c old new (Err (stop_of deep))

abbrev Reads : {A : Type 0} (N : Kind A) (n : Room) (c : Class → Bool) (old : List Token) → Type 0
Reads {A} N n c old = ((new : List Token) × (e : A) × Along N n c old new (Ended e)) ⊎ Fails N n c old

reads_through : {A B : Type 0} (N : Kind A) (g : Room → Room) (c : Class → Bool) (N' : Kind B) (n : Room) (c' : Class → Bool) (f : A → B) (old : List Token)
    → Through N g c N' n c' f (look (signs old)) → Reads N (g n) c old → Reads N' n c' old
reads_through N g c N' n c' f old q (inl a) = inl (a.0, f a.1, through N g c N' n c' f old a.0 q a.1 a.2)
reads_through N g c N' n c' f old q (inr a) = inr (a.0, a.1, through_fails N g c N' n c' f old a.0 q (stop_of a.1) a.2)

-- ---- symbols, where phrases that nest less are read

-- how deep phrases may still nest
abbrev depth : Room → ℕ → ℕ
depth k r = 16 * k.levels + r

abbrev Phrases : ℕ → Type 0
Phrases t = (k : Room) (n : Phrase) (old : List Token) → depth k (rank n) < t → Reads (Trees (One n)) k (goes_on n) old

abbrev IsSoundSymbol : Symbol → Type 0
IsSoundSymbol s = (d : Class) → is_sound s d ≡ true

module _ (t : ℕ) (phrases : Phrases t) (k : Room) where
  -- a repetition
  module _ (n : Phrase) (sound : IsSoundSymbol (Many n)) (less : depth k (rank n) < t) where
    group_next : (old mid : List Token) (all : List Tree) → Along (Groups n) k (continues (Many n)) old mid (GroupFrom n all) → begins n (look (signs mid)) ≡ true
        → ((new : List Token) (more : List Tree) → length new < length mid → Along (Groups n) k (continues (Many n)) old new (GroupFrom n more) → Reads (Groups n) k (continues (Many n)) old)
        → Reads (Groups n) k (continues (Many n)) old
    group_next old mid all a goes next =
        let o = group_goes n k (continues (Many n)) (stops_many n) (solid_many n sound) (apart_many n sound) old mid all a goes in
        elim (phrases k n mid less) [
          | inl r ↦ next r.0 (all ++ r.1 ∷ []) (phrase_takes k n mid r.0 r.1 (solid_many n sound) r.2)
              (group_more n k (continues (Many n)) (stops_many n) (solid_many n sound) (apart_many n sound) old mid r.0 all r.1 o r.2)
          | inr f ↦ inr (f.0, f.1, group_fails n k (continues (Many n)) (stops_many n) (solid_many n sound) (apart_many n sound) old mid f.0 all (stop_of f.1) o f.2)
        ]

    group_at : (old mid : List Token) (all : List Tree) → Along (Groups n) k (continues (Many n)) old mid (GroupFrom n all) → (b : Bool) → begins n (look (signs mid)) ≡ b
        → ((new : List Token) (more : List Tree) → length new < length mid → Along (Groups n) k (continues (Many n)) old new (GroupFrom n more) → Reads (Groups n) k (continues (Many n)) old)
        → Reads (Groups n) k (continues (Many n)) old
    group_at old mid all a true e next = group_next old mid all a e next
    group_at old mid all a false e next = inl (mid, all, group_ends n k (continues (Many n)) (stops_many n) (solid_many n sound) (apart_many n sound) old mid all a e)

    group_from : (m : ℕ) (old mid : List Token) (all : List Tree) → length mid < m → Along (Groups n) k (continues (Many n)) old mid (GroupFrom n all) → Reads (Groups n) k (continues (Many n)) old
    group_from zero old mid all h a = absurd (omega (arith, h))
    group_from (suc m) old mid all h a = group_at old mid all a (begins n (look (signs mid))) refl (λ new more l b. group_from m old new more (omega (arith, h, l)) b)

    many_reads : (old : List Token) → Reads (Groups n) k (continues (Many n)) old
    many_reads old = group_from (suc (length old)) old old [] (omega arith) (group_start n k (continues (Many n)) (stops_many n) (solid_many n sound) (apart_many n sound) old)

  maybe_reads : (n : Phrase) → IsSoundSymbol (Maybe n) → depth k (rank n) < t → (old : List Token) → (b : Bool) → begins n (look (signs old)) ≡ b → Reads (Trees (Maybe n)) k (continues (Maybe n)) old
  maybe_reads n sound less old true e =
      reads_through (Trees (One n)) (λ k. k) (goes_on n) (Trees (Maybe n)) k (continues (Maybe n)) (λ u. Group (u ∷ [])) old (maybe_present k n old e) (phrases k n old less)
  maybe_reads n sound less old false e = inl (old, Group [], maybe_absent k n old (not_true _ (sound class.End)) e)

  word_missing : (c : Class) → IsSoundSymbol (Word c) → (old : List Token) → (look (signs old) ≡ c → ⊥) → Reads (Trees (Word c)) k (continues (Word c)) old
  word_missing c sound old other = let x = ex_symbol k (Word c) class.End (sound class.End) in inr (old, false, word_stuck k c old x.0 x.1 x.2 other)

  word_at : (c : Class) → IsSoundSymbol (Word c) → (token : Token) (new : List Token) → (b : Bool) → same_class c (class_of token.kind) ≡ b
      → Reads (Trees (Word c)) k (continues (Word c)) (token ∷ new)
  word_at c sound token new true e = inl (new, Leaf token, word_read k c token new (sym (same_is c (class_of token.kind) e)))
  word_at c sound token new false e = word_missing c sound (token ∷ new) (λ is. absurd (let s = same_self c in let t : same_class c c ≡ false = subst (λ d. same_class c d ≡ false) is e in cc))

  word_reads : (c : Class) → IsSoundSymbol (Word c) → (old : List Token) → Reads (Trees (Word c)) k (continues (Word c)) old
  word_reads c sound [] = word_missing c sound [] (λ is. word_not_end c (sound class.End) (sym is))
  word_reads c sound (token ∷ new) = word_at c sound token new (same_class c (class_of token.kind)) refl

  -- what a level or a loop holds
  deeper_closed : (n : Phrase) (old : List Token) → k.levels ≡ 0 → (b : Bool) → may_open n (look (signs old)) ≡ b → Reads (Trees (Deeper n)) k (continues (Deeper n)) old
  deeper_closed n old e true m = inr (old, true, deeper_sunk k n old e m)
  deeper_closed n old e false m = inr (old, false, deeper_stuck k n old m)

  deeper_reads : (n : Phrase) → 16 * k.levels ≤ t → (old : List Token) → (l : ℕ) → k.levels ≡ l → Reads (Trees (Deeper n)) k (continues (Deeper n)) old
  deeper_reads n fits old zero e = deeper_closed n old e (may_open n (look (signs old))) refl
  deeper_reads n fits old (suc l) e =
      let open_still : 0 < k.levels = omega (arith, e) in
      let less : depth (lower k) (rank n) < t = omega (arith, fits, e, small n) in
      reads_through (Trees (One n)) lower (goes_on n) (Trees (Deeper n)) k (goes_on n) (λ u. u) old (deeper_through k n (look (signs old)) open_still) (phrases (lower k) n old less)

  loop_closed : (n : Phrase) (old : List Token) → k.loops ≡ 0 → (b : Bool) → may_open n (look (signs old)) ≡ b → Reads (Trees (InLoop n)) k (continues (InLoop n)) old
  loop_closed n old e true m = inr (old, true, loop_sunk k n old e m)
  loop_closed n old e false m = inr (old, false, loop_stuck k n old m)

  loop_reads : (n : Phrase) → depth k (rank n) < t → (old : List Token) → (l : ℕ) → k.loops ≡ l → Reads (Trees (InLoop n)) k (continues (InLoop n)) old
  loop_reads n less old zero e = loop_closed n old e (may_open n (look (signs old))) refl
  loop_reads n less old (suc l) e =
      let open_still : 0 < k.loops = omega (arith, e) in
      reads_through (Trees (One n)) entered (goes_on n) (Trees (InLoop n)) k (goes_on n) (λ u. u) old (loop_through k n (look (signs old)) open_still) (phrases (entered k) n old less)

  symbol_reads : (s : Symbol) → IsSoundSymbol s → depth k (weight s) ≤ t → (old : List Token) → Reads (Trees s) k (continues s) old
  symbol_reads (Word c) sound fits old = word_reads c sound old
  symbol_reads (One n) sound fits old = phrases k n old (omega (arith, fits))
  symbol_reads (Many n) sound fits old =
      reads_through (Groups n) (λ k. k) (continues (Many n)) (Trees (Many n)) k (continues (Many n)) Group old (many_through k n (look (signs old))) (many_reads n sound (omega (arith, fits)) old)
  symbol_reads (Maybe n) sound fits old = maybe_reads n sound (omega (arith, fits)) old (begins n (look (signs old))) refl
  symbol_reads (Deeper n) sound fits old = deeper_reads n (omega (arith, fits)) old k.levels refl
  symbol_reads (InLoop n) sound fits old = loop_reads n (omega (arith, fits)) old k.loops refl

  -- the symbols of a form
  row_from : (whole : List Symbol) (c : Class → Bool) (row : List Symbol) (old mid : List Token) (all : List Tree) → depth k (row_weight row) ≤ t → Tail c row
      → Along (Rows whole) k c old mid (RowFrom all row) → Reads (Rows whole) k c old
  row_from whole c [] old mid all fits tail a = inl (mid, all, row_ends whole k c old mid all a)
  row_from whole c (s ∷ row) old mid all fits tail a = elim (symbol_reads s (λ d. (both (is_sound s d) (are_sound row d) (tail.sound d)).0) (omega (arith, fits)) mid) [
    | inl r ↦ row_from whole c row old r.0 (all ++ r.1 ∷ []) (omega (arith, fits)) (tail_of c s row tail) (row_more whole k c old mid r.0 all s row r.1 tail a r.2)
    | inr f ↦ inr (f.0, f.1, row_fails whole k c old mid f.0 all s row (stop_of f.1) tail a f.2)
  ]

  row_reads : (f : Form) → depth k (row_weight (row_of f)) ≤ t → (old : List Token) → Reads (Rows (row_of f)) k (row_continues (row_of f)) old
  row_reads f fits old = row_from (row_of f) (row_continues (row_of f)) (row_of f) old old [] fits (whole_tail f) (row_start (row_of f) k (row_continues (row_of f)) old)

-- ---- phrases

phrase_at : (t : ℕ) → Phrases t → (k : Room) (n : Phrase) (old : List Token) → depth k (rank n) < suc t → (o : Option Form) → form_at n (look (signs old)) ≡ o → Reads (Trees (One n)) k (goes_on n) old
phrase_at t phrases k n old less None e = inr (old, false, phrase_stuck k n old e)
phrase_at t phrases k n old less (Some f) e =
    let light : row_weight (row_of f) ≤ rank n = subst (λ m. row_weight (row_of f) ≤ rank m) (chosen_for n (look (signs old)) f e) (lighter f) in
    let row = row_reads t phrases k f (omega (arith, less, light)) old in
    reads_through (Rows (row_of f)) (λ k. k) (row_continues (row_of f)) (Trees (One n)) k (goes_on n) (Node f) old (phrase_by_form k n f old e) row

phrases_read : (t : ℕ) → Phrases t
phrases_read zero k n old less = absurd (omega (arith, less))
phrases_read (suc t) k n old less = phrase_at t (phrases_read t) k n old less (form_at n (look (signs old))) refl

phrase_reads : (k : Room) (n : Phrase) (old : List Token) → Reads (Trees (One n)) k (goes_on n) old
phrase_reads k n old = phrases_read (suc (depth k (rank n))) k n old (omega arith)

stmts_read : (k : Room) (old : List Token) → Reads (Groups Stmt) k (continues (Many Stmt)) old
stmts_read k old = many_reads (suc (depth k (rank Stmt))) (λ j n ts less. phrase_reads j n ts) k Stmt stmt_apart (omega arith) old

-- ---- headers

abbrev HeadersGathered : Room → List Token → Type 0
HeadersGathered k old = ((new : List Token) × (us : List Tree) × Gathered k old new us) ⊎ Fails {A = List Tree} Headers k goes_on_headers old

header_at : (k : Room) (old mid : List Token) (all : List Tree) → length all < k.headers → Along Headers k goes_on_headers old mid (HeadersFrom all) → (b : Bool) → begins Header (look (signs mid)) ≡ b
    → ((new : List Token) (u : Tree) → Along Headers k goes_on_headers old new (HeadersFrom (all ++ u ∷ [])) → HeadersGathered k old) → HeadersGathered k old
header_at k old mid all fewer a false e next = inl (mid, all, record { along = a; few = omega (arith, fewer); stopped = inr e })
header_at k old mid all fewer a true e next = elim (phrase_reads k Header mid) [
  | inl r ↦ next r.0 r.1 (headers_more k old mid r.0 all r.1 a e r.2)
  | inr f ↦ inr (f.0, f.1, headers_fail k old mid f.0 all (stop_of f.1) fewer a e f.2)
]

headers_from : (k : Room) (room : ℕ) (old mid : List Token) (all : List Tree) → length all + room ≡ k.headers → Along Headers k goes_on_headers old mid (HeadersFrom all) → HeadersGathered k old
headers_from k zero old mid all fits a = inl (mid, all, record { along = a; few = omega (arith, fits); stopped = inl (omega (arith, fits)) })
headers_from k (suc room) old mid all fits a =
    header_at k old mid all (omega (arith, fits)) a (begins Header (look (signs mid))) refl
    (λ new u b. headers_from k room old new (all ++ u ∷ []) (omega (arith, fits, length-append all (u ∷ []))) b)

headers_read : (k : Room) (old : List Token) → HeadersGathered k old
headers_read k old = headers_from k k.headers old old [] (omega arith) (headers_start k old)

-- ---- a whole text

abbrev pub ReadOrBroken : List Token → ℕ → Type 0
ReadOrBroken tokens last = ((text : Text) × IsWhole limits tokens text) ⊎ ((rule : Rule) × (line : ℕ) × SyntaxBroken tokens last rule line)

unexpected : (tokens : List Token) (last : ℕ) (new : List Token) → TextRead limits tokens new (Err Unexpected) → ReadOrBroken tokens last
unexpected tokens last new h = inr (S2, next_line new last, (h.0, new, h.1, refl, h.2))

stopped : (tokens : List Token) (last : ℕ) (new : List Token) (deep : Bool) → TextRead limits tokens new (Err (stop_of deep)) → ReadOrBroken tokens last
stopped tokens last new false h = unexpected tokens last new h
stopped tokens last new true h = inr (S3, last_line h.0, inl (h.0, new, h.1, refl, h.2))

crowded : (tokens : List Token) (last : ℕ) (new : List Token) → TextRead limits tokens new (Err Crowded) → ReadOrBroken tokens last
crowded tokens last new h = inr (S3, next_line new last, inr (h.0, new, h.1, refl, h.2))

behind_stmts : (tokens : List Token) (last : ℕ) (mid new : List Token) (hs body : List Tree) → Gathered limits tokens mid hs → begins Header (look (signs mid)) ≡ false
    → Along (Groups Stmt) limits (continues (Many Stmt)) mid new (Ended body) → ReadOrBroken tokens last
behind_stmts tokens last mid [] hs body g e a = inl (record { headers = hs; body = body }, text_ended limits tokens mid [] hs body g e a refl)
behind_stmts tokens last mid (t ∷ new) hs body g e a = unexpected tokens last (t ∷ new) (text_goes_on limits tokens mid (t ∷ new) hs body g e a (λ is. let none = ended (t ∷ new) is in cc))

behind_headers : (tokens : List Token) (last : ℕ) (mid : List Token) (hs : List Tree) → Gathered limits tokens mid hs → (b : Bool) → begins Header (look (signs mid)) ≡ b → ReadOrBroken tokens last
behind_headers tokens last mid hs g true e = crowded tokens last mid (crowded_text limits tokens mid hs g e)
behind_headers tokens last mid hs g false e = elim (stmts_read limits mid) [
  | inl r ↦ behind_stmts tokens last mid r.0 hs r.1 g e r.2
  | inr f ↦ stopped tokens last f.0 f.1 (stmts_fail_text limits tokens mid f.0 hs (stop_of f.1) g e f.2)
]

pub read_or_broken : (tokens : List Token) (last : ℕ) → ReadOrBroken tokens last
read_or_broken tokens last = elim (headers_read limits tokens) [
  | inl r ↦ behind_headers tokens last r.0 r.1 r.2 (begins Header (look (signs r.0))) refl
  | inr f ↦ stopped tokens last f.0 f.1 (headers_fail_text limits tokens f.0 (stop_of f.1) f.2)
]
