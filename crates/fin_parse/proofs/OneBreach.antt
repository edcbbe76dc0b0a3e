-- A text has at most one breach of the grammar and its limits, and a whole text has none.
use Rattle.std.proofs.Common.{◌≡◌, ℕ, ◌+◌, ◌≤◌, Bool, true, false, List, [], ◌∷◌, ◌++◌, length, length-append, refl, sym, ap, ◌∙◌, subst, append_assoc, inl, inr, arith}
use Rattle.fin_base.specs.declared.refusal.Rule.{Rule}
use Rattle.fin_base.specs.declared.refusal.Rule.TheVariants.{S2, S3}
use Rattle.fin_lex.specs.declared.token.Token.{Token}
use Rattle.fin_parse.specs.declared.class.Class.{Class}
use Rattle.fin_parse.specs.declared.class.Class.TheVariants as class
use Rattle.fin_parse.specs.declared.grammar.Form.TheVariants as form
use Rattle.fin_parse.specs.declared.grammar.Phrase.{Phrase}
use Rattle.fin_parse.specs.declared.grammar.Phrase.TheVariants as phrase
use Rattle.fin_parse.specs.declared.grammar.Symbol.{Symbol}
use Rattle.fin_parse.specs.declared.grammar.Symbol.TheVariants.{Word, One, Maybe}
use Rattle.fin_parse.specs.declared.tree.Tree.{Tree}
use Rattle.fin_parse.specs.declared.tree.Tree.TheVariants.{Leaf, Node}
use Rattle.fin_parse.specs.declared.tree.Room.{Room}
use Rattle.fin_parse.specs.declared.trees.Text.{Text}
use Rattle.fin_parse.specs.Choices.{begins}
use Rattle.fin_parse.specs.Syntax.{Sign, real, beyond, signs, look, IsTree, word, one, many, absent, present, deeper, too_deep, in_loop, too_many_loops, IsRow, done, part, IsGroup, none, more}
use Rattle.fin_parse.specs.Reading.{AtLeast, IsReal}
use Rattle.fin_parse.specs.Text.{AreHeaders, Texts, IsWhole, IsUnexpected, IsTooDeep, IsCrowded}
use Rattle.fin_parse.specs.Breaches.{limits, next_line, last_line, IsUnexpectedAt, IsTooMuchAt, SyntaxBroken}
use Rattle.fin_parse.proofs.Table.{impossible, kind_of}
use Rattle.fin_parse.proofs.Steps.{nil-append, same_room, signs-append}
use Rattle.fin_parse.proofs.Examples.{ex_row}

-- ---- room for a header more

abbrev roomier : Room → Room
roomier k = record { headers = k.headers + 1; levels = k.levels; loops = k.loops }

at_least : (k : Room) → AtLeast k (roomier k)
at_least k = record { headers = omega arith; levels = omega arith; loops = omega arith }

mutual
  tree_fits : {k : Room} {s : Symbol} {x : List Sign} {u : Tree} → IsTree k s x u → IsTree (roomier k) s x u
  tree_fits (word h) = word h
  tree_fits (one f q h) = one f q (row_fits h)
  tree_fits (many h) = many (group_fits h)
  tree_fits absent = absent
  tree_fits (present h) = present (tree_fits h)
  tree_fits (deeper p h) = deeper p (tree_fits h)
  tree_fits (too_deep p m) = too_deep p m
  tree_fits (in_loop p h) = in_loop p (tree_fits h)
  tree_fits (too_many_loops p m) = too_many_loops p m

  row_fits : {k : Room} {row : List Symbol} {x : List Sign} {us : List Tree} → IsRow k row x us → IsRow (roomier k) row x us
  row_fits done = done
  row_fits (part h g) = part (tree_fits h) (row_fits g)

  group_fits : {k : Room} {n : Phrase} {x : List Sign} {us : List Tree} → IsGroup k n x us → IsGroup (roomier k) n x us
  group_fits none = none
  group_fits (more h g) = more (tree_fits h) (group_fits g)

and_last : {k : Room} {n : Phrase} {x : List Sign} {us : List Tree} → IsGroup k n x us → (y : List Sign) (u : Tree) → IsTree k (One n) y u → IsGroup k n (x ++ y) (us ++ u ∷ [])
and_last {k = k} {n = n} none y u h = subst (λ w. IsGroup k n w (u ∷ [])) (nil-append y) (more h none)
and_last {k = k} {n = n} (more {x = v} {y = w} {u = t} {us = ts} g m) y u h = subst (λ q. IsGroup k n q (t ∷ ts ++ u ∷ [])) (sym (append_assoc v w y)) (more g (and_last m y u h))

-- a header that begins with a token of that class
abbrev HeaderAt : Room → Class → Type 0
HeaderAt j c = (x : List Sign) × (u : Tree) × (look x ≡ c) × IsTree j (One phrase.Header) x u

abbrev a_token : Class → Token
a_token c = record { kind = kind_of c; from = 0; to = 0; line = 0 }

header_at : (j : Room) (c : Class) → begins phrase.Header c ≡ true → HeaderAt j c
header_at j class.In h =
    let r = ex_row j (Word class.Name ∷ One phrase.Format ∷ Maybe phrase.Fill ∷ []) class.End refl in
    (real (a_token class.In) ∷ r.0, Node form.InputHeader (Leaf (a_token class.In) ∷ r.1), refl, one form.InputHeader refl (part (word refl) r.2))
header_at j class.OutOrTmp h =
    let r = ex_row j (Word class.Name ∷ One phrase.Format ∷ Maybe phrase.Fill ∷ Maybe phrase.Shape ∷ []) class.End refl in
    (real (a_token class.OutOrTmp) ∷ r.0, Node form.OtherHeader (Leaf (a_token class.OutOrTmp) ∷ r.1), refl, one form.OtherHeader refl (part (word refl) r.2))
header_at j _ h = impossible h

-- with room for one more, a header more
one_more : (k : Room) (x : List Sign) (us : List Tree) → AreHeaders k x us → (c : Class) → begins phrase.Header c ≡ true → (z : List Sign) × (text : Text) × (look z ≡ c) × Texts (roomier k) (x ++ z) text
one_more k x us h c goes =
    let e = header_at (roomier k) c goes in
    let l : length (us ++ e.1 ∷ []) ≡ length us + length (e.1 ∷ []) = length-append us (e.1 ∷ []) in
    let few : length us ≤ k.headers = h.few in
    let all : AreHeaders (roomier k) (x ++ e.0) (us ++ e.1 ∷ []) = record { group = and_last (group_fits h.group) e.0 e.1 e.3; few = omega arith } in
    (e.0, record { headers = us ++ e.1 ∷ []; body = [] }, e.2, (x ++ e.0, [], sym (nil-append (x ++ e.0)), all, none))

-- ---- two places in the same tokens

data Order (a x b y : List Token) : Type 0 where
  same : a ≡ b → x ≡ y → Order a x b y
  sooner : (t : Token) (m : List Token) → b ≡ a ++ t ∷ m → x ≡ t ∷ m ++ y → Order a x b y
  later : (t : Token) (m : List Token) → a ≡ b ++ t ∷ m → y ≡ t ∷ m ++ x → Order a x b y

abbrev tail_of : List Token → List Token
tail_of [] = []
tail_of (t ∷ ts) = ts

abbrev head_of : Token → List Token → Token
head_of d [] = d
head_of d (t ∷ ts) = t

both_longer : (s t : Token) (a x b y : List Token) → s ≡ t → Order a x b y → Order (s ∷ a) x (t ∷ b) y
both_longer s t a x b y q (same h k) = same (subst (λ w. s ∷ a ≡ w ∷ b) q (ap (λ w. s ∷ w) h)) k
both_longer s t a x b y q (sooner u m h k) = sooner u m (subst (λ w. w ∷ b ≡ s ∷ a ++ u ∷ m) q (ap (λ w. s ∷ w) h)) k
both_longer s t a x b y q (later u m h k) = later u m (subst (λ w. s ∷ a ≡ w ∷ b ++ u ∷ m) q (ap (λ w. s ∷ w) h)) k

order : (a x b y : List Token) → a ++ x ≡ b ++ y → Order a x b y
order [] x [] y h = same refl h
order [] x (t ∷ b) y h = sooner t b refl h
order (t ∷ a) x [] y h = later t a refl (sym h)
order (s ∷ a) x (t ∷ b) y h = both_longer s t a x b y (ap (λ l. head_of s l) h) (order a x b y (ap tail_of h))

-- ---- where texts halt

-- a text begins with the tokens before, and none goes on with a token like the next
record Halts (before left : List Token) : Type 0 where
  begun : (z : List Sign) × (text : Text) × Texts limits (signs before ++ z) text
  ends : (after : List Sign) (text : Text) → look after ≡ look (signs left) → IsReal after → Texts limits (signs before ++ after) text → ⊥

abbrev is_token : List Sign → Bool
is_token (real t ∷ z) = true
is_token _ = false

tokens_are_real : (ts : List Token) → IsReal (signs ts)
tokens_are_real [] o z h = impossible (sym (ap has_sign h))
  where
    has_sign : List Sign → Bool
    has_sign [] = true
    has_sign (s ∷ ss) = false
tokens_are_real (t ∷ ts) o z h = impossible (sym (ap is_token h))

begins_real : (t : Token) (z : List Sign) → IsReal (real t ∷ z)
begins_real t z o r h = impossible (sym (ap is_token h))

-- no text goes on where another place says that none does
not_sooner : (a x b y : List Token) → Halts a x → Halts b y → (t : Token) (m : List Token) → b ≡ a ++ t ∷ m → x ≡ t ∷ m ++ y → ⊥
not_sooner a x b y h g t m q r =
    let z = g.begun.0 in
    let split : signs b ++ z ≡ signs a ++ (real t ∷ signs m ++ z) = ap (λ w. signs w ++ z) q ∙ ap (λ w. w ++ z) (signs-append a (t ∷ m)) ∙ append_assoc (signs a) (real t ∷ signs m) z in
    h.ends (real t ∷ signs m ++ z) g.begun.1 (sym (ap (λ w. look (signs w)) r)) (begins_real t (signs m ++ z)) (subst (λ w. Texts limits w g.begun.1) split g.begun.2)

one_place : (a x b y : List Token) → Halts a x → Halts b y → a ++ x ≡ b ++ y → (a ≡ b) × (x ≡ y)
one_place a x b y h g q = elim (order a x b y q) [
  | same p r ↦ (p, r)
  | sooner t m p r ↦ elim (not_sooner a x b y h g t m p r) [ ]
  | later t m p r ↦ elim (not_sooner b y a x g h t m p r) [ ]
]

not_whole : (a x : List Token) (text : Text) → Halts a x → IsWhole limits (a ++ x) text → ⊥
not_whole a x text h w = h.ends (signs x) text refl (tokens_are_real x) (subst (λ q. Texts limits q text) (signs-append a x) w.stands)

halts_unexpected : (a x : List Token) → IsUnexpected limits a x → Halts a x
halts_unexpected a x u = record { begun = u.begins; ends = λ after text next is_real h. u.ends limits after text (same_room limits) next h }

halts_deep : (a x : List Token) → IsTooDeep limits a x → Halts a x
halts_deep a x d = record { begun = (beyond d.opens.0 ∷ d.opens.1, d.opens.2, d.opens.4); ends = d.ends }

halts_crowded : (a x : List Token) → IsCrowded limits a x → Halts a x
halts_crowded a x c = record {
  begun = ([], record { headers = c.full.0; body = [] }, (signs a, [], refl, c.full.1, none));
  ends = λ after text next is_real h. c.ends after text next h;
}

-- ---- breaches at one place

not_unexpected_deep : (a x : List Token) → IsUnexpected limits a x → IsTooDeep limits a x → ⊥
not_unexpected_deep a x u d = u.ends limits (beyond d.opens.0 ∷ d.opens.1) d.opens.2 (same_room limits) d.opens.3 d.opens.4

not_unexpected_crowded : (a x : List Token) → IsUnexpected limits a x → IsCrowded limits a x → ⊥
not_unexpected_crowded a x u c =
    let e = one_more limits (signs a) c.full.0 c.full.1 (look (signs x)) c.further in
    u.ends (roomier limits) e.0 e.1 (at_least limits) e.2 e.3

not_deep_crowded : (a x : List Token) → IsTooDeep limits a x → IsCrowded limits a x → ⊥
not_deep_crowded a x d c = c.ends (beyond d.opens.0 ∷ d.opens.1) d.opens.2 d.opens.3 d.opens.4

-- ---- the laws

-- S2 at two places is S2 at one
one_unexpected : (tokens : List Token) (last m n : ℕ) → IsUnexpectedAt tokens last m → IsUnexpectedAt tokens last n → m ≡ n
one_unexpected tokens last m n (a, x, q, p, u) (b, y, r, o, v) =
    let s = one_place a x b y (halts_unexpected a x u) (halts_unexpected b y v) (sym q ∙ r) in
    p ∙ ap (λ w. next_line w last) s.1 ∙ sym o

-- S3 at two places is S3 at one
one_too_much : (tokens : List Token) (last m n : ℕ) → IsTooMuchAt tokens last m → IsTooMuchAt tokens last n → m ≡ n
one_too_much tokens last m n (inl (a, x, q, p, d)) (inl (b, y, r, o, e)) =
    let s = one_place a x b y (halts_deep a x d) (halts_deep b y e) (sym q ∙ r) in
    p ∙ ap last_line s.0 ∙ sym o
one_too_much tokens last m n (inl (a, x, q, p, d)) (inr (b, y, r, o, c)) =
    let s = one_place a x b y (halts_deep a x d) (halts_crowded b y c) (sym q ∙ r) in
    elim (not_deep_crowded b y (subst (λ w. IsTooDeep limits b w) s.1 (subst (λ w. IsTooDeep limits w x) s.0 d)) c) [ ]
one_too_much tokens last m n (inr (a, x, q, p, c)) (inl (b, y, r, o, d)) =
    let s = one_place a x b y (halts_crowded a x c) (halts_deep b y d) (sym q ∙ r) in
    elim (not_deep_crowded b y d (subst (λ w. IsCrowded limits b w) s.1 (subst (λ w. IsCrowded limits w x) s.0 c))) [ ]
one_too_much tokens last m n (inr (a, x, q, p, c)) (inr (b, y, r, o, d)) =
    let s = one_place a x b y (halts_crowded a x c) (halts_crowded b y d) (sym q ∙ r) in
    p ∙ ap (λ w. next_line w last) s.1 ∙ sym o

-- S2 and S3 exclude each other
not_both : (tokens : List Token) (last m n : ℕ) → IsUnexpectedAt tokens last m → IsTooMuchAt tokens last n → ⊥
not_both tokens last m n (a, x, q, p, u) (inl (b, y, r, o, d)) =
    let s = one_place a x b y (halts_unexpected a x u) (halts_deep b y d) (sym q ∙ r) in
    not_unexpected_deep b y (subst (λ w. IsUnexpected limits b w) s.1 (subst (λ w. IsUnexpected limits w x) s.0 u)) d
not_both tokens last m n (a, x, q, p, u) (inr (b, y, r, o, c)) =
    let s = one_place a x b y (halts_unexpected a x u) (halts_crowded b y c) (sym q ∙ r) in
    not_unexpected_crowded b y (subst (λ w. IsUnexpected limits b w) s.1 (subst (λ w. IsUnexpected limits w x) s.0 u)) c

-- a text has at most one breach
pub one_breach : (tokens : List Token) (last : ℕ) (f g : Rule) (m n : ℕ) → SyntaxBroken tokens last f m → SyntaxBroken tokens last g n → (f ≡ g) × (m ≡ n)
one_breach tokens last S2 S2 m n h k = (refl, one_unexpected tokens last m n h k)
one_breach tokens last S2 S3 m n h k = elim (not_both tokens last m n h k) [ ]
one_breach tokens last S3 S2 m n h k = elim (not_both tokens last n m k h) [ ]
one_breach tokens last S3 S3 m n h k = (refl, one_too_much tokens last m n h k)
one_breach tokens last S2 _ m n h k = elim k [ ]
one_breach tokens last S3 _ m n h k = elim k [ ]
one_breach tokens last _ g m n h k = elim h [ ]

-- a whole text has none
pub whole_is_unbroken : (tokens : List Token) (last : ℕ) (text : Text) (f : Rule) (n : ℕ) → IsWhole limits tokens text → SyntaxBroken tokens last f n → ⊥
whole_is_unbroken tokens last text S2 n w (a, x, q, p, u) = not_whole a x text (halts_unexpected a x u) (subst (λ v. IsWhole limits v text) q w)
whole_is_unbroken tokens last text S3 n w (inl (a, x, q, p, d)) = not_whole a x text (halts_deep a x d) (subst (λ v. IsWhole limits v text) q w)
whole_is_unbroken tokens last text S3 n w (inr (a, x, q, p, c)) = not_whole a x text (halts_crowded a x c) (subst (λ v. IsWhole limits v text) q w)
whole_is_unbroken tokens last text _ n w h = elim h [ ]
