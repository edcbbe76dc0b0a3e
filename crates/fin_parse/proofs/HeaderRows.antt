-- The parts of a header of the grammar.
use Rattle.std.proofs.Common.{◌≡◌, List, [], ◌∷◌, ◌++◌, map, refl, sym, ap, ◌∙◌, subst}
use Rattle.std.proofs.lemmas.List.{append-nil}
use Rattle.fin_lex.specs.declared.token.Token.{Token}
use Rattle.fin_parse.specs.declared.class.Class.{Class}
use Rattle.fin_parse.specs.declared.class.Class.TheVariants as class
use Rattle.fin_parse.specs.declared.grammar.Phrase.{Phrase}
use Rattle.fin_parse.specs.declared.grammar.Phrase.TheVariants as phrase
use Rattle.fin_parse.specs.declared.grammar.Form.{Form}
use Rattle.fin_parse.specs.declared.grammar.Form.TheVariants as form
use Rattle.fin_parse.specs.declared.grammar.Symbol.{Symbol}
use Rattle.fin_parse.specs.declared.grammar.Symbol.TheVariants.{Word, One, Many, Maybe}
use Rattle.fin_parse.specs.declared.tree.Tree.{Tree, fold-roll-Tree}
use Rattle.fin_parse.specs.declared.tree.Tree.TheOpen.{Tree-F}
use Rattle.fin_parse.specs.declared.tree.Tree.TheVariants.{Leaf, Node, Group, rolls-Leaf, rolls-Node, rolls-Group}
use Rattle.fin_parse.specs.declared.tree.Room.{Room}
use Rattle.fin_parse.specs.Classes.{class_of}
use Rattle.fin_parse.specs.Grammar.{phrase_of, row_of}
use Rattle.fin_parse.specs.Leaves.{HeadParts, Leaves, leaves_step, head_at, leaves_of, all_of, tokens_of, header_of}
use Rattle.fin_parse.specs.Syntax.{Sign, IsTree, word, one, many, absent, present, IsRow, done, part, IsGroup, none, more}

-- levels and decorations, and then `element`
pub data IsFormat : List Token → Type 0 where
  ends : {t : Token} → class_of t.kind ≡ class.Element → IsFormat (t ∷ [])
  goes : {t : Token} {ts : List Token} → class_of t.kind ≡ class.Store → IsFormat ts → IsFormat (t ∷ ts)

-- a number that fits, or a minus and one
pub data IsLiteral : List Token → Type 0 where
  plus : {n : Token} → class_of n.kind ≡ class.Number → IsLiteral (n ∷ [])
  minus : {m n : Token} → class_of n.kind ≡ class.Number → IsLiteral (m ∷ n ∷ [])
  widest : {m n : Token} → class_of n.kind ≡ class.Widest → IsLiteral (m ∷ n ∷ [])

pub data IsFill : List Token → Type 0 where
  absent_fill : IsFill []
  given : {t : Token} {ts : List Token} → IsLiteral ts → IsFill (t ∷ ts)

-- what the parts of a header of the grammar are
pub record IsHead (parts : HeadParts) : Type 0 where
  pub kind : (t : Token) × (parts.kind ≡ t ∷ [])
  pub name : (t : Token) × (parts.name ≡ t ∷ [])
  pub format : IsFormat parts.format
  pub fill : IsFill parts.fill

-- ---- the tokens of trees

tokens-Leaf : (t : Token) → tokens_of (Leaf t) ≡ t ∷ []
tokens-Leaf t = ap tokens_of (sym (rolls-Leaf t)) ∙ ap (λ (u : Leaves). u.all) (fold-roll-Tree Leaves leaves_step (Tree-F.Leaf t))

tokens-Group : (us : List Tree) → tokens_of (Group us) ≡ all_of (map leaves_of us)
tokens-Group us = ap tokens_of (sym (rolls-Group us)) ∙ ap (λ (u : Leaves). u.all) (fold-roll-Tree Leaves leaves_step (Tree-F.Group us))

tokens-Node : (f : Form) (us : List Tree) → tokens_of (Node f us) ≡ all_of (map leaves_of us)
tokens-Node f us = ap tokens_of (sym (rolls-Node f us)) ∙ ap (λ (u : Leaves). u.all) (fold-roll-Tree Leaves leaves_step (Tree-F.Node f us))

header-Node : (f : Form) (us : List Tree) → header_of (Node f us) ≡ head_at (map leaves_of us)
header-Node f us = ap header_of (sym (rolls-Node f us)) ∙ ap (λ (u : Leaves). u.head) (fold-roll-Tree Leaves leaves_step (Tree-F.Node f us))

-- ---- trees by their symbols

a_word : {k : Room} {c : Class} {x : List Sign} {u : Tree} → IsTree k (Word c) x u → (t : Token) × (tokens_of u ≡ t ∷ []) × (class_of t.kind ≡ c)
a_word (word {t = t} q) = (t, tokens-Leaf t, q)

a_phrase : {k : Room} {n : Phrase} {x : List Sign} {u : Tree} → IsTree k (One n) x u → (f : Form) × (us : List Tree) × (u ≡ Node f us) × (phrase_of f ≡ n) × IsRow k (row_of f) x us
a_phrase (one {us = us} f q h) = (f, us, refl, q, h)

a_group : {k : Room} {n : Phrase} {x : List Sign} {u : Tree} → IsTree k (Many n) x u → (us : List Tree) × (u ≡ Group us) × IsGroup k n x us
a_group (many {us = us} h) = (us, refl, h)

a_part : {k : Room} {s : Symbol} {row : List Symbol} {x : List Sign} {us : List Tree} → IsRow k (s ∷ row) x us → (u : Tree) × (vs : List Tree) × (y z : List Sign) × (us ≡ u ∷ vs) × IsTree k s y u × IsRow k row z vs
a_part (part {x = y} {y = z} {u = u} {us = vs} h m) = (u, vs, y, z, refl, h, m)

no_part : {k : Room} {x : List Sign} {us : List Tree} → IsRow k [] x us → us ≡ []
no_part done = refl

-- ---- rows of one and two symbols

single : {k : Room} {s : Symbol} {x : List Sign} {us : List Tree} → IsRow k (s ∷ []) x us → (u : Tree) × (y : List Sign) × (us ≡ u ∷ []) × IsTree k s y u
single h = let p = a_part h in (p.0, p.2, p.4 ∙ ap (λ q. p.0 ∷ q) (no_part p.6), p.5)

pair : {k : Room} {s r : Symbol} {x : List Sign} {us : List Tree} → IsRow k (s ∷ r ∷ []) x us → (u v : Tree) × (y z : List Sign) × (us ≡ u ∷ v ∷ []) × IsTree k s y u × IsTree k r z v
pair h =
    let p = a_part h in
    let q = single p.6 in
    (p.0, q.0, p.2, q.1, p.4 ∙ ap (λ w. p.0 ∷ w) q.2, p.5, q.3)

single_tokens : {us : List Tree} {u : Tree} → us ≡ u ∷ [] → all_of (map leaves_of us) ≡ tokens_of u
single_tokens {u = u} e = ap (λ q. all_of (map leaves_of q)) e ∙ append-nil (tokens_of u)

pair_tokens : {us : List Tree} {u v : Tree} → us ≡ u ∷ v ∷ [] → all_of (map leaves_of us) ≡ tokens_of u ++ tokens_of v
pair_tokens {u = u} {v = v} e = ap (λ q. all_of (map leaves_of q)) e ∙ ap (λ q. tokens_of u ++ q) (append-nil (tokens_of v))

-- ---- the parts of a header

-- what a group of words names, and the word behind it
format_words : {k : Room} {x : List Sign} {us : List Tree} (e : Token) → class_of e.kind ≡ class.Element → IsGroup k phrase.StoreWord x us → IsFormat (all_of (map leaves_of us) ++ e ∷ [])
format_words e is none = ends is
format_words e is (more {u = u} {us = us} h m) =
    let w = store_word h in
    subst (λ ts. IsFormat (ts ++ e ∷ [])) (sym (ap (λ q. q ++ all_of (map leaves_of us)) w.1)) (goes w.2 (format_words e is m))
  where
    store_word : {k : Room} {x : List Sign} {u : Tree} → IsTree k (One phrase.StoreWord) x u → (t : Token) × (tokens_of u ≡ t ∷ []) × (class_of t.kind ≡ class.Store)
    store_word h =
        let p = a_phrase h in
        by_form p.0 p.1 p.2 p.3 p.4
      where
        by_form : {k : Room} {x : List Sign} {u : Tree} (f : Form) (us : List Tree) → u ≡ Node f us → phrase_of f ≡ phrase.StoreWord → IsRow k (row_of f) x us → (t : Token) × (tokens_of u ≡ t ∷ []) × (class_of t.kind ≡ class.Store)
        by_form form.StoreWord us is q h =
            let p = single h in
            let w = a_word p.3 in
            (w.0, ap tokens_of is ∙ tokens-Node form.StoreWord us ∙ single_tokens p.2 ∙ w.1, w.2)
        by_form _ us is q h = absurd (cc)

a_format : {k : Room} {x : List Sign} {u : Tree} → IsTree k (One phrase.Format) x u → IsFormat (tokens_of u)
a_format h =
    let p = a_phrase h in
    by_form p.0 p.1 p.2 p.3 p.4
  where
    by_form : {k : Room} {x : List Sign} {u : Tree} (f : Form) (us : List Tree) → u ≡ Node f us → phrase_of f ≡ phrase.Format → IsRow k (row_of f) x us → IsFormat (tokens_of u)
    by_form form.Format us is q h =
        let p = pair h in
        let g = a_group p.5 in
        let w = a_word p.6 in
        subst IsFormat (sym (ap tokens_of is ∙ tokens-Node form.Format us ∙ pair_tokens p.4 ∙ ap (λ q. q ++ tokens_of p.1) (ap tokens_of g.1 ∙ tokens-Group g.0) ∙ ap (λ q. all_of (map leaves_of g.0) ++ q) w.1)) (format_words w.0 w.2 g.2)
    by_form _ us is q h = absurd (cc)

a_magnitude : {k : Room} {x : List Sign} {u : Tree} → IsTree k (One phrase.Magnitude) x u → (m : Token) → IsLiteral (m ∷ tokens_of u)
a_magnitude h m =
    let p = a_phrase h in
    by_form p.0 p.1 p.2 p.3 p.4 m
  where
    by_form : {k : Room} {x : List Sign} {u : Tree} (f : Form) (us : List Tree) → u ≡ Node f us → phrase_of f ≡ phrase.Magnitude → IsRow k (row_of f) x us → (m : Token) → IsLiteral (m ∷ tokens_of u)
    by_form form.Magnitude us is q h m =
        let p = single h in
        let w = a_word p.3 in
        subst (λ ts. IsLiteral (m ∷ ts)) (sym (ap tokens_of is ∙ tokens-Node form.Magnitude us ∙ single_tokens p.2 ∙ w.1)) (minus w.2)
    by_form form.WidestMagnitude us is q h m =
        let p = single h in
        let w = a_word p.3 in
        subst (λ ts. IsLiteral (m ∷ ts)) (sym (ap tokens_of is ∙ tokens-Node form.WidestMagnitude us ∙ single_tokens p.2 ∙ w.1)) (widest w.2)
    by_form _ us is q h m = absurd (cc)

-- an integer of the grammar, which also a declaration has
pub an_int : {k : Room} {x : List Sign} {u : Tree} → IsTree k (One phrase.Int) x u → IsLiteral (tokens_of u)
an_int h =
    let p = a_phrase h in
    by_form p.0 p.1 p.2 p.3 p.4
  where
    by_form : {k : Room} {x : List Sign} {u : Tree} (f : Form) (us : List Tree) → u ≡ Node f us → phrase_of f ≡ phrase.Int → IsRow k (row_of f) x us → IsLiteral (tokens_of u)
    by_form form.PlusInt us is q h =
        let p = single h in
        let w = a_word p.3 in
        subst IsLiteral (sym (ap tokens_of is ∙ tokens-Node form.PlusInt us ∙ single_tokens p.2 ∙ w.1)) (plus w.2)
    by_form form.MinusInt us is q h =
        let p = pair h in
        let w = a_word p.5 in
        subst IsLiteral (sym (ap tokens_of is ∙ tokens-Node form.MinusInt us ∙ pair_tokens p.4 ∙ ap (λ q. q ++ tokens_of p.1) w.1)) (a_magnitude p.6 w.0)
    by_form _ us is q h = absurd (cc)

a_fill : {k : Room} {x : List Sign} {u : Tree} → IsTree k (One phrase.Fill) x u → IsFill (tokens_of u)
a_fill h =
    let p = a_phrase h in
    by_form p.0 p.1 p.2 p.3 p.4
  where
    by_form : {k : Room} {x : List Sign} {u : Tree} (f : Form) (us : List Tree) → u ≡ Node f us → phrase_of f ≡ phrase.Fill → IsRow k (row_of f) x us → IsFill (tokens_of u)
    by_form form.Fill us is q h =
        let p = pair h in
        let w = a_word p.5 in
        subst IsFill (sym (ap tokens_of is ∙ tokens-Node form.Fill us ∙ pair_tokens p.4 ∙ ap (λ q. q ++ tokens_of p.1) w.1)) (given (an_int p.6))
    by_form _ us is q h = absurd (cc)

maybe_fill : {k : Room} {x : List Sign} {u : Tree} → IsTree k (Maybe phrase.Fill) x u → IsFill (tokens_of u)
maybe_fill absent = subst IsFill (sym (tokens-Group [])) absent_fill
maybe_fill (present {u = u} h) = subst IsFill (sym (tokens-Group (u ∷ []) ∙ append-nil (tokens_of u))) (a_fill h)

-- ---- a header

first_four : {k : Room} {c : Class} {row : List Symbol} {x : List Sign} {us : List Tree} (f : Form) → IsRow k (Word c ∷ Word class.Name ∷ One phrase.Format ∷ Maybe phrase.Fill ∷ row) x us → IsHead (header_of (Node f us))
first_four f h =
    let a = a_part h in
    let b = a_part a.6 in
    let d = a_part b.6 in
    let e = a_part d.6 in
    let kind = a_word a.5 in
    let name = a_word b.5 in
    let format = a_format d.5 in
    let fill = maybe_fill e.5 in
    let parts = a.4 ∙ ap (λ q. a.0 ∷ q) (b.4 ∙ ap (λ q. b.0 ∷ q) (d.4 ∙ ap (λ q. d.0 ∷ q) e.4)) in
    subst (λ w. IsHead (header_of (Node f w))) (sym parts) (subst IsHead (sym (header-Node f (a.0 ∷ b.0 ∷ d.0 ∷ e.0 ∷ e.1))) (record {
      kind = (kind.0, kind.1);
      name = (name.0, name.1);
      format = format;
      fill = fill;
    }))

pub a_header : {k : Room} {x : List Sign} {u : Tree} → IsTree k (One phrase.Header) x u → IsHead (header_of u)
a_header h =
    let p = a_phrase h in
    subst (λ w. IsHead (header_of w)) (sym p.2) (by_form p.0 p.1 p.3 p.4)
  where
    by_form : {k : Room} {x : List Sign} (f : Form) (us : List Tree) → phrase_of f ≡ phrase.Header → IsRow k (row_of f) x us → IsHead (header_of (Node f us))
    by_form form.InputHeader us q h = first_four form.InputHeader h
    by_form form.OtherHeader us q h = first_four form.OtherHeader h
    by_form _ us q h = absurd (cc)
