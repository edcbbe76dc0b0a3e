-- What is read of each symbol.
use Rattle.std.proofs.Common.{◌≡◌, ◌≢◌, ℕ, zero, suc, ◌+◌, ◌<◌, ◌≤◌, length, length-append, drop, slice_index_or, Bool, true, false, not, ◌&&◌, List, [], ◌∷◌, ◌++◌, Option, Some, None, Err, refl, sym, ap, ◌∙◌, subst, append_assoc, inl, inr, arith}
use Rattle.fin_lex.specs.declared.token.Token.{Token}
use Rattle.fin_parse.specs.declared.class.Class.{Class}
use Rattle.fin_parse.specs.declared.class.Class.TheVariants as class
use Rattle.fin_parse.specs.declared.grammar.Phrase.{Phrase}
use Rattle.fin_parse.specs.declared.grammar.Form.{Form}
use Rattle.fin_parse.specs.declared.grammar.Symbol.{Symbol}
use Rattle.fin_parse.specs.declared.grammar.Symbol.TheVariants.{Word, One, Many, Maybe, Deeper, InLoop}
use Rattle.fin_parse.specs.declared.tree.Tree.{Tree}
use Rattle.fin_parse.specs.declared.tree.Tree.TheVariants.{Leaf, Node, Group}
use Rattle.fin_parse.specs.declared.tree.Room.{Room}
use Rattle.fin_parse.specs.declared.tree.Stop.{Stop}
use Rattle.fin_parse.specs.Classes.{class_of, class_at}
use Rattle.fin_parse.specs.Grammar.{phrase_of, row_of, form_at}
use Rattle.fin_parse.specs.Choices.{begins, is_nullable, may_open, goes_on, same_class, are_empty, row_starts, continues, row_continues, is_clear, is_sound, are_sound, weight, row_weight}
use Rattle.fin_parse.specs.Syntax.{Sign, real, signs, look, lower, entered, IsTree, word, one, many, absent, present, deeper, too_deep, in_loop, too_many_loops, IsRow, done, part, IsGroup, none, more}
use Rattle.fin_parse.specs.Reading.{Kind, Ended, AtLeast, IsReal, Along, Stuck, Sunk, Outcome, Trees, Rows, Groups}
use Rattle.fin_parse.proofs.Table.{impossible, both, chosen, chosen_empty, chosen_for, continued, clear, sound, unopened}
use Rattle.fin_parse.proofs.Leads.{or_false, tree_leads, row_leads, no_token}
use Rattle.fin_parse.proofs.Steps.{nil-append, begin, decide, Sequence, phrase_read, phrase_fails, Through}
use Rattle.fin_parse.proofs.Examples.{ex_phrase, ex_symbol, ex_row}

pub false_back : (a b : Bool) → (a ≡ true → b ≡ true) → b ≡ false → a ≡ false
false_back true b h k = impossible (sym k ∙ h refl)
false_back false b h k = refl

pub not_true : (a : Bool) → not a ≡ true → a ≡ false
not_true true h = impossible h
not_true false h = refl

not_both : (a b : Bool) → not (a && b) ≡ true → b ≡ true → a ≡ false
not_both true true h k = impossible h
not_both true false h k = impossible k
not_both false b h k = refl

-- ---- a word

head_real : {t u : Token} {a b : List Sign} → real t ∷ a ≡ real u ∷ b → t ≡ u
head_real h = cc

pub word_read : (k : Room) (c : Class) (t : Token) (new : List Token) → class_of t.kind ≡ c → Along (Trees (Word c)) k (continues (Word c)) (t ∷ new) new (Ended (Leaf t))
word_read k c t new is = record {
  taken = t ∷ [];
  split = refl;
  reached = record {
    build = λ z e m. subst (λ w. IsTree k (Word c) (real t ∷ w) e) (sym m.0) (subst (λ w. IsTree k (Word c) (real t ∷ []) w) (sym m.1) (word is));
    only = λ j p r after e al h stops same next. only p r after e h same;
  };
}
  where
    only : {j : Room} (p r after : List Sign) (e : Tree) → IsTree j (Word c) p e → p ++ r ≡ (real t ∷ []) ++ after → (z : List Sign) × (p ≡ (real t ∷ []) ++ z) × ((z ≡ []) × (e ≡ Leaf t))
    only p r after e (word {t = u} q) same = let i : u ≡ t = head_real same in ([], ap (λ w. real w ∷ []) i, (refl, ap Leaf i))

pub word_stuck : (k : Room) (c : Class) (old : List Token) → (x : List Sign) (u : Tree) → IsTree k (Word c) x u → (look (signs old) ≡ c → ⊥) → Stuck (Trees (Word c)) k (continues (Word c)) old old
word_stuck k c old x u ex other = record {
  taken = [];
  split = refl;
  refused = record {
    none = λ j p r after e al h stops same next. wrong p r after e h same next;
    some = (x, u, ex);
  };
}
  where
    wrong : {j : Room} (p r after : List Sign) (e : Tree) → IsTree j (Word c) p e → p ++ r ≡ after → look after ≡ look (signs old) → ⊥
    wrong p r after e (word {t = t} q) same next = other (sym next ∙ sym (ap look same) ∙ q)

-- ---- a phrase by its form

form_there : (n : Phrase) (k : Room) (f : Form) (p r : List Sign) (us : List Tree) → phrase_of f ≡ n → IsRow k (row_of f) p us → form_at n (look (p ++ r)) ≡ Some f
form_there n k f p r us is h = subst (λ m. form_at m (look (p ++ r)) ≡ Some f) is (elim (row_leads h) [
  | inl e ↦ chosen_empty f (look (p ++ r)) e.1
  | inr g ↦ chosen f (look (p ++ r)) (g r)
])

some_form : {f g : Form} → Some f ≡ Some g → f ≡ g
some_form e = cc

pub phrase_by_form : (k : Room) (n : Phrase) (f : Form) (old : List Token) → form_at n (look (signs old)) ≡ Some f → Through (Rows (row_of f)) (λ k. k) (row_continues (row_of f)) (Trees (One n)) k (goes_on n) (Node f) (look (signs old))
phrase_by_form k n f old is = record {
  to = λ p e h. one f of_n h;
  back = λ j p r e' al h stops next. back j p r e' h next;
  rise = λ j al. al;
  stops = λ d h. false_back (row_continues (row_of f) d) (goes_on n d) (λ c. subst (λ m. goes_on m d ≡ true) of_n (continued f d c)) h;
}
  where
    of_n : phrase_of f ≡ n
    of_n = chosen_for n (look (signs old)) f is

    back : (j : Room) (p r : List Sign) (e' : Tree) → IsTree j (One n) p e' → look (p ++ r) ≡ look (signs old) → (e : List Tree) × (e' ≡ Node f e) × IsRow j (row_of f) p e
    back j p r e' (one {us = us} g q h) next =
        let i : g ≡ f = some_form (sym (form_there n j g p r us q h) ∙ ap (form_at n) next ∙ is) in
        (us, ap (λ w. Node w us) i, subst (λ w. IsRow j (row_of w) p us) i h)

pub phrase_stuck : (k : Room) (n : Phrase) (old : List Token) → form_at n (look (signs old)) ≡ None → Stuck (Trees (One n)) k (goes_on n) old old
phrase_stuck k n old is = record {
  taken = [];
  split = refl;
  refused = record {
    none = λ j p r after e al h stops same next. wrong j p r after e h same next;
    some = ex_phrase n k;
  };
}
  where
    wrong : (j : Room) (p r after : List Sign) (e : Tree) → IsTree j (One n) p e → p ++ r ≡ after → look after ≡ look (signs old) → ⊥
    wrong j p r after e (one {us = us} g q h) same next =
        let a : form_at n (look (p ++ r)) ≡ Some g = form_there n j g p r us q h in
        let b : form_at n (look (p ++ r)) ≡ None = ap (λ w. form_at n (look w)) same ∙ ap (form_at n) next ∙ is in
        absurd (cc)

-- ---- a deeper level

pub deeper_through : (k : Room) (n : Phrase) (l : Class) → 0 < k.levels → Through (Trees (One n)) lower (goes_on n) (Trees (Deeper n)) k (goes_on n) (λ u. u) l
deeper_through k n l some = record {
  to = λ p e h. deeper some h;
  back = λ j p r e' al h stops next. back j p e' al h;
  rise = λ j al. record { headers = al.headers; levels = (let a = al.levels in omega arith); loops = al.loops };
  stops = λ d h. h;
}
  where
    back : (j : Room) (p : List Sign) (e' : Tree) → AtLeast k j → IsTree j (Deeper n) p e' → (e : Tree) × (e' ≡ e) × IsTree (lower j) (One n) p e
    back j p e' al (deeper {u = u} q h) = (u, refl, h)
    back j p e' al (too_deep q m) = absurd (let a = al.levels in omega arith)

pub loop_through : (k : Room) (n : Phrase) (l : Class) → 0 < k.loops → Through (Trees (One n)) entered (goes_on n) (Trees (InLoop n)) k (goes_on n) (λ u. u) l
loop_through k n l some = record {
  to = λ p e h. in_loop some h;
  back = λ j p r e' al h stops next. back j p e' al h;
  rise = λ j al. record { headers = al.headers; levels = al.levels; loops = (let a = al.loops in omega arith) };
  stops = λ d h. h;
}
  where
    back : (j : Room) (p : List Sign) (e' : Tree) → AtLeast k j → IsTree j (InLoop n) p e' → (e : Tree) × (e' ≡ e) × IsTree (entered j) (One n) p e
    back j p e' al (in_loop {u = u} q h) = (u, refl, h)
    back j p e' al (too_many_loops q m) = absurd (let a = al.loops in omega arith)

abbrev first_of : List Token → Option Token
first_of [] = None
first_of (t ∷ ts) = Some t

first_looks : (old : List Token) → class_at (first_of old) ≡ look (signs old)
first_looks [] = refl
first_looks (t ∷ ts) = refl

pub deeper_sunk : (k : Room) (n : Phrase) (old : List Token) → k.levels ≡ 0 → may_open n (look (signs old)) ≡ true → Sunk (Trees (Deeper n)) k (goes_on n) old old
deeper_sunk k n old full opens = record {
  taken = [];
  split = refl;
  deep = record {
    none = λ p r after e h stops same next is_real. wrong p r after e h same is_real;
    some = (first_of old, [], Group [], first_looks old, too_deep full (subst (λ c. may_open n c ≡ true) (sym (first_looks old)) opens));
  };
}
  where
    wrong : (p r after : List Sign) (e : Tree) → IsTree k (Deeper n) p e → p ++ r ≡ after → IsReal after → ⊥
    wrong p r after e (deeper q h) same is_real = omega arith
    wrong p r after e (too_deep {o = o} q m) same is_real = is_real o r (sym same)

pub loop_sunk : (k : Room) (n : Phrase) (old : List Token) → k.loops ≡ 0 → may_open n (look (signs old)) ≡ true → Sunk (Trees (InLoop n)) k (goes_on n) old old
loop_sunk k n old full opens = record {
  taken = [];
  split = refl;
  deep = record {
    none = λ p r after e h stops same next is_real. wrong p r after e h same is_real;
    some = (first_of old, [], Group [], first_looks old, too_many_loops full (subst (λ c. may_open n c ≡ true) (sym (first_looks old)) opens));
  };
}
  where
    wrong : (p r after : List Sign) (e : Tree) → IsTree k (InLoop n) p e → p ++ r ≡ after → IsReal after → ⊥
    wrong p r after e (in_loop q h) same is_real = omega arith
    wrong p r after e (too_many_loops {o = o} q m) same is_real = is_real o r (sym same)

unopened_stuck : (n : Phrase) (j : Room) (p r after : List Sign) (u : Tree) (l : Class) → may_open n l ≡ false → IsTree j (One n) p u → p ++ r ≡ after → look after ≡ l → ⊥
unopened_stuck n j p r after u l shut h same next = elim (tree_leads h) [
  | inl e ↦ impossible (sym (unopened n l shut).1 ∙ e.1)
  | inr g ↦ impossible (sym (unopened n l shut).0 ∙ ap (begins n) (sym (ap look same ∙ next)) ∙ g r)
]

pub deeper_stuck : (k : Room) (n : Phrase) (old : List Token) → may_open n (look (signs old)) ≡ false → Stuck (Trees (Deeper n)) k (goes_on n) old old
deeper_stuck k n old shut = record {
  taken = [];
  split = refl;
  refused = record {
    none = λ j p r after e al h stops same next. wrong j p r after e h same next;
    some = ex_symbol k (Deeper n) class.End refl;
  };
}
  where
    wrong : (j : Room) (p r after : List Sign) (e : Tree) → IsTree j (Deeper n) p e → p ++ r ≡ after → look after ≡ look (signs old) → ⊥
    wrong j p r after e (deeper {u = u} q h) same next = unopened_stuck n (lower j) p r after u (look (signs old)) shut h same next
    wrong j p r after e (too_deep {o = o} q m) same next = impossible (sym shut ∙ ap (may_open n) (sym (ap look same ∙ next)) ∙ m)

pub loop_stuck : (k : Room) (n : Phrase) (old : List Token) → may_open n (look (signs old)) ≡ false → Stuck (Trees (InLoop n)) k (goes_on n) old old
loop_stuck k n old shut = record {
  taken = [];
  split = refl;
  refused = record {
    none = λ j p r after e al h stops same next. wrong j p r after e h same next;
    some = ex_symbol k (InLoop n) class.End refl;
  };
}
  where
    wrong : (j : Room) (p r after : List Sign) (e : Tree) → IsTree j (InLoop n) p e → p ++ r ≡ after → look after ≡ look (signs old) → ⊥
    wrong j p r after e (in_loop {u = u} q h) same next = unopened_stuck n (entered j) p r after u (look (signs old)) shut h same next
    wrong j p r after e (too_many_loops {o = o} q m) same next = impossible (sym shut ∙ ap (may_open n) (sym (ap look same ∙ next)) ∙ m)

-- ---- many phrases, after those so far

abbrev pub GroupFrom : Phrase → List Tree → Kind (List Tree)
GroupFrom n all k z e = (us : List Tree) × (e ≡ all ++ us) × IsGroup k n z us

abbrev pub OneFrom : Phrase → List Tree → Kind (List Tree)
OneFrom n all k z e = (x y : List Sign) × (u : Tree) × (z ≡ x ++ y) × IsTree k (One n) x u × GroupFrom n (all ++ u ∷ []) k y e

module _ (n : Phrase) (k : Room) (c : Class → Bool) (stops : (d : Class) → c d ≡ false → (begins n d ≡ false) × (goes_on n d ≡ false)) (solid : is_nullable n ≡ false) (apart : (d : Class) → not (goes_on n d && begins n d) ≡ true) where
  pub group_start : (old : List Token) → Along (Groups n) k c old old (GroupFrom n [])
  group_start old = decide (Groups n) k c (Groups n) (GroupFrom n []) old old (begin (Groups n) k c old) (λ z e m. subst (λ q. IsGroup k n z q) (sym m.1) m.2) (λ j z r e m s next. (e, refl, m))

  pub one_begins : {j : Room} {x : List Sign} {u : Tree} → IsTree j (One n) x u → (r : List Sign) → begins n (look (x ++ r)) ≡ true
  one_begins h r = elim (tree_leads h) [ inl e ↦ impossible (sym solid ∙ e.1) | inr g ↦ g r ]

  pub group_goes : (old mid : List Token) (all : List Tree) → Along (Groups n) k c old mid (GroupFrom n all) → begins n (look (signs mid)) ≡ true → Along (Groups n) k c old mid (OneFrom n all)
  group_goes old mid all s goes = decide (Groups n) k c (GroupFrom n all) (OneFrom n all) old mid s up (λ j z r e m stop next. down j z r e m.0 m.1 m.2 stop next)
    where
      up : (z : List Sign) (e : List Tree) → OneFrom n all k z e → GroupFrom n all k z e
      up z e (x, y, u, q, h, m) = (u ∷ m.0, m.1 ∙ append_assoc all (u ∷ []) m.0, subst (λ w. IsGroup k n w (u ∷ m.0)) (sym q) (more h m.2))

      down : (j : Room) (z r : List Sign) (e us : List Tree) → e ≡ all ++ us → IsGroup j n z us → c (look r) ≡ false → look (z ++ r) ≡ look (signs mid) → OneFrom n all j z e
      down j z r e us q none stop next = impossible (sym (stops (look r) stop).0 ∙ ap (begins n) next ∙ goes)
      down j z r e us q (more {x = x} {y = y} {u = u} {us = vs} h m) stop next = (x, y, u, refl, h, (vs, q ∙ sym (append_assoc all (u ∷ []) vs), m))

  pub group_ends : (old mid : List Token) (all : List Tree) → Along (Groups n) k c old mid (GroupFrom n all) → begins n (look (signs mid)) ≡ false → Along (Groups n) k c old mid (Ended all)
  group_ends old mid all s ended = decide (Groups n) k c (GroupFrom n all) (Ended all) old mid s up (λ j z r e m stop next. down j z r e m.0 m.1 m.2 next)
    where
      up : (z : List Sign) (e : List Tree) → Ended all k z e → GroupFrom n all k z e
      up z e (h, q) = ([], q ∙ sym (nil-append all), subst (λ w. IsGroup k n w []) (sym h) none)

      down : (j : Room) (z r : List Sign) (e us : List Tree) → e ≡ all ++ us → IsGroup j n z us → look (z ++ r) ≡ look (signs mid) → Ended all j z e
      down j z r e us q none next = (refl, q ∙ nil-append all)
      down j z r e us q (more {x = x} {y = y} {u = u} h m) next =
          impossible (sym ended ∙ sym (ap (begins n) next) ∙ ap (λ w. begins n (look w)) (append_assoc x y r) ∙ one_begins h (y ++ r))

  pub follow : (j : Room) (v r : List Sign) (us : List Tree) → IsGroup j n v us → c (look r) ≡ false → goes_on n (look (v ++ r)) ≡ false
  follow j v r us none stop = (stops (look r) stop).1
  follow j v r us (more {x = x} {y = y} h m) stop =
      not_both (goes_on n (look ((x ++ y) ++ r))) (begins n (look ((x ++ y) ++ r))) (apart (look ((x ++ y) ++ r))) (ap (λ w. begins n (look w)) (append_assoc x y r) ∙ one_begins h (y ++ r))

  one_from : (all : List Tree) → Sequence k c (OneFrom n all) (Trees (One n)) (goes_on n) (λ u. GroupFrom n (all ++ u ∷ []))
  one_from all = record {
    join = λ x y u e h m. (x, y, u, refl, h, m);
    parts = λ j z e m. (m.0, m.1, m.2, m.3, m.4, m.5);
    follow = λ j v r u e m stop. follow j v r m.0 m.2 stop;
  }

  pub group_more : (old mid new : List Token) (all : List Tree) (u : Tree) → Along (Groups n) k c old mid (OneFrom n all) → Along (Trees (One n)) k (goes_on n) mid new (Ended u) → Along (Groups n) k c old new (GroupFrom n (all ++ u ∷ []))
  group_more old mid new all u s t = phrase_read (Groups n) (OneFrom n all) k c (Trees (One n)) (goes_on n) (λ v. GroupFrom n (all ++ v ∷ [])) (one_from all) old mid new s u t

  pub group_fails : (old mid new : List Token) (all : List Tree) (f : Stop) → Along (Groups n) k c old mid (OneFrom n all) → Outcome (Trees (One n)) k (goes_on n) mid new (Err f) → Outcome (Groups n) k c old new (Err f)
  group_fails old mid new all f s t = phrase_fails (Groups n) (OneFrom n all) k c (Trees (One n)) (goes_on n) (λ v. GroupFrom n (all ++ v ∷ [])) (one_from all) old mid new s f t (λ u. ([], all ++ u ∷ [], ([], sym (nil-append (all ++ u ∷ [])), none)))

pub many_through : (k : Room) (n : Phrase) (l : Class) → Through (Groups n) (λ k. k) (continues (Many n)) (Trees (Many n)) k (continues (Many n)) Group l
many_through k n l = record {
  to = λ p e h. many h;
  back = λ j p r e' al h stops next. back j p e' h;
  rise = λ j al. al;
  stops = λ d h. h;
}
  where
    back : (j : Room) (p : List Sign) (e' : Tree) → IsTree j (Many n) p e' → (e : List Tree) × (e' ≡ Group e) × IsGroup j n p e
    back j p e' (many {us = us} h) = (us, refl, h)

-- ---- a phrase or nothing

pub maybe_present : (k : Room) (n : Phrase) (old : List Token) → begins n (look (signs old)) ≡ true → Through (Trees (One n)) (λ k. k) (goes_on n) (Trees (Maybe n)) k (continues (Maybe n)) (λ u. Group (u ∷ [])) (look (signs old))
maybe_present k n old goes = record {
  to = λ p e h. present h;
  back = λ j p r e' al h stops next. back j p r e' h stops next;
  rise = λ j al. al;
  stops = λ d h. (or_false (begins n d) (goes_on n d) h).1;
}
  where
    back : (j : Room) (p r : List Sign) (e' : Tree) → IsTree j (Maybe n) p e' → continues (Maybe n) (look r) ≡ false → look (p ++ r) ≡ look (signs old) → (e : Tree) × (e' ≡ Group (e ∷ [])) × IsTree j (One n) p e
    back j p r e' absent stops next = impossible (sym (or_false (begins n (look r)) (goes_on n (look r)) stops).0 ∙ ap (begins n) next ∙ goes)
    back j p r e' (present {u = u} h) stops next = (u, refl, h)

pub maybe_absent : (k : Room) (n : Phrase) (old : List Token) → is_nullable n ≡ false → begins n (look (signs old)) ≡ false → Along (Trees (Maybe n)) k (continues (Maybe n)) old old (Ended (Group []))
maybe_absent k n old solid ended = decide (Trees (Maybe n)) k (continues (Maybe n)) (Trees (Maybe n)) (Ended (Group [])) old old (begin (Trees (Maybe n)) k (continues (Maybe n)) old) up (λ j z r e m stop next. down j z r e m next)
  where
    up : (z : List Sign) (e : Tree) → Ended (Group []) k z e → IsTree k (Maybe n) z e
    up z e (h, q) = subst (λ w. IsTree k (Maybe n) w e) (sym h) (subst (λ w. IsTree k (Maybe n) [] w) (sym q) absent)

    down : (j : Room) (z r : List Sign) (e : Tree) → IsTree j (Maybe n) z e → look (z ++ r) ≡ look (signs old) → Ended (Group []) j z e
    down j z r e absent next = (refl, refl)
    down j z r e (present h) next = elim (tree_leads h) [
      | inl e ↦ impossible (sym solid ∙ e.1)
      | inr g ↦ impossible (sym ended ∙ sym (ap (begins n) next) ∙ g r)
    ]

-- ---- the symbols of a row, after those so far

abbrev pub RowFrom : List Tree → List Symbol → Kind (List Tree)
RowFrom all row k z e = (us : List Tree) × (e ≡ all ++ us) × IsRow k row z us

row_parts : (j : Room) (s : Symbol) (row : List Symbol) (all : List Tree) (z : List Sign) (e us : List Tree) → e ≡ all ++ us → IsRow j (s ∷ row) z us → (x y : List Sign) × (u : Tree) × (z ≡ x ++ y) × IsTree j s x u × RowFrom (all ++ u ∷ []) row j y e
row_parts j s row all z e us q (part {x = x} {y = y} {u = u} {us = vs} h m) = (x, y, u, refl, h, (vs, q ∙ sym (append_assoc all (u ∷ []) vs), m))

-- no token that stands behind a row continues what is left of it
pub record Tail (c : Class → Bool) (row : List Symbol) : Type 0 where
  pub stops : (d : Class) → c d ≡ false → row_continues row d ≡ false
  pub clear : (d : Class) → is_clear row d ≡ true
  pub sound : (d : Class) → are_sound row d ≡ true

pub tail_of : (c : Class → Bool) (s : Symbol) (row : List Symbol) → Tail c (s ∷ row) → Tail c row
tail_of c s row t = record {
  stops = λ d h. (or_false (row_continues row d) (are_empty row && continues s d) (t.stops d h)).0;
  clear = λ d. (both (not (continues s d && row_starts row d)) (is_clear row d) (t.clear d)).1;
  sound = λ d. (both (is_sound s d) (are_sound row d) (t.sound d)).1;
}

and_false : (a b : Bool) → a && b ≡ false → a ≡ true → b ≡ false
and_false true b h k = h
and_false false b h k = impossible k

module _ (whole : List Symbol) (k : Room) (c : Class → Bool) where
  pub row_start : (old : List Token) → Along (Rows whole) k c old old (RowFrom [] whole)
  row_start old = decide (Rows whole) k c (Rows whole) (RowFrom [] whole) old old (begin (Rows whole) k c old) (λ z e m. subst (λ q. IsRow k whole z q) (sym m.1) m.2) (λ j z r e m s next. (e, refl, m))

  pub row_ends : (old mid : List Token) (all : List Tree) → Along (Rows whole) k c old mid (RowFrom all []) → Along (Rows whole) k c old mid (Ended all)
  row_ends old mid all s = decide (Rows whole) k c (RowFrom all []) (Ended all) old mid s up (λ j z r e m stop next. down j z e m.0 m.1 m.2)
    where
      up : (z : List Sign) (e : List Tree) → Ended all k z e → RowFrom all [] k z e
      up z e (h, q) = ([], q ∙ sym (nil-append all), subst (λ w. IsRow k [] w []) (sym h) done)

      down : (j : Room) (z : List Sign) (e us : List Tree) → e ≡ all ++ us → IsRow j [] z us → Ended all j z e
      down j z e us q done = (refl, q ∙ nil-append all)

  row_from : (all : List Tree) (s : Symbol) (row : List Symbol) → Tail c (s ∷ row) → Sequence k c (RowFrom all (s ∷ row)) (Trees s) (continues s) (λ u. RowFrom (all ++ u ∷ []) row)
  row_from all s row t = record {
    join = λ x y u e h m. (u ∷ m.0, m.1 ∙ append_assoc all (u ∷ []) m.0, part h m.2);
    parts = λ j z e m. row_parts j s row all z e m.0 m.1 m.2;
    follow = λ j v r u e m stop. elim (row_leads m.2) [
      | inl h ↦ subst (λ w. continues s (look (w ++ r)) ≡ false) (sym h.0) (and_false (are_empty row) (continues s (look r)) (or_false (row_continues row (look r)) (are_empty row && continues s (look r)) (t.stops (look r) stop)).1 h.1)
      | inr g ↦ not_both (continues s (look (v ++ r))) (row_starts row (look (v ++ r))) (both (not (continues s (look (v ++ r)) && row_starts row (look (v ++ r)))) (is_clear row (look (v ++ r))) (t.clear (look (v ++ r)))).0 (g r)
    ];
  }

  pub row_more : (old mid new : List Token) (all : List Tree) (s : Symbol) (row : List Symbol) (u : Tree) → Tail c (s ∷ row) → Along (Rows whole) k c old mid (RowFrom all (s ∷ row)) → Along (Trees s) k (continues s) mid new (Ended u) → Along (Rows whole) k c old new (RowFrom (all ++ u ∷ []) row)
  row_more old mid new all s row u t a b = phrase_read (Rows whole) (RowFrom all (s ∷ row)) k c (Trees s) (continues s) (λ v. RowFrom (all ++ v ∷ []) row) (row_from all s row t) old mid new a u b

  pub row_fails : (old mid new : List Token) (all : List Tree) (s : Symbol) (row : List Symbol) (f : Stop) → Tail c (s ∷ row) → Along (Rows whole) k c old mid (RowFrom all (s ∷ row)) → Outcome (Trees s) k (continues s) mid new (Err f) → Outcome (Rows whole) k c old new (Err f)
  row_fails old mid new all s row f t a b =
      let x = ex_row k row class.End ((tail_of c s row t).sound class.End) in
      phrase_fails (Rows whole) (RowFrom all (s ∷ row)) k c (Trees s) (continues s) (λ v. RowFrom (all ++ v ∷ []) row) (row_from all s row t) old mid new a f b (λ u. (x.0, (all ++ u ∷ []) ++ x.1, (x.1, refl, x.2)))

-- ---- where a row of a form is read

pub whole_tail : (f : Form) → Tail (row_continues (row_of f)) (row_of f)
whole_tail f = record { stops = λ d h. h; clear = clear f; sound = sound f }

pub tail_at : (c : Class → Bool) (row : List Symbol) (i : ℕ) → Tail c row → Tail c (drop i row)
tail_at c row zero t = t
tail_at c [] (suc i) t = t
tail_at c (s ∷ row) (suc i) t = tail_at c row i (tail_of c s row t)

pub cut_at : (row : List Symbol) (i : ℕ) (d : Symbol) → i < length row → drop i row ≡ slice_index_or row i d ∷ drop (i + 1) row
cut_at [] i d h = absurd (omega arith)
cut_at (s ∷ row) zero d h = refl
cut_at (s ∷ row) (suc i) d h = cut_at row i d (omega arith) ∙ ap (λ m. slice_index_or row i d ∷ drop m (s ∷ row)) (let e : suc (i + 1) ≡ suc i + 1 = omega arith in e)

pub at_end : (row : List Symbol) (i : ℕ) → length row ≤ i → drop i row ≡ []
at_end [] zero h = refl
at_end [] (suc i) h = refl
at_end (s ∷ row) zero h = absurd (omega arith)
at_end (s ∷ row) (suc i) h = at_end row i (omega arith)

pub weight_at : (row : List Symbol) (i : ℕ) (d : Symbol) → i < length row → weight (slice_index_or row i d) ≤ row_weight row
weight_at [] i d h = absurd (omega arith)
weight_at (s ∷ row) zero d h = omega arith
weight_at (s ∷ row) (suc i) d h = omega (arith, weight_at row i d (omega arith))

pub sound_at : (row : List Symbol) (i : ℕ) (d : Symbol) (c : Class) → i < length row → are_sound row c ≡ true → is_sound (slice_index_or row i d) c ≡ true
sound_at [] i d c h k = absurd (omega arith)
sound_at (s ∷ row) zero d c h k = (both (is_sound s c) (are_sound row c) k).0
sound_at (s ∷ row) (suc i) d c h k = sound_at row i d c (omega arith) (both (is_sound s c) (are_sound row c) k).1

-- what a sound symbol says

pub word_not_end : (k : Class) → not (same_class k class.End) ≡ true → k ≢ class.End
word_not_end k h is = impossible (sym (ap (λ c. not (same_class c class.End)) is) ∙ h)

pub solid_many : (n : Phrase) → ((c : Class) → is_sound (Many n) c ≡ true) → is_nullable n ≡ false
solid_many n h = not_true (is_nullable n) (both (not (is_nullable n)) (not (goes_on n class.End && begins n class.End)) (h class.End)).0

pub apart_many : (n : Phrase) → ((c : Class) → is_sound (Many n) c ≡ true) → (c : Class) → not (goes_on n c && begins n c) ≡ true
apart_many n h c = (both (not (is_nullable n)) (not (goes_on n c && begins n c)) (h c)).1

pub stops_many : (n : Phrase) (d : Class) → continues (Many n) d ≡ false → (begins n d ≡ false) × (goes_on n d ≡ false)
stops_many n d h = or_false (begins n d) (goes_on n d) h

-- a phrase that isn't empty takes a token
pub phrase_takes : (k : Room) (n : Phrase) (old new : List Token) (u : Tree) → is_nullable n ≡ false → Along (Trees (One n)) k (goes_on n) old new (Ended u) → length new < length old
phrase_takes k n old new u solid a = takes a.taken a.split (a.reached.build [] u (refl, refl))
  where
    takes : (taken : List Token) → old ≡ taken ++ new → IsTree k (One n) (signs taken ++ []) u → length new < length old
    takes [] split h = impossible (sym solid ∙ no_token h refl)
    takes (t ∷ taken) split h = let l : length (taken ++ new) ≡ length taken + length new = length-append taken new in let m : length old ≡ suc (length (taken ++ new)) = ap length split in omega arith
