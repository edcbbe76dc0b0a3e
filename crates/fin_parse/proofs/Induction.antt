-- Induction over the trees of the grammar: what each phrase keeps where its parts do.
use Rattle.std.proofs.Common.{◌≡◌, ◌<◌, ◌⊎◌, inl, inr, List, [], ◌∷◌, ◌++◌, refl, sym, ap, ◌∙◌, subst}
use Rattle.fin_lex.specs.declared.token.Token.{Token}
use Rattle.fin_parse.specs.declared.class.Class.{Class}
use Rattle.fin_parse.specs.declared.grammar.Phrase.{Phrase}
use Rattle.fin_parse.specs.declared.grammar.Form.{Form}
use Rattle.fin_parse.specs.declared.grammar.Symbol.{Symbol}
use Rattle.fin_parse.specs.declared.grammar.Symbol.TheVariants.{Word, One, Many, Maybe, Deeper, InLoop}
use Rattle.fin_parse.specs.declared.tree.Tree.{Tree}
use Rattle.fin_parse.specs.declared.tree.Tree.TheVariants.{Leaf, Node, Group}
use Rattle.fin_parse.specs.declared.tree.Room.{Room}
use Rattle.fin_parse.specs.Classes.{class_of}
use Rattle.fin_parse.specs.Grammar.{phrase_of, row_of}
use Rattle.fin_parse.specs.Syntax.{Sign, real, beyond, signs, lower, entered, IsTree, word, one, many, absent, present, deeper, too_deep, in_loop, too_many_loops, IsRow, done, part, IsGroup, none, more}

-- tokens alone
abbrev pub AreReal : List Sign → Type 0
AreReal [] = Unit {0}
AreReal (real t ∷ z) = AreReal z
AreReal (beyond o ∷ z) = ⊥

first_real : (x y : List Sign) → AreReal (x ++ y) → AreReal x
first_real [] y h = tt
first_real (real t ∷ x) y h = first_real x y h
first_real (beyond o ∷ x) y h = h

second_real : (x y : List Sign) → AreReal (x ++ y) → AreReal y
second_real [] y h = h
second_real (real t ∷ x) y h = second_real x y h
second_real (beyond o ∷ x) y h = absurd h

pub tokens_real : (ts : List Token) → AreReal (signs ts)
tokens_real [] = tt
tokens_real (t ∷ ts) = tokens_real ts

module _ (P : Room → Phrase → List Sign → Tree → Type 0) where
  -- phrases one after another
  abbrev pub Each : Room → Phrase → List Sign → List Tree → Type 0
  Each k n x [] = x ≡ []
  Each k n x (u ∷ us) = (y z : List Sign) × (x ≡ y ++ z) × P k n y u × Each k n z us

  -- a part of a form
  abbrev pub Kept : Room → Symbol → List Sign → Tree → Type 0
  Kept k (Word c) x u = (t : Token) × (x ≡ real t ∷ []) × (u ≡ Leaf t) × (class_of t.kind ≡ c)
  Kept k (One n) x u = P k n x u
  Kept k (Many n) x u = (us : List Tree) × (u ≡ Group us) × Each k n x us
  Kept k (Maybe n) x u = ((x ≡ []) × (u ≡ Group [])) ⊎ ((v : Tree) × (u ≡ Group (v ∷ [])) × P k n x v)
  Kept k (Deeper n) x u = (0 < k.levels) × P (lower k) n x u
  Kept k (InLoop n) x u = (0 < k.loops) × P (entered k) n x u

  -- the parts of a form
  abbrev pub Parts : Room → List Symbol → List Sign → List Tree → Type 0
  Parts k [] x us = (x ≡ []) × (us ≡ [])
  Parts k (s ∷ row) x us = (y z : List Sign) × (u : Tree) × (vs : List Tree) × (x ≡ y ++ z) × (us ≡ u ∷ vs) × Kept k s y u × Parts k row z vs

  -- ---- the parts of a form, one by one
  module _ (k : Room) (x : List Sign) (us : List Tree) (Q : List Tree → Type 0) where
    pub at1 : (a : Symbol) → Parts k (a ∷ []) x us → ((p : List Sign) (u : Tree) → x ≡ p ++ [] → Kept k a p u → Q (u ∷ [])) → Q us
    at1 a (p, q, u, vs, e, d, h, (e', d')) next =
        subst Q (sym (d ∙ ap (λ w. u ∷ w) d')) (next p u (e ∙ ap (λ w. p ++ w) e') h)

    pub at2 : (a b : Symbol) → Parts k (a ∷ b ∷ []) x us → ((p q : List Sign) (u v : Tree) → x ≡ p ++ (q ++ []) → Kept k a p u → Kept k b q v → Q (u ∷ v ∷ [])) → Q us
    at2 a b (p, p', u, us', e, d, h, (q, q', v, vs', e1, d1, h1, (e2, d2))) next =
        subst Q (sym (d ∙ ap (λ w. u ∷ w) (d1 ∙ ap (λ w. v ∷ w) d2))) (next p q u v (e ∙ ap (λ w. p ++ w) (e1 ∙ ap (λ w. q ++ w) e2)) h h1)

    pub at3 : (a b c : Symbol) → Parts k (a ∷ b ∷ c ∷ []) x us → ((p q r : List Sign) (u v w : Tree) → x ≡ p ++ (q ++ (r ++ [])) → Kept k a p u → Kept k b q v → Kept k c r w → Q (u ∷ v ∷ w ∷ [])) → Q us
    at3 a b c (p, p', u, us', e, d, h, (q, q', v, vs', e1, d1, h1, (r, r', w, ws', e2, d2, h2, (e3, d3)))) next =
        subst Q (sym (d ∙ ap (λ t. u ∷ t) (d1 ∙ ap (λ t. v ∷ t) (d2 ∙ ap (λ t. w ∷ t) d3)))) (next p q r u v w (e ∙ ap (λ t. p ++ t) (e1 ∙ ap (λ t. q ++ t) (e2 ∙ ap (λ t. r ++ t) e3))) h h1 h2)

    pub at4 : (a b c d : Symbol) → Parts k (a ∷ b ∷ c ∷ d ∷ []) x us → ((o p q r : List Sign) (t u v w : Tree) → x ≡ o ++ (p ++ (q ++ (r ++ []))) → Kept k a o t → Kept k b p u → Kept k c q v → Kept k d r w → Q (t ∷ u ∷ v ∷ w ∷ [])) → Q us
    at4 a b c d (o, o', t, ts', e0, d0, h0, (p, p', u, us', e1, d1, h1, (q, q', v, vs', e2, d2, h2, (r, r', w, ws', e3, d3, h3, (e4, d4))))) next =
        subst Q (sym (d0 ∙ ap (λ y. t ∷ y) (d1 ∙ ap (λ y. u ∷ y) (d2 ∙ ap (λ y. v ∷ y) (d3 ∙ ap (λ y. w ∷ y) d4))))) (next o p q r t u v w (e0 ∙ ap (λ y. o ++ y) (e1 ∙ ap (λ y. p ++ y) (e2 ∙ ap (λ y. q ++ y) (e3 ∙ ap (λ y. r ++ y) e4)))) h0 h1 h2 h3)

    pub at5 : (a b c d f : Symbol) → Parts k (a ∷ b ∷ c ∷ d ∷ f ∷ []) x us → ((n o p q r : List Sign) (s t u v w : Tree) → x ≡ n ++ (o ++ (p ++ (q ++ (r ++ [])))) → Kept k a n s → Kept k b o t → Kept k c p u → Kept k d q v → Kept k f r w → Q (s ∷ t ∷ u ∷ v ∷ w ∷ [])) → Q us
    at5 a b c d f (n, n', s, ss', e, d', h, (o, o', t, ts', e0, d0, h0, (p, p', u, us', e1, d1, h1, (q, q', v, vs', e2, d2, h2, (r, r', w, ws', e3, d3, h3, (e4, d4)))))) next =
        subst Q (sym (d' ∙ ap (λ y. s ∷ y) (d0 ∙ ap (λ y. t ∷ y) (d1 ∙ ap (λ y. u ∷ y) (d2 ∙ ap (λ y. v ∷ y) (d3 ∙ ap (λ y. w ∷ y) d4)))))) (next n o p q r s t u v w (e ∙ ap (λ y. n ++ y) (e0 ∙ ap (λ y. o ++ y) (e1 ∙ ap (λ y. p ++ y) (e2 ∙ ap (λ y. q ++ y) (e3 ∙ ap (λ y. r ++ y) e4))))) h h0 h1 h2 h3)

  module _ (step : (k : Room) (f : Form) (x : List Sign) (us : List Tree) → Parts k (row_of f) x us → P k (phrase_of f) x (Node f us)) where
    mutual
      kept : {k : Room} {s : Symbol} {x : List Sign} {u : Tree} → IsTree k s x u → AreReal x → Kept k s x u
      kept (word {t = t} h) r = (t, refl, refl, h)
      kept (one {k = k} {x = x} {us = us} f q h) r = subst (λ m. P k m x (Node f us)) q (step k f x us (parts h r))
      kept (many {us = us} h) r = (us, refl, each h r)
      kept absent r = inl (refl, refl)
      kept (present {u = u} h) r = inr (u, refl, kept h r)
      kept (deeper p h) r = (p, kept h r)
      kept (too_deep p m) r = absurd r
      kept (in_loop p h) r = (p, kept h r)
      kept (too_many_loops p m) r = absurd r

      parts : {k : Room} {row : List Symbol} {x : List Sign} {us : List Tree} → IsRow k row x us → AreReal x → Parts k row x us
      parts done r = (refl, refl)
      parts (part {x = x} {y = y} {u = u} {us = us} h g) r = (x, y, u, us, refl, refl, kept h (first_real x y r), parts g (second_real x y r))

      pub each : {k : Room} {n : Phrase} {x : List Sign} {us : List Tree} → IsGroup k n x us → AreReal x → Each k n x us
      each none r = refl
      each (more {x = x} {y = y} h g) r = (x, y, refl, kept h (first_real x y r), each g (second_real x y r))
