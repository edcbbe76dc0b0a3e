-- A phrase begins with a token that begins it, or has none.
use Rattle.std.proofs.Common.{◌≡◌, Bool, true, false, ◌||◌, ◌&&◌, List, [], ◌∷◌, ◌++◌, Some, refl, sym, ap, ◌∙◌, subst, append_assoc, ◌⊎◌, inl, inr, is_some}
use Rattle.fin_parse.specs.declared.class.Class.{Class}
use Rattle.fin_parse.specs.declared.grammar.Phrase.{Phrase}
use Rattle.fin_parse.specs.declared.grammar.Symbol.{Symbol}
use Rattle.fin_parse.specs.declared.tree.Tree.{Tree}
use Rattle.fin_parse.specs.declared.tree.Room.{Room}
use Rattle.fin_parse.specs.Classes.{class_at}
use Rattle.fin_parse.specs.Grammar.{form_at}
use Rattle.fin_parse.specs.Choices.{begins, is_nullable, may_open, is_empty, are_empty, starts, row_starts, same_class}
use Rattle.fin_parse.specs.Syntax.{Sign, look, IsTree, word, one, many, absent, present, deeper, too_deep, in_loop, too_many_loops, IsRow, done, part, IsGroup, none, more}
use Rattle.fin_parse.proofs.Table.{impossible, chosen, nullable, same_self}

pub or_left : (a b : Bool) → a ≡ true → a || b ≡ true
or_left true b h = refl
or_left false b h = impossible h

pub or_right : (a b : Bool) → b ≡ true → a || b ≡ true
or_right true b h = refl
or_right false b h = h

pub and_both : (a b : Bool) → a ≡ true → b ≡ true → a && b ≡ true
and_both true b h k = k
and_both false b h k = impossible h

pub or_false : (a b : Bool) → a || b ≡ false → (a ≡ false) × (b ≡ false)
or_false true b h = impossible (sym h)
or_false false b h = (refl, h)

abbrev pub Leads : List Sign → Bool → (Class → Bool) → Type 0
Leads x e b = ((x ≡ []) × (e ≡ true)) ⊎ ((r : List Sign) → b (look (x ++ r)) ≡ true)

-- the second of two parts, where the first has no token
second : (x y : List Sign) (b : Class → Bool) → x ≡ [] → ((r : List Sign) → b (look (y ++ r)) ≡ true) → (r : List Sign) → b (look ((x ++ y) ++ r)) ≡ true
second x y b h g r = subst (λ w. b (look ((w ++ y) ++ r)) ≡ true) (sym h) (g r)

-- the first of two parts
first_of_two : (x y : List Sign) (b : Class → Bool) → ((r : List Sign) → b (look (x ++ r)) ≡ true) → (r : List Sign) → b (look ((x ++ y) ++ r)) ≡ true
first_of_two x y b g r = subst (λ w. b (look w) ≡ true) (sym (append_assoc x y r)) (g (y ++ r))

no_parts : (x y : List Sign) → x ≡ [] → y ≡ [] → x ++ y ≡ []
no_parts x y h k = ap (λ w. w ++ y) h ∙ k

mutual
  pub tree_leads : {k : Room} {s : Symbol} {x : List Sign} {u : Tree} → IsTree k s x u → Leads x (is_empty s) (starts s)
  tree_leads (word {c = c} {t = t} q) = inr (λ r. subst (λ d. same_class c d ≡ true) (sym q) (same_self c))
  tree_leads (one {n = n} {x = x} f q h) = elim (row_leads h) [
    | inl e ↦ inl (e.0, subst (λ m. is_nullable m ≡ true) q (nullable f e.1))
    | inr g ↦ inr (λ r. ap is_some (subst (λ m. form_at m (look (x ++ r)) ≡ Some f) q (chosen f (look (x ++ r)) (g r))))
  ]
  tree_leads (many h) = group_leads h
  tree_leads absent = inl (refl, refl)
  tree_leads (present h) = elim (tree_leads h) [ inl e ↦ inl (e.0, refl) | inr g ↦ inr g ]
  tree_leads (deeper {n = n} {x = x} p h) = elim (tree_leads h) [
    | inl e ↦ inl e
    | inr g ↦ inr (λ r. or_left (begins n (look (x ++ r))) (may_open n (look (x ++ r))) (g r))
  ]
  tree_leads (too_deep {n = n} {o = o} p m) = inr (λ r. or_right (begins n (class_at o)) (may_open n (class_at o)) m)
  tree_leads (in_loop {n = n} {x = x} p h) = elim (tree_leads h) [
    | inl e ↦ inl e
    | inr g ↦ inr (λ r. or_left (begins n (look (x ++ r))) (may_open n (look (x ++ r))) (g r))
  ]
  tree_leads (too_many_loops {n = n} {o = o} p m) = inr (λ r. or_right (begins n (class_at o)) (may_open n (class_at o)) m)

  pub row_leads : {k : Room} {row : List Symbol} {x : List Sign} {us : List Tree} → IsRow k row x us → Leads x (are_empty row) (row_starts row)
  row_leads done = inl (refl, refl)
  row_leads (part {s = s} {row = row} {x = x} {y = y} h m) = elim (tree_leads h) [
    | inl e ↦ elim (row_leads m) [
      | inl f ↦ inl (no_parts x y e.0 f.0, and_both (is_empty s) (are_empty row) e.1 f.1)
      | inr g ↦ inr (second x y (row_starts (s ∷ row)) e.0 (λ r. or_right (starts s (look (y ++ r))) (is_empty s && row_starts row (look (y ++ r))) (and_both (is_empty s) (row_starts row (look (y ++ r))) e.1 (g r))))
    ]
    | inr g ↦ inr (first_of_two x y (row_starts (s ∷ row)) (λ r. or_left (starts s (look (x ++ r))) (is_empty s && row_starts row (look (x ++ r))) (g r)))
  ]

  pub group_leads : {k : Room} {n : Phrase} {x : List Sign} {us : List Tree} → IsGroup k n x us → Leads x true (begins n)
  group_leads none = inl (refl, refl)
  group_leads (more {n = n} {x = x} {y = y} h m) = elim (tree_leads h) [
    | inl e ↦ elim (group_leads m) [
      | inl f ↦ inl (no_parts x y e.0 f.0, refl)
      | inr g ↦ inr (second x y (begins n) e.0 g)
    ]
    | inr g ↦ inr (first_of_two x y (begins n) g)
  ]

-- ---- what has no token

nil_first : (x y : List Sign) → x ++ y ≡ [] → x ≡ []
nil_first [] y h = refl
nil_first (t ∷ x) y h = cc

nil_second : (x y : List Sign) → x ++ y ≡ [] → y ≡ []
nil_second [] y h = h
nil_second (t ∷ x) y h = cc

mutual
  pub no_token : {k : Room} {s : Symbol} {x : List Sign} {u : Tree} → IsTree k s x u → x ≡ [] → is_empty s ≡ true
  no_token (word q) e = cc
  no_token (one {n = n} f q h) e = subst (λ m. is_nullable m ≡ true) q (nullable f (no_tokens h e))
  no_token (many h) e = refl
  no_token absent e = refl
  no_token (present h) e = refl
  no_token (deeper p h) e = no_token h e
  no_token (too_deep p m) e = cc
  no_token (in_loop p h) e = no_token h e
  no_token (too_many_loops p m) e = cc

  pub no_tokens : {k : Room} {row : List Symbol} {x : List Sign} {us : List Tree} → IsRow k row x us → x ≡ [] → are_empty row ≡ true
  no_tokens done e = refl
  no_tokens (part {s = s} {row = row} {x = x} {y = y} h m) e = and_both (is_empty s) (are_empty row) (no_token h (nil_first x y e)) (no_tokens m (nil_second x y e))
