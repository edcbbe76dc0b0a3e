-- Chains of ties: they go on, they go back, and more ties keep them.
use Rattle.std.proofs.Common.{◌≡◌, inl, inr, ℕ, List, [], ◌∷◌, ◌++◌, refl, sym, ap, ◌∙◌, subst}
use Rattle.std.specs.Prelude.{Contains}
use Rattle.fin_ast.specs.declared.place.Tie.{Tie}
use Rattle.fin_ast.specs.Ties.{Node, Dimension, OfLoop, AreTied, IsChain, AreJoined, Shapes, HasExtent, IsUneven}

pub joined_itself : (ties : List Tie) (a : Node) → AreJoined ties a a
joined_itself ties a = ([], refl)

chain-append : (ties : List Tie) (a b c : Node) (p q : List Node) → IsChain ties a p b → IsChain ties b q c → IsChain ties a (p ++ q) c
chain-append ties a b c [] q e h = subst (λ (x : Node). IsChain ties x q c) (sym e) h
chain-append ties a b c (x ∷ p) q h k = (h.0, chain-append ties x b c p q h.1 k)

pub joined_on : (ties : List Tie) (a b c : Node) → AreJoined ties a b → AreJoined ties b c → AreJoined ties a c
joined_on ties a b c h k = (h.0 ++ k.0, chain-append ties a b c h.0 k.0 h.1 k.1)

tied_back : (ties : List Tie) (a b : Node) → AreTied ties a b → AreTied ties b a
tied_back ties a b h = (h.0, h.1, elim h.2 [ inl e ↦ inr (e.1, e.0) | inr e ↦ inl (e.1, e.0) ])

chain_back : (ties : List Tie) (a b : Node) (p : List Node) → IsChain ties a p b → AreJoined ties b a
chain_back ties a b [] e = ([], sym e)
chain_back ties a b (c ∷ p) h = joined_on ties b c a (chain_back ties c b p h.1) (a ∷ [], (tied_back ties a c h.0, refl))

pub joined_back : (ties : List Tie) (a b : Node) → AreJoined ties a b → AreJoined ties b a
joined_back ties a b h = chain_back ties a b h.0 h.1

pub joined_by : (ties : List Tie) (t : Tie) → Contains ties t → AreJoined ties (Dimension t.dimension) (OfLoop t.var)
joined_by ties t h = (OfLoop t.var ∷ [], ((t, h, inl (refl, refl)), refl))

abbrev pub IsWithin : List Tie → List Tie → Type 0
IsWithin ties more = (t : Tie) → Contains ties t → Contains more t

chain_stays : (ties more : List Tie) → IsWithin ties more → (a b : Node) (p : List Node) → IsChain ties a p b → IsChain more a p b
chain_stays ties more w a b [] e = e
chain_stays ties more w a b (c ∷ p) h = ((h.0.0, w h.0.0 h.0.1, h.0.2), chain_stays ties more w c b p h.1)

pub joined_stays : (ties more : List Tie) → IsWithin ties more → (a b : Node) → AreJoined ties a b → AreJoined more a b
joined_stays ties more w a b h = (h.0, chain_stays ties more w a b h.0 h.1)

pub extent_stays : (shapes : Shapes) (ties more : List Tie) → IsWithin ties more → (a : Node) (n : ℕ) → HasExtent shapes ties a n → HasExtent shapes more a n
extent_stays shapes ties more w a n h = (h.0, h.1, joined_stays ties more w a (Dimension h.0) h.2)

pub extent_along : (shapes : Shapes) (ties : List Tie) (a b : Node) (n : ℕ) → AreJoined ties a b → HasExtent shapes ties b n → HasExtent shapes ties a n
extent_along shapes ties a b n j h = (h.0, h.1, joined_on ties a b (Dimension h.0) j h.2)

pub uneven_stays : (shapes : Shapes) (ties more : List Tie) → IsWithin ties more → IsUneven shapes ties → IsUneven shapes more
uneven_stays shapes ties more w u = record {
  first = u.first;
  second = u.second;
  number = u.number;
  other = u.other;
  first_known = u.first_known;
  second_known = u.second_known;
  differ = u.differ;
  joined = joined_stays ties more w (Dimension u.first) (Dimension u.second) u.joined;
}

-- what each tie keeps, each chain keeps
module _ {X : Type 0} (f : Node → X) (ties : List Tie) (kept : (t : Tie) → Contains ties t → f (Dimension t.dimension) ≡ f (OfLoop t.var)) where
  tied_alike : (a b : Node) → AreTied ties a b → f a ≡ f b
  tied_alike a b h = elim h.2 [
    | inl e ↦ ap f e.0 ∙ kept h.0 h.1 ∙ sym (ap f e.1)
    | inr e ↦ ap f e.0 ∙ sym (kept h.0 h.1) ∙ sym (ap f e.1)
  ]

  chain_alike : (a b : Node) (p : List Node) → IsChain ties a p b → f a ≡ f b
  chain_alike a b [] e = ap f e
  chain_alike a b (c ∷ p) h = tied_alike a c h.0 ∙ chain_alike c b p h.1

  pub joined_alike : (a b : Node) → AreJoined ties a b → f a ≡ f b
  joined_alike a b h = chain_alike a b h.0 h.1
