-- What a fold over trees gives for each kind of tree.
use Rattle.std.proofs.Common.{◌≡◌, List, [], ◌∷◌, map, sym, ap, ◌∙◌, subst}
use Rattle.fin_parse.specs.declared.grammar.Form.{Form}
use Rattle.fin_parse.specs.declared.tree.Tree.{Tree, fold-Tree, fold-roll-Tree, ind-Tree, map-Tree, roll-Tree}
use Rattle.fin_parse.specs.declared.tree.Tree.TheVariants.{Leaf, Node, Group, rolls-Leaf, rolls-Node, rolls-Group}
use Rattle.fin_parse.specs.declared.tree.Tree.TheOpen.{Tree-F}
use Rattle.fin_lex.specs.declared.token.Token.{Token}

module _ (A : Type 0) (step : Tree-F A → A) where
  pub of_leaf : (t : Token) → fold-Tree A step (Leaf t) ≡ step (Tree-F.Leaf t)
  of_leaf t = ap (fold-Tree A step) (sym (rolls-Leaf t)) ∙ fold-roll-Tree A step (Tree-F.Leaf t)

  pub of_group : (us : List Tree) → fold-Tree A step (Group us) ≡ step (Tree-F.Group (map (fold-Tree A step) us))
  of_group us = ap (fold-Tree A step) (sym (rolls-Group us)) ∙ fold-roll-Tree A step (Tree-F.Group us)

  pub of_node : (f : Form) (us : List Tree) → fold-Tree A step (Node f us) ≡ step (Tree-F.Node f (map (fold-Tree A step) us))
  of_node f us = ap (fold-Tree A step) (sym (rolls-Node f us)) ∙ fold-roll-Tree A step (Tree-F.Node f us)

-- ---- induction over all trees

module _ (P : Tree → Type 0) where
  abbrev pub All : List Tree → Type 0
  All [] = Unit {0}
  All (u ∷ us) = P u × All us

  abbrev Held : Type 0
  Held = (t : Tree) × P t

  all_held : (us : List Held) → All (map (λ (u : Held). u.0) us)
  all_held [] = tt
  all_held (u ∷ us) = (u.1, all_held us)

  module _ (leaf : (t : Token) → P (Leaf t)) (group : (us : List Tree) → All us → P (Group us)) (node : (f : Form) (us : List Tree) → All us → P (Node f us)) where
    on : (y : Tree-F Held) → P (roll-Tree (map-Tree Held Tree (λ (u : Held). u.0) y))
    on (Tree-F.Leaf t) = subst P (sym (rolls-Leaf t)) (leaf t)
    on (Tree-F.Group us) = subst P (sym (rolls-Group (map (λ (u : Held). u.0) us))) (group (map (λ (u : Held). u.0) us) (all_held us))
    on (Tree-F.Node f us) = subst P (sym (rolls-Node f (map (λ (u : Held). u.0) us))) (node f (map (λ (u : Held). u.0) us) (all_held us))

    pub tree_ind : (t : Tree) → P t
    tree_ind = ind-Tree P (λ z y is. subst (λ (w : Tree-F Tree). P (roll-Tree w)) is (on y))
