-- As many indices are made as the rules on names count.
use Rattle.std.proofs.Common.{◌≡◌, ℕ, ◌+◌, ◌≤◌, min, Bool, true, false, List, [], ◌∷◌, ◌++◌, map, length, length-append, Option, Some, None, unwrap_or, zero, suc, refl, sym, ap, ◌∙◌, subst, arith}
use Rattle.std.specs.Prelude.{is_some}
use Rattle.std.specs.List.{fold, flat_map}
use Rattle.fin_lex.specs.declared.token.Token.{Token}
use Rattle.fin_ast.specs.declared.tree.Index.{Index}
use Rattle.fin_parse.specs.declared.grammar.Form.{Form}
use Rattle.fin_parse.specs.declared.roles.Counting.{Counting}
use Rattle.fin_parse.specs.declared.roles.Counting.TheVariants.{Never, Second, Single, Sum}
use Rattle.fin_parse.specs.declared.tree.Tree.{Tree}
use Rattle.fin_parse.specs.declared.tree.Tree.TheVariants.{Leaf, Node, Group}
use Rattle.fin_parse.specs.declared.tree.Tree.TheOpen.{Tree-F}
use Rattle.fin_parse.specs.Roles.{counting_of}
use Rattle.fin_parse.specs.Names as names
use Rattle.fin_parse.specs.Names.{Facts, facts_of, facts_step, plus, counted, part_at, form_count, group_count}
use Rattle.fin_parse.specs.Elaboration.{Elaboration, Naming, elaboration_of, elaboration_step, part, nothing, indices_in, indices_at, indexed_at, is_group}
use Rattle.fin_parse.proofs.Nodes.{of_leaf, of_group, of_node, All, tree_ind}

abbrev pub capped : ℕ → ℕ
capped n = min n 18446744073709551615

-- both count, and the same
pub record Counts (f : Facts) (e : Elaboration) : Type 0 where
  pub there : is_some f.count ≡ e.indexed
  pub count : (s : Naming) → unwrap_or f.count 0 ≡ capped (length (e.indices s))

nothing_counts : Counts names.nothing nothing
nothing_counts = record { there = refl; count = λ s. refl }

module _ (text : List ℕ) where
  abbrev facts : Tree → Facts
  facts = facts_of text

  abbrev elaboration : Tree → Elaboration
  elaboration = elaboration_of text

  abbrev pub IsCounted : Tree → Type 0
  IsCounted t = Counts (facts t) (elaboration t)

  pub part_counts : (us : List Tree) → All IsCounted us → (i : ℕ) → Counts (part_at (map facts us) i) (part (map elaboration us) i)
  part_counts [] h i = nothing_counts
  part_counts (u ∷ us) h zero = h.0
  part_counts (u ∷ us) h (suc i) = part_counts us h.1 i

  capped_sum : (a b c d : ℕ) → a ≡ capped b → c ≡ capped d → plus a c ≡ capped (b + d)
  capped_sum a b c d h k = omega (arith, h, k)

  sum_from : (us : List Tree) (s : Naming) (n m : ℕ) → All IsCounted us → n ≡ capped m → fold (λ n (u : Facts). plus n (unwrap_or u.count 0)) n (map facts us) ≡ capped (m + length (indices_in text (map elaboration us) s))
  sum_from [] s n m h k = k ∙ ap capped (let e : m ≡ m + 0 = omega arith in e)
  sum_from (u ∷ us) s n m h k =
      let r = sum_from us s (plus n (unwrap_or (facts u).count 0)) (m + length ((elaboration u).indices s)) h.1 (capped_sum n m (unwrap_or (facts u).count 0) (length ((elaboration u).indices s)) k (h.0.count s)) in
      let l = length-append ((elaboration u).indices s) (indices_in text (map elaboration us) s) in
      r ∙ ap capped (let e : m + length ((elaboration u).indices s) + length (indices_in text (map elaboration us) s) ≡ m + length ((elaboration u).indices s ++ indices_in text (map elaboration us) s) = omega (arith, l) in e)

  sum_counts : (us : List Tree) → All IsCounted us → (s : Naming) → counted (map facts us) ≡ capped (length (indices_in text (map elaboration us) s))
  sum_counts us h s = sum_from us s 0 0 h refl ∙ ap capped (let e : 0 + length (indices_in text (map elaboration us) s) ≡ length (indices_in text (map elaboration us) s) = omega arith in e)

  leaf : (t : Token) → IsCounted (Leaf t)
  leaf t = subst (λ (e : Elaboration). Counts (facts (Leaf t)) e) (sym (of_leaf Elaboration (elaboration_step text) t)) (subst (λ (f : Facts). Counts f (elaboration_step text (Tree-F.Leaf t))) (sym (of_leaf Facts (facts_step text) t)) (record { there = refl; count = λ s. refl }))

  group_counts : (us : List Tree) → All IsCounted us → Counts (facts_step text (Tree-F.Group (map facts us))) (elaboration_step text (Tree-F.Group (map elaboration us)))
  group_counts [] h = record { there = refl; count = λ s. refl }
  group_counts (u ∷ us) h = record { there = refl; count = sum_counts (u ∷ us) h }

  group : (us : List Tree) → All IsCounted us → IsCounted (Group us)
  group us h = subst (λ (e : Elaboration). Counts (facts (Group us)) e) (sym (of_group Elaboration (elaboration_step text) us)) (subst (λ (f : Facts). Counts f (elaboration_step text (Tree-F.Group (map elaboration us)))) (sym (of_group Facts (facts_step text) us)) (group_counts us h))

  there_at : (c : Counting) (us : List Tree) → All IsCounted us → is_some (form_count c (map facts us)) ≡ indexed_at text c (map elaboration us)
  there_at Never us h = refl
  there_at Second us h = (part_counts us h 1).there
  there_at Single us h = refl
  there_at Sum us h = refl

  count_at : (f : Form) (c : Counting) (us : List Tree) (s : Naming) → All IsCounted us → unwrap_or (form_count c (map facts us)) 0 ≡ capped (length (indices_at text f c (map elaboration us) s))
  count_at f Never us s h = refl
  count_at f Second us s h = (part_counts us h 1).count s
  count_at f Single us s h = refl
  count_at f Sum us s h = sum_counts us h s

  node : (f : Form) (us : List Tree) → All IsCounted us → IsCounted (Node f us)
  node f us h = subst (λ (e : Elaboration). Counts (facts (Node f us)) e) (sym (of_node Elaboration (elaboration_step text) f us)) (subst (λ (g : Facts). Counts g (elaboration_step text (Tree-F.Node f (map elaboration us)))) (sym (of_node Facts (facts_step text) f us)) (record { there = there_at (counting_of f) us h; count = λ s. count_at f (counting_of f) us s h }))

  pub counts : (t : Tree) → IsCounted t
  counts = tree_ind IsCounted leaf group node
