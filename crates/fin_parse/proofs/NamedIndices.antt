-- Indices whose names break no rule name loops around them.
use Rattle.std.proofs.Common.{◌≡◌, ℕ, suc, ℤ, pos, ◌==◌, not, Bool, true, false, ◌&&◌, ◌||◌, inl, inr, List, [], ◌∷◌, ◌++◌, map, Option, Some, None, refl, sym, ap, ◌∙◌, subst}
use Rattle.std.specs.Prelude.{if◌then◌else◌}
use Rattle.std.specs.List.{list_all, flat_map}
use Rattle.std.specs.Str.{bytes_eq}
use Rattle.std.proofs.lemmas.Bool.{eqb-true}
use Rattle.std.proofs.lemmas.List.Folds.{list_all-append}
use Rattle.std.proofs.lemmas.Slice.Eq.{bytes_eq-Decides}
use Rattle.fin_base.specs.declared.refusal.Refusal.{Refusal}
use Rattle.fin_ast.specs.declared.tree.Index.{Index}
use Rattle.fin_ast.specs.declared.tree.Expr.{Expr}
use Rattle.fin_ast.specs.Scope as ast
use Rattle.fin_ast.specs.Scope.{is_index, is_loop, is_among, differ, is_named_expr}
use Rattle.fin_lex.specs.declared.token.Token.{Token}
use Rattle.fin_parse.specs.declared.grammar.Phrase.{Phrase}
use Rattle.fin_parse.specs.declared.grammar.Phrase.TheVariants as phrase
use Rattle.fin_parse.specs.declared.grammar.Form.{Form}
use Rattle.fin_parse.specs.declared.grammar.Form.TheVariants as form
use Rattle.fin_parse.specs.declared.grammar.Symbol.TheVariants.{Many, Maybe}
use Rattle.fin_parse.specs.declared.roles.Counting.{Counting}
use Rattle.fin_parse.specs.declared.roles.Counting.TheVariants.{Single, Sum}
use Rattle.fin_parse.specs.declared.roles.Role.{Role}
use Rattle.fin_parse.specs.declared.roles.Role.TheVariants.{Operand, IndexName, LooseName, AddedName, Other}
use Rattle.fin_parse.specs.declared.scope.Bound.{Bound}
use Rattle.fin_parse.specs.declared.scope.Fill.{Fill}
use Rattle.fin_parse.specs.declared.naming.Variable.{Variable}
use Rattle.fin_parse.specs.declared.tree.Tree.{Tree}
use Rattle.fin_parse.specs.declared.tree.Tree.TheVariants.{Leaf, Node, Group}
use Rattle.fin_parse.specs.declared.tree.Tree.TheOpen.{Tree-F}
use Rattle.fin_parse.specs.declared.tree.Room.{Room}
use Rattle.fin_parse.specs.Names.{Facts, Scope, facts_of, facts_step, part_at, part_breaches, own_breaches, named_breaches, bound_named, loop_use, is_begun, is_same, text_at, scope_within, with_begun, breach}
use Rattle.fin_parse.specs.Roles.{role_of, counting_of}
use Rattle.fin_parse.specs.Syntax.{Sign}
use Rattle.fin_parse.specs.Elaboration.{Elaboration, Naming, elaboration_of, elaboration_step, named_value, index_at, behind_at, indices_at, indices_in, value_at, variable_number, number_of_variable, part, plain, loose}
use Rattle.fin_parse.proofs.Bounds.{AreBound, variable_named}
use Rattle.fin_parse.proofs.Counting.{counts}
use Rattle.fin_parse.proofs.Induction.{Each, Kept}
use Rattle.fin_parse.proofs.Keeping.{Context, Agrees, Valued, AreIndices, IsIndex, IsBehind, Keeps, Quiet, first_nil, second_nil, each_quiet, own_quiet, parts_quiet, still_quiet, other_quiet}
use Rattle.fin_parse.proofs.NamedTerms.{quiet_if, both_true, operand_is_named, valued}
use Rattle.fin_parse.proofs.Nodes.{of_leaf, of_group, of_node, All}

-- ---- names

module _ (text : List ℕ) (fills : List Fill) (c : Context) (g : Agrees text fills c) where
  used_loop : (name : Token) (b : Option Bound) → loop_use name b ≡ [] → (v : Bound) × (b ≡ Some v) × (v.is_loop ≡ true)
  used_loop name None h = cc
  used_loop name (Some v) h = (v, refl, quiet_if v.is_loop _ _ h)

  loop_named : (name : Token) → loop_use name (bound_named text c.scope.bound name) ≡ [] → (v : Variable) × (variable_named text c.naming.bound name ≡ Some v) × (is_among c.around.loops v.number ≡ true)
  loop_named name h =
      let (b, there, loop) = used_loop name (bound_named text c.scope.bound name) h in
      let (v, found, among, in_loops) = g.bound.used name b there in
      (v, found, in_loops loop)

  variable_is_loop : (name : Token) → loop_use name (bound_named text c.scope.bound name) ≡ [] → is_loop c.around (variable_number text c.naming (Some name)) ≡ true
  variable_is_loop name h =
      let (v, found, among) = loop_named name h in
      ap (λ (o : Option Variable). is_loop c.around (number_of_variable o)) found ∙ among

  one_index : (o : Option ℕ) → is_loop c.around o ≡ true → is_loop c.around o && true && differ o None ≡ true
  one_index None h = refl
  one_index (Some v) h = ap (λ b. b && true && differ (Some v) None) h

  differing : (a b : ℕ) → (a ≡ b → ⊥) → not (a == b) ≡ true
  differing a b h = test (a == b) (λ e. eqb-true a b e) where
    test : (is : Bool) → (is ≡ true → a ≡ b) → not is ≡ true
    test true f = absurd (h (f refl))
    test false f = refl

  two_indices : (first second : Token) → is_loop c.around (variable_number text c.naming (Some first)) ≡ true → loop_use second (bound_named text c.scope.bound second) ≡ [] → is_same text first second ≡ false
      → is_loop c.around (variable_number text c.naming (Some first)) && is_loop c.around (variable_number text c.naming (Some second)) && differ (variable_number text c.naming (Some first)) (variable_number text c.naming (Some second)) ≡ true
  two_indices first second h k other = pair (variable_named text c.naming.bound first) (variable_named text c.naming.bound second) refl refl h (variable_is_loop second k) where
    pair : (o p : Option Variable) → variable_named text c.naming.bound first ≡ o → variable_named text c.naming.bound second ≡ p → is_loop c.around (number_of_variable o) ≡ true → is_loop c.around (number_of_variable p) ≡ true
        → is_loop c.around (number_of_variable o) && is_loop c.around (number_of_variable p) && differ (number_of_variable o) (number_of_variable p) ≡ true
    pair None p i j a b = ap (λ d. true && d && differ None (number_of_variable p)) b
    pair (Some v) None i j a b = ap (λ b. b && true && differ (Some v.number) None) a
    pair (Some v) (Some w) i j a b =
        ap (λ d. d && is_among c.around.loops w.number && not (v.number == w.number)) a
        ∙ ap (λ d. true && d && not (v.number == w.number)) b
        ∙ ap (λ d. true && true && d) (differing v.number w.number (λ e. cc ((bytes_eq-Decides (text_at text first) (text_at text second)).1 (g.bound.apart first second v w i j e), other)))

-- ---- indices

module _ (text : List ℕ) (fills : List Fill) where
  abbrev facts : Tree → Facts
  facts = facts_of text

  abbrev elaboration : Tree → Elaboration
  elaboration = elaboration_of text

  abbrev Holds : Room → Phrase → List Sign → Tree → Type 0
  Holds k n x t = Keeps text fills n t

  abbrev leaf_token : (t : Token) → (facts (Leaf t)).token ≡ Some t
  leaf_token t = ap (λ (f : Facts). f.token) (of_leaf Facts (facts_step text) t)

  abbrev leaf_first : (t : Token) → (elaboration (Leaf t)).first ≡ Some t
  leaf_first t = ap (λ (e : Elaboration). e.first) (of_leaf Elaboration (elaboration_step text) t)

  pub leaf_indices : (t : Token) → AreIndices text fills (Leaf t)
  leaf_indices t c g quiet = ap (λ (e : Elaboration). list_all (is_index c.around) (e.indices c.naming)) (of_leaf Elaboration (elaboration_step text) t)

  -- the indices of parts
  all_indices : (us : List Tree) (c : Context) → Agrees text fills c → All (AreIndices text fills) us → ((i : ℕ) → (part_at (map facts us) i).breaches c.scope ≡ []) → list_all (is_index c.around) (indices_in text (map elaboration us) c.naming) ≡ true
  all_indices [] c g h quiet = refl
  all_indices (u ∷ us) c g h quiet = list_all-append (is_index c.around) ((elaboration u).indices c.naming) (indices_in text (map elaboration us) c.naming)
      ∙ both_true (list_all (is_index c.around) ((elaboration u).indices c.naming)) (list_all (is_index c.around) (indices_in text (map elaboration us) c.naming)) (h.0 c g (quiet 0)) (all_indices us c g h.1 (λ i. quiet (suc i)))

  pub summed : (f : Form) (us : List Tree) → counting_of f ≡ Sum → role_of f ≡ Other → All (AreIndices text fills) us → AreIndices text fills (Node f us)
  summed f us is other h c g quiet =
      ap (λ (e : Elaboration). list_all (is_index c.around) (e.indices c.naming)) (of_node Elaboration (elaboration_step text) f us)
      ∙ ap (λ (k : Counting). list_all (is_index c.around) (indices_at text f k (map elaboration us) c.naming)) is
      ∙ all_indices us c g h (other_quiet text f us c.scope other quiet)

  grouped : (us : List Tree) → All (AreIndices text fills) us → AreIndices text fills (Group us)
  grouped us h c g quiet =
      ap (λ (e : Elaboration). list_all (is_index c.around) (e.indices c.naming)) (of_group Elaboration (elaboration_step text) us)
      ∙ all_indices us c g h (each_quiet (map facts us) c.scope c.scope (sym (ap (λ (x : Facts). x.breaches c.scope) (of_group Facts (facts_step text) us)) ∙ quiet))

  module _ (n : Phrase) (gives : (t : Tree) → Keeps text fills n t → AreIndices text fills t) where
    each_indices : (k : Room) (x : List Sign) (us : List Tree) → Each Holds k n x us → All (AreIndices text fills) us
    each_indices k x [] h = tt
    each_indices k x (u ∷ us) (y, z, cut, first, rest) = (gives u first, each_indices k z us rest)

    pub many_indices : (k : Room) (x : List Sign) (v : Tree) → Kept Holds k (Many n) x v → AreIndices text fills v
    many_indices k x v (us, is, each) = subst (AreIndices text fills) (sym is) (grouped us (each_indices k x us each))

    pub maybe_indices : (k : Room) (x : List Sign) (v : Tree) → Kept Holds k (Maybe n) x v → AreIndices text fills v
    maybe_indices k x v (inl (e, is)) = subst (AreIndices text fills) (sym is) (grouped [] tt)
    maybe_indices k x v (inr (u, is, h)) = subst (AreIndices text fills) (sym is) (grouped (u ∷ []) (gives u h, tt))

  -- ---- one index

  node_index : (f : Form) (us : List Tree) (s : Naming) → (elaboration (Node f us)).index s ≡ index_at text f (map elaboration us) s
  node_index f us s = ap (λ (e : Elaboration). e.index s) (of_node Elaboration (elaboration_step text) f us)

  pub single : (f : Form) (us : List Tree) → counting_of f ≡ Single → IsIndex text fills (Node f us) → AreIndices text fills (Node f us)
  single f us is h c g quiet =
      ap (λ (e : Elaboration). list_all (is_index c.around) (e.indices c.naming)) (of_node Elaboration (elaboration_step text) f us)
      ∙ ap (λ (k : Counting). list_all (is_index c.around) (indices_at text f k (map elaboration us) c.naming)) is
      ∙ both_true (is_index c.around (index_at text f (map elaboration us) c.naming)) true (ap (is_index c.around) (sym (node_index f us c.naming)) ∙ h c g quiet) refl

  -- an index that is a part's
  pub lifted_index : (f : Form) (us : List Tree) (i : ℕ) → ((c : Context) → is_index c.around (index_at text f (map elaboration us) c.naming) ≡ is_index c.around ((part (map elaboration us) i).index c.naming)) → role_of f ≡ Other
      → ((c : Context) → Agrees text fills c → (part_at (map facts us) i).breaches c.scope ≡ [] → is_index c.around ((part (map elaboration us) i).index c.naming) ≡ true) → IsIndex text fills (Node f us)
  lifted_index f us i is other h c g quiet = ap (is_index c.around) (node_index f us c.naming) ∙ is c ∙ h c g (other_quiet text f us c.scope other quiet i)

  pub constant_index : (f : Form) (us : List Tree) → ((c : Context) → is_index c.around (index_at text f (map elaboration us) c.naming) ≡ true) → IsIndex text fills (Node f us)
  constant_index f us is c g quiet = ap (is_index c.around) (node_index f us c.naming) ∙ is c

  pub shifted : (t : Token) (v : Tree) → IsIndex text fills (Node form.Shifted (Leaf t ∷ v ∷ []))
  unfolding plain
  shifted t v c g quiet =
      let own : loop_use t (bound_named text c.scope.bound t) ≡ [] = subst (λ (o : Option Token). named_breaches text IndexName o (facts v).count c.scope ≡ []) (leaf_token t) (own_quiet text form.Shifted (Leaf t ∷ v ∷ []) c.scope quiet) in
      ap (is_index c.around) (node_index form.Shifted (Leaf t ∷ v ∷ []) c.naming)
      ∙ ap (λ (o : Option Token). is_index c.around (plain (variable_number text c.naming o) (elaboration v).number)) (leaf_first t)
      ∙ one_index text fills c g (variable_number text c.naming (Some t)) (variable_is_loop text fills c g t own)

  -- ---- `~` indices

  node_behind : (f : Form) (us : List Tree) (s : Naming) (o : Option ℕ) → (elaboration (Node f us)).behind s o ≡ behind_at text f (map elaboration us) s o
  node_behind f us s o = ap (λ (e : Elaboration). e.behind s o) (of_node Elaboration (elaboration_step text) f us)

  pub behind_nothing : (f : Form) (us : List Tree) → ((s : Naming) (o : Option ℕ) → (n : ℤ) × (behind_at text f (map elaboration us) s o ≡ loose o None n)) → IsBehind text fills (Node f us)
  unfolding loose
  behind_nothing f us is c g quiet name begun h =
      let (n, e) = is c.naming (variable_number text c.naming (Some name)) in
      ap (is_index c.around) (node_behind f us c.naming (variable_number text c.naming (Some name)) ∙ e) ∙ one_index text fills c g (variable_number text c.naming (Some name)) h

  pub plus_rest : (a v : Tree) → IsBehind text fills v → IsBehind text fills (Node form.PlusRest (a ∷ v ∷ []))
  plus_rest a v h c g quiet name begun k =
      ap (is_index c.around) (node_behind form.PlusRest (a ∷ v ∷ []) c.naming (variable_number text c.naming (Some name))) ∙ h c g (other_quiet text form.PlusRest (a ∷ v ∷ []) c.scope refl quiet 1) name begun k

  unbegun : (b : Bool) (name : Token) (r : List Refusal) → (if b then breach Rattle.fin_base.specs.declared.refusal.Rule.TheVariants.N1 name else r) ≡ [] → (b ≡ false) × (r ≡ [])
  unbegun true name r h = cc
  unbegun false name r h = (refl, h)

  pub added_name : (t : Token) (v : Tree) → IsBehind text fills (Node form.AddedName (Leaf t ∷ v ∷ []))
  unfolding loose
  added_name t v c g quiet name begun k =
      let own : own_breaches text AddedName t (facts v).count c.scope ≡ [] = subst (λ (o : Option Token). named_breaches text AddedName o (facts v).count c.scope ≡ []) (leaf_token t) (own_quiet text form.AddedName (Leaf t ∷ v ∷ []) c.scope quiet) in
      let (other, loops) = unbegun (is_begun text c.scope.begun t) t (loop_use t (bound_named text c.scope.bound t)) own in
      ap (is_index c.around) (node_behind form.AddedName (Leaf t ∷ v ∷ []) c.naming (variable_number text c.naming (Some name)))
      ∙ ap (λ (o : Option Token). is_index c.around (loose (variable_number text c.naming (Some name)) (variable_number text c.naming o) (elaboration v).number)) (leaf_first t)
      ∙ two_indices text fills c g name t k loops (subst (λ (o : Option Token). is_begun text o t ≡ false) begun other)

  -- behind the first variable
  abbrev begun_context : Context → Token → Context
  begun_context c t = record { scope = with_begun c.scope t; naming = c.naming; next = c.next; around = c.around }

  nothing_behind : (c : Context) (v : Option ℕ) → is_loop c.around v ≡ true → Agrees text fills c → (elaboration (Group [])).behind c.naming v ≡ loose v None (pos 0)
  nothing_behind c v h g = ap (λ (e : Elaboration). e.behind c.naming v) (of_group Elaboration (elaboration_step text) [])

  begun_behind : (k : Room) (x : List Sign) (v : Tree) → Kept Holds k (Maybe phrase.LooseRest) x v → (c : Context) → Agrees text fills c → (t : Token) → is_loop c.around (variable_number text c.naming (Some t)) ≡ true → (facts v).breaches (with_begun c.scope t) ≡ []
      → is_index c.around ((elaboration v).behind c.naming (variable_number text c.naming (Some t))) ≡ true
  unfolding loose
  begun_behind k x v (inl (e, is)) c g t h quiet =
      ap (λ (w : Tree). is_index c.around ((elaboration w).behind c.naming (variable_number text c.naming (Some t)))) is
      ∙ ap (is_index c.around) (nothing_behind c (variable_number text c.naming (Some t)) h g) ∙ one_index text fills c g (variable_number text c.naming (Some t)) h
  begun_behind k x v (inr (u, is, kept)) c g t h quiet =
      let inner : (facts u).breaches (with_begun c.scope t) ≡ [] = first_nil ((facts u).breaches (with_begun c.scope t)) [] (sym (ap (λ (f : Facts). f.breaches (with_begun c.scope t)) (of_group Facts (facts_step text) (u ∷ []))) ∙ sym (ap (λ (w : Tree). (facts w).breaches (with_begun c.scope t)) is) ∙ quiet) in
      let there : is_index c.around ((elaboration u).behind c.naming (variable_number text c.naming (Some t))) ≡ true =
      kept (begun_context c t) (record { tensors = g.tensors; named = g.named; bound = g.bound }) inner t refl h in
      ap (λ (w : Tree). is_index c.around ((elaboration w).behind c.naming (variable_number text c.naming (Some t)))) is
      ∙ ap (λ (e : Elaboration). is_index c.around (e.behind c.naming (variable_number text c.naming (Some t)))) (of_group Elaboration (elaboration_step text) (u ∷ [])) ∙ there

  pub loose_named : (t : Token) (v : Tree) (k : Room) (x : List Sign) → Kept Holds k (Maybe phrase.LooseRest) x v → IsIndex text fills (Node form.LooseNamed (Leaf t ∷ v ∷ []))
  loose_named t v k x kept c g quiet =
      let own : loop_use t (bound_named text c.scope.bound t) ≡ [] = subst (λ (o : Option Token). named_breaches text LooseName o (facts v).count c.scope ≡ []) (leaf_token t) (own_quiet text form.LooseNamed (Leaf t ∷ v ∷ []) c.scope quiet) in
      let parts = subst (λ (o : Option Token). part_breaches 0 (map facts (Leaf t ∷ v ∷ [])) c.scope (scope_within LooseName o c.scope) ≡ []) (leaf_token t) (parts_quiet text form.LooseNamed (Leaf t ∷ v ∷ []) c.scope quiet) in
      ap (is_index c.around) (node_index form.LooseNamed (Leaf t ∷ v ∷ []) c.naming)
      ∙ ap (λ (o : Option Token). is_index c.around ((elaboration v).behind c.naming (variable_number text c.naming o))) (leaf_first t)
      ∙ begun_behind k x v kept c g t (variable_is_loop text fills c g t own) (each_quiet (map facts (Leaf t ∷ v ∷ [])) c.scope (with_begun c.scope t) parts 1)

  -- ---- a name as an operand

  operand_scope : (name : Option Token) (s : Scope) → scope_within Operand name s ≡ s
  operand_scope None s = refl
  operand_scope (Some name) s = refl

  pub operand : (t : Token) (v : Tree) → AreIndices text fills v → Valued text fills (Node form.NamedOperand (Leaf t ∷ v ∷ []))
  operand t v h = valued text fills form.NamedOperand (Leaf t ∷ v ∷ []) (λ c g quiet.
      let own : own_breaches text Operand t (facts v).count c.scope ≡ [] = subst (λ (o : Option Token). named_breaches text Operand o (facts v).count c.scope ≡ []) (leaf_token t) (own_quiet text form.NamedOperand (Leaf t ∷ v ∷ []) c.scope quiet) in
      let inside = still_quiet text Operand refl operand_scope form.NamedOperand (Leaf t ∷ v ∷ []) c.scope refl quiet 1 in
      ap (λ (o : Option Token). is_named_expr (named_value text o (elaboration v).indexed ((elaboration v).indices c.naming) c.naming) c.around) (leaf_first t)
      ∙ operand_is_named text fills c g t (facts v).count (elaboration v).indexed ((elaboration v).indices c.naming) (counts text v).there ((counts text v).count c.naming) (h c g inside) own)
