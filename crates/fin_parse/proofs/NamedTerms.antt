-- Expressions whose names break no rule name headers, loops and lets around them.
use Rattle.std.proofs.Common.{◌≡◌, ◌≤◌, ℕ, ◌+◌, min, ℤ, pos, ◌==◌, Bool, true, false, ◌&&◌, ◌||◌, ◌⊎◌, inl, inr, List, [], ◌∷◌, ◌++◌, map, length, Option, Some, None, unwrap_or, refl, sym, ap, ◌∙◌, subst, arith}
use Rattle.std.specs.Prelude.{is_some, if◌then◌else◌, slice_get}
use Rattle.std.specs.List.{list_all, find}
use Rattle.std.proofs.lemmas.Bool.{eqb-true}
use Rattle.std.proofs.lemmas.Bool.Decides.{Decides-eqb}
use Rattle.fin_base.specs.declared.terms.Op.{Op}
use Rattle.fin_base.specs.declared.terms.Op.TheVariants.{Add, Sub, Mul}
use Rattle.fin_ast.specs.declared.header.Header.{Header}
use Rattle.fin_ast.specs.declared.tree.Index.{Index}
use Rattle.fin_ast.specs.declared.tree.Expr.{Expr}
use Rattle.fin_ast.specs.declared.tree.Expr.TheVariants as expr
use Rattle.fin_ast.specs.declared.tree.Expr.TheOpen.{Expr-F}
use Rattle.fin_ast.specs.Scope as ast
use Rattle.fin_ast.specs.Scope.{is_index, is_access, is_bound, is_named_expr, expr_step, holds_of}
use Rattle.fin_ast.proofs.Nodes.{of_num, of_var, of_read, of_neg, of_two}
use Rattle.fin_lex.specs.declared.token.Token.{Token}
use Rattle.fin_parse.specs.declared.class.Class.{Class}
use Rattle.fin_parse.specs.declared.grammar.Phrase.{Phrase}
use Rattle.fin_parse.specs.declared.grammar.Phrase.TheVariants as phrase
use Rattle.fin_parse.specs.declared.grammar.Form.{Form}
use Rattle.fin_parse.specs.declared.grammar.Form.TheVariants as form
use Rattle.fin_parse.specs.declared.grammar.Symbol.TheVariants.{Word, One, Many, Maybe, Deeper, InLoop}
use Rattle.fin_parse.specs.declared.roles.Role.TheVariants.{Operand, Other}
use Rattle.fin_parse.specs.declared.scope.Tensor.{Tensor}
use Rattle.fin_parse.specs.declared.scope.Bound.{Bound}
use Rattle.fin_parse.specs.declared.scope.Fill.{Fill}
use Rattle.fin_parse.specs.declared.naming.Variable.{Variable}
use Rattle.fin_parse.specs.declared.tree.Tree.{Tree}
use Rattle.fin_parse.specs.declared.tree.Tree.TheVariants.{Leaf, Node, Group}
use Rattle.fin_parse.specs.declared.tree.Tree.TheOpen.{Tree-F}
use Rattle.fin_parse.specs.declared.tree.Room.{Room}
use Rattle.fin_parse.specs.Names.{Facts, Scope, facts_of, facts_step, part_at, part_breaches, own_breaches, named_breaches, tensor_named, tensor_use, bound_named, variable_use}
use Rattle.fin_parse.specs.Syntax.{Sign}
use Rattle.fin_parse.specs.Elaboration.{Elaboration, Naming, elaboration_of, elaboration_step, value_at, onto_at, onto_all, joined_at, named_value, tensor_from, tensor_number, variable_number, number_of_variable, indices_in, part}
use Rattle.fin_parse.specs.Roles.{role_of}
use Rattle.fin_parse.specs.Terms.{op_of}
use Rattle.fin_parse.proofs.Bounds.{AreBound, variable_named}
use Rattle.fin_parse.proofs.Counting.{capped, Counts, counts}
use Rattle.fin_parse.proofs.Induction.{Each, Kept, Parts}
use Rattle.fin_parse.proofs.Keeping.{AreNamed, Context, Agrees, Valued, Follows, Joins, AreIndices, Keeps, Quiet, first_nil, second_nil, each_quiet, own_quiet, parts_quiet, other_quiet}
use Rattle.fin_parse.proofs.Nodes.{of_leaf, of_group, of_node}

-- ---- expressions of the syntax tree

module _ (q : ast.Scope) where
  num_named : (n : ℤ) → is_named_expr (expr.Num n) q ≡ true
  num_named n = ap (λ (g : ast.Scope → Bool). g q) (of_num (ast.Scope → Bool) expr_step n)

  var_named : (var line : ℕ) → is_bound q var ≡ true → is_named_expr (expr.Var var line) q ≡ true
  var_named var line h = ap (λ (g : ast.Scope → Bool). g q) (of_var (ast.Scope → Bool) expr_step var line) ∙ h

  read_named : (tensor : ℕ) (at : List Index) (line : ℕ) → is_access q tensor at ≡ true → is_named_expr (expr.Read tensor at line) q ≡ true
  read_named tensor at line h = ap (λ (g : ast.Scope → Bool). g q) (of_read (ast.Scope → Bool) expr_step tensor at line) ∙ h

  neg_named : (x : Expr) → is_named_expr x q ≡ true → is_named_expr (expr.Neg x) q ≡ true
  neg_named x h = ap (λ (g : ast.Scope → Bool). g q) (of_neg (ast.Scope → Bool) expr_step x) ∙ h

  two_named : (o : Op) (x y : Expr) → is_named_expr x q ≡ true → is_named_expr y q ≡ true → is_named_expr (expr.Two o x y) q ≡ true
  two_named o x y h k = ap (λ (g : ast.Scope → Bool). g q) (of_two (ast.Scope → Bool) expr_step o x y) ∙ ap (λ b. b && is_named_expr y q) h ∙ k

-- ---- names

pub quiet_if : {A : Type 0} (b : Bool) (x : A) (xs : List A) → (if b then [] else x ∷ xs) ≡ [] → b ≡ true
quiet_if true x xs h = refl
quiet_if false x xs h = cc

pub both_true : (a b : Bool) → a ≡ true → b ≡ true → a && b ≡ true
both_true a b h k = ap (λ x. x && b) h ∙ k

module _ (text : List ℕ) (fills : List Fill) (c : Context) (g : Agrees text fills c) where
  abbrev q : ast.Scope
  q = c.around

  used_tensor : (name : Token) (n : ℕ) (t : Option Tensor) → tensor_use name (Some n) t ≡ [] → (u : Tensor) × (t ≡ Some u) × (n ≡ u.levels)
  used_tensor name n None h = cc
  used_tensor name n (Some t) h = (t, refl, eqb-true n t.levels (quiet_if (n == t.levels) _ _ h))

  levels_agree : (n levels : ℕ) (at : List Index) → n ≡ capped (length at) → n ≡ levels → levels ≤ 8 → length at ≡ levels
  levels_agree n levels at h k few = omega (arith, h, k, few)

  -- an access that breaks no rule
  pub access_named : (name : Token) (n : ℕ) (at : List Index) → n ≡ capped (length at) → list_all (is_index q) at ≡ true → tensor_use name (Some n) (tensor_named text c.scope.tensors name) ≡ []
      → (k : ℕ) × (tensor_number text c.naming (Some name) ≡ Some k) × (is_access q k at ≡ true)
  access_named name n at count ok h =
      let (t, there, same) = used_tensor name n (tensor_named text c.scope.tensors name) h in
      let (k, d, at_k, header, levels, few) = g.named.named name t there in
      let long : length at ≡ length d.format.levels = levels_agree n t.levels at count same few ∙ levels in (
        k,
        ap (λ ts. tensor_from 0 text ts name) (sym g.tensors) ∙ at_k,
        both_true (holds_of (λ (e : Header). length at == length e.format.levels) (slice_get q.headers k)) (list_all (is_index q) at)
            (ap (λ (o : Option Header). holds_of (λ (e : Header). length at == length e.format.levels) o) header ∙ (Decides-eqb (length at) (length d.format.levels)).1 long) ok,
      )

  read_is_named : (name : Token) (n : ℕ) (at : List Index) → n ≡ capped (length at) → list_all (is_index q) at ≡ true → tensor_use name (Some n) (tensor_named text c.scope.tensors name) ≡ []
      → is_named_expr (named_value text (Some name) true at c.naming) q ≡ true
  read_is_named name n at count ok h =
      let (k, e, access) = access_named name n at count ok h in
      read_named q (unwrap_or (tensor_number text c.naming (Some name)) 0) at name.line (subst (λ (o : Option ℕ). is_access q (unwrap_or o 0) at ≡ true) (sym e) access)

  used_variable : (name : Token) (b : Option Bound) → variable_use name b ≡ [] → (v : Bound) × (b ≡ Some v)
  used_variable name None h = cc
  used_variable name (Some v) h = (v, refl)

  variable_is_named : (name : Token) (at : List Index) → variable_use name (bound_named text c.scope.bound name) ≡ [] → is_named_expr (named_value text (Some name) false at c.naming) q ≡ true
  variable_is_named name at h =
      let (b, there) = used_variable name (bound_named text c.scope.bound name) h in
      let (v, found, among, loop) = g.bound.used name b there in
      var_named q (unwrap_or (variable_number text c.naming (Some name)) 0) name.line (subst (λ (o : Option Variable). is_bound q (unwrap_or (number_of_variable o) 0) ≡ true) (sym found) among)

  pub operand_is_named : (name : Token) (count : Option ℕ) (indexed : Bool) (at : List Index) → is_some count ≡ indexed → unwrap_or count 0 ≡ capped (length at) → list_all (is_index q) at ≡ true
      → own_breaches text Operand name count c.scope ≡ [] → is_named_expr (named_value text (Some name) indexed at c.naming) q ≡ true
  operand_is_named name None false at there count ok h = variable_is_named name at h
  operand_is_named name (Some n) true at there count ok h = read_is_named name n at count ok h
  operand_is_named name None true at there count ok h = cc
  operand_is_named name (Some n) false at there count ok h = cc

-- ---- the forms of expressions

module _ (text : List ℕ) (fills : List Fill) where
  abbrev facts : Tree → Facts
  facts = facts_of text

  abbrev elaboration : Tree → Elaboration
  elaboration = elaboration_of text

  abbrev Holds : Room → Phrase → List Sign → Tree → Type 0
  Holds k n x t = Keeps text fills n t

  node_value : (f : Form) (us : List Tree) (s : Naming) → (elaboration (Node f us)).value s ≡ value_at text f (map elaboration us) s
  node_value f us s = ap (λ (e : Elaboration). e.value s) (of_node Elaboration (elaboration_step text) f us)

  node_onto : (f : Form) (us : List Tree) (s : Naming) (e : Expr) → (elaboration (Node f us)).onto s e ≡ onto_at text f (map elaboration us) s e
  node_onto f us s e = ap (λ (x : Elaboration). x.onto s e) (of_node Elaboration (elaboration_step text) f us)

  node_joined : (f : Form) (us : List Tree) (s : Naming) (o : Op) → (elaboration (Node f us)).joined s o ≡ joined_at text f (map elaboration us) s o
  node_joined f us s o = ap (λ (x : Elaboration). x.joined s o) (of_node Elaboration (elaboration_step text) f us)

  -- what its value is shows it
  pub valued : (f : Form) (us : List Tree) → ((c : Context) → Agrees text fills c → Quiet text fills c (facts (Node f us)) → is_named_expr (value_at text f (map elaboration us) c.naming) c.around ≡ true) → Valued text fills (Node f us)
  valued f us h c g quiet = ap (λ (e : Expr). is_named_expr e c.around) (node_value f us c.naming) ∙ h c g quiet

  follows : (f : Form) (us : List Tree) → ((c : Context) → Agrees text fills c → Quiet text fills c (facts (Node f us)) → (e : Expr) → is_named_expr e c.around ≡ true → is_named_expr (onto_at text f (map elaboration us) c.naming e) c.around ≡ true) → Follows text fills (Node f us)
  follows f us h c g quiet e ok = ap (λ (x : Expr). is_named_expr x c.around) (node_onto f us c.naming e) ∙ h c g quiet e ok

  -- what follows in a group
  group_onto : (us : List Tree) (s : Naming) (e : Expr) → (elaboration (Group us)).onto s e ≡ onto_all text (map elaboration us) s e
  group_onto us s e = ap (λ (x : Elaboration). x.onto s e) (of_group Elaboration (elaboration_step text) us)

  group_quiet : (us : List Tree) (s : Scope) → (facts (Group us)).breaches s ≡ [] → part_breaches 0 (map facts us) s s ≡ []
  group_quiet us s h = sym (ap (λ (x : Facts). x.breaches s) (of_group Facts (facts_step text) us)) ∙ h

  module _ (n : Phrase) (gives : (t : Tree) → Keeps text fills n t → Follows text fills t) where
    all_follow : (k : Room) (x : List Sign) (us : List Tree) → Each Holds k n x us → (c : Context) → Agrees text fills c → part_breaches 0 (map facts us) c.scope c.scope ≡ [] → (e : Expr) → is_named_expr e c.around ≡ true → is_named_expr (onto_all text (map elaboration us) c.naming e) c.around ≡ true
    all_follow k x [] h c g quiet e ok = ok
    all_follow k x (u ∷ us) (y, z, cut, first, rest) c g quiet e ok =
        all_follow k z us rest c g (second_nil ((facts u).breaches c.scope) (part_breaches 0 (map facts us) c.scope c.scope) quiet) ((elaboration u).onto c.naming e) (gives u first c g (first_nil ((facts u).breaches c.scope) (part_breaches 0 (map facts us) c.scope c.scope) quiet) e ok)

    group_follows : (k : Room) (x : List Sign) (us : List Tree) → Each Holds k n x us → Follows text fills (Group us)
    group_follows k x us h c g quiet e ok = ap (λ (y : Expr). is_named_expr y c.around) (group_onto us c.naming e) ∙ all_follow k x us h c g (group_quiet us c.scope quiet) e ok

    pub many_follow : (k : Room) (x : List Sign) (v : Tree) → Kept Holds k (Many n) x v → Follows text fills v
    many_follow k x v (us, is, each) = subst (Follows text fills) (sym is) (group_follows k x us each)

    pub maybe_follows : (k : Room) (x : List Sign) (v : Tree) → Kept Holds k (Maybe n) x v → Follows text fills v
    maybe_follows k x v (inl (e, is)) = subst (Follows text fills) (sym is) (group_follows k [] [] refl)
    maybe_follows k x v (inr (u, is, h)) = subst (Follows text fills) (sym is) (group_follows k (x ++ []) (u ∷ []) (x, [], refl, h, refl))

  -- an expression and what follows it
  pub headed : (f : Form) (u v : Tree) → ((s : Naming) → value_at text f (map elaboration (u ∷ v ∷ [])) s ≡ (elaboration v).onto s ((elaboration u).value s)) → role_of f ≡ Other → Valued text fills u → Follows text fills v → Valued text fills (Node f (u ∷ v ∷ []))
  headed f u v is other h k = valued f (u ∷ v ∷ []) (λ c g quiet.
      ap (λ (e : Expr). is_named_expr e c.around) (is c.naming) ∙ k c g (other_quiet text f (u ∷ v ∷ []) c.scope other quiet 1) ((elaboration u).value c.naming) (h c g (other_quiet text f (u ∷ v ∷ []) c.scope other quiet 0)))

  -- a part that is an expression
  pub lifted : (f : Form) (us : List Tree) (i : ℕ) → ((s : Naming) → value_at text f (map elaboration us) s ≡ (part (map elaboration us) i).value s) → role_of f ≡ Other
      → ((c : Context) → Agrees text fills c → (part_at (map facts us) i).breaches c.scope ≡ [] → is_named_expr ((part (map elaboration us) i).value c.naming) c.around ≡ true) → Valued text fills (Node f us)
  lifted f us i is other h = valued f us (λ c g quiet. ap (λ (e : Expr). is_named_expr e c.around) (is c.naming) ∙ h c g (other_quiet text f us c.scope other quiet i))

  pub a_number : (f : Form) (us : List Tree) (n : ℤ) → ((s : Naming) → value_at text f (map elaboration us) s ≡ expr.Num n) → Valued text fills (Node f us)
  a_number f us n is = valued f us (λ c g quiet. ap (λ (e : Expr). is_named_expr e c.around) (is c.naming) ∙ num_named c.around n)

  pub negated : (u : Tree) → Valued text fills u → Valued text fills (Node form.NegatedOperand (u ∷ []))
  negated u h = valued form.NegatedOperand (u ∷ []) (λ c g quiet. neg_named c.around ((elaboration u).value c.naming) (h c g (other_quiet text form.NegatedOperand (u ∷ []) c.scope refl quiet 0)))

  pub called : (a b v d : Tree) → Joins text fills v → Valued text fills (Node form.Call (a ∷ b ∷ v ∷ d ∷ []))
  called a b v d h = valued form.Call (a ∷ b ∷ v ∷ d ∷ []) (λ c g quiet. h c g (other_quiet text form.Call (a ∷ b ∷ v ∷ d ∷ []) c.scope refl quiet 2) (op_of (elaboration a).first))

  pub paired : (u d v : Tree) → Valued text fills u → Valued text fills v → Joins text fills (Node form.Pair (u ∷ d ∷ v ∷ []))
  paired u d v h k c g quiet o = ap (λ (e : Expr). is_named_expr e c.around) (node_joined form.Pair (u ∷ d ∷ v ∷ []) c.naming o)
      ∙ two_named c.around o ((elaboration u).value c.naming) ((elaboration v).value c.naming) (h c g (other_quiet text form.Pair (u ∷ d ∷ v ∷ []) c.scope refl quiet 0)) (k c g (other_quiet text form.Pair (u ∷ d ∷ v ∷ []) c.scope refl quiet 2))

  -- an operator and its right side
  pub after : (f : Form) (a v : Tree) → (o : Op) → ((s : Naming) (e : Expr) → onto_at text f (map elaboration (a ∷ v ∷ [])) s e ≡ expr.Two o e ((elaboration v).value s)) → role_of f ≡ Other → Valued text fills v → Follows text fills (Node f (a ∷ v ∷ []))
  after f a v o is other h = follows f (a ∷ v ∷ []) (λ c g quiet e ok.
      ap (λ (x : Expr). is_named_expr x c.around) (is c.naming e) ∙ two_named c.around o e ((elaboration v).value c.naming) ok (h c g (other_quiet text f (a ∷ v ∷ []) c.scope other quiet 1)))
