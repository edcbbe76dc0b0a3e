-- What a phrase keeps whose names and fills break no rule: it stands for what names headers, loops and lets around it.
use Rattle.std.proofs.Common.{◌≡◌, ◌≤◌, ◌<◌, ℕ, zero, suc, ◌+◌, ℤ, Bool, true, false, ◌&&◌, List, [], ◌∷◌, ◌++◌, map, length, Option, Some, None, refl, sym, ap, ◌∙◌, subst, arith}
use Rattle.std.specs.Prelude.{slice_get, if◌then◌else◌}
use Rattle.std.specs.List.{list_all}
use Rattle.fin_base.specs.declared.refusal.Refusal.{Refusal}
use Rattle.fin_base.specs.declared.terms.Op.{Op}
use Rattle.fin_ast.specs.declared.header.Header.{Header}
use Rattle.fin_ast.specs.declared.tree.Index.{Index}
use Rattle.fin_ast.specs.declared.tree.Expr.{Expr}
use Rattle.fin_ast.specs.declared.tree.Stmt.{Stmt}
use Rattle.fin_ast.specs.Scope as ast
use Rattle.fin_ast.specs.Scope.{is_index, is_loop, is_named_expr, is_named, all_named}
use Rattle.fin_lex.specs.declared.token.Token.{Token}
use Rattle.fin_parse.specs.declared.grammar.Phrase.{Phrase}
use Rattle.fin_parse.specs.declared.grammar.Phrase.TheVariants as phrase
use Rattle.fin_parse.specs.declared.grammar.Form.{Form}
use Rattle.fin_parse.specs.declared.roles.Role.{Role}
use Rattle.fin_parse.specs.declared.roles.Role.TheVariants.{Other, Changed}
use Rattle.fin_parse.specs.declared.scope.Tensor.{Tensor}
use Rattle.fin_parse.specs.declared.scope.Fill.{Fill}
use Rattle.fin_parse.specs.declared.scope.Literal.{Literal}
use Rattle.fin_parse.specs.declared.tree.Tree.{Tree}
use Rattle.fin_parse.specs.declared.tree.Tree.TheVariants.{Leaf, Node, Group}
use Rattle.fin_parse.specs.declared.tree.Tree.TheOpen.{Tree-F}
use Rattle.fin_parse.specs.Roles.{role_of, inner_from, name_place}
use Rattle.fin_parse.specs.Fills.{fill_named, fill_breach, literal_of, number_of}
use Rattle.fin_parse.specs.Leaves.{Leaves, leaves_of, leaves_step}
use Rattle.fin_parse.specs.Names.{Facts, Scope, facts_of, facts_step, part_at, part_breaches, role_breaches, named_breaches, scope_within, tensor_named, tensor_use}
use Rattle.fin_parse.specs.Elaboration.{Elaboration, Naming, elaboration_of, elaboration_step, plus_word, minus_word, tensor_from, variable_number}
use Rattle.fin_parse.proofs.Bounds.{AreBound}
use Rattle.fin_parse.proofs.Nodes.{of_node}

-- the word that a literal stands for
abbrev pub literal_word : Literal → ℤ
literal_word l = if l.negative then minus_word l.magnitude else plus_word l.magnitude

-- the tensors are those of the headers, in order, and the fills are theirs
pub record AreNamed (text : List ℕ) (fills : List Fill) (tensors : List Tensor) (headers : List Header) : Type 0 where
  pub named : (name : Token) (t : Tensor) → tensor_named text tensors name ≡ Some t → (k : ℕ) × (h : Header) × (tensor_from 0 text tensors name ≡ Some k) × (slice_get headers k ≡ Some h) × (t.levels ≡ length h.format.levels) × (t.levels ≤ 8)
  pub filled : (name : Token) (k : ℕ) (h : Header) → tensor_from 0 text tensors name ≡ Some k → slice_get headers k ≡ Some h → (f : Fill) × (fill_named text fills name ≡ Some f) × (literal_word f.value ≡ h.format.fill)

-- a place: what its names stand for by the rules on names, in elaboration, and in the syntax tree, and the number of the next variable
pub record Context : Type 0 where
  pub scope : Scope
  pub naming : Naming
  pub next : ℕ
  pub around : ast.Scope

module _ (text : List ℕ) (fills : List Fill) where
  -- names stand for the same thrice
  pub record Agrees (c : Context) : Type 0 where
    pub tensors : c.scope.tensors ≡ c.naming.tensors
    pub named : AreNamed text fills c.scope.tensors c.around.headers
    pub bound : AreBound text c.scope.bound c.naming.bound c.next c.around.loops c.around.lets

  abbrev pub facts : Tree → Facts
  facts = facts_of text

  abbrev pub elaboration : Tree → Elaboration
  elaboration = elaboration_of text

  -- no rule on names is broken
  abbrev pub Quiet : Context → Facts → Type 0
  Quiet c f = f.breaches c.scope ≡ []

  -- ---- what phrases keep

  abbrev pub Valued : Tree → Type 0
  Valued t = (c : Context) → Agrees c → Quiet c (facts t) → is_named_expr ((elaboration t).value c.naming) c.around ≡ true

  abbrev pub Follows : Tree → Type 0
  Follows t = (c : Context) → Agrees c → Quiet c (facts t) → (e : Expr) → is_named_expr e c.around ≡ true → is_named_expr ((elaboration t).onto c.naming e) c.around ≡ true

  abbrev pub Joins : Tree → Type 0
  Joins t = (c : Context) → Agrees c → Quiet c (facts t) → (o : Op) → is_named_expr ((elaboration t).joined c.naming o) c.around ≡ true

  abbrev pub AreIndices : Tree → Type 0
  AreIndices t = (c : Context) → Agrees c → Quiet c (facts t) → list_all (is_index c.around) ((elaboration t).indices c.naming) ≡ true

  abbrev pub IsIndex : Tree → Type 0
  IsIndex t = (c : Context) → Agrees c → Quiet c (facts t) → is_index c.around ((elaboration t).index c.naming) ≡ true

  -- behind the first variable of a `~` index
  abbrev pub IsBehind : Tree → Type 0
  IsBehind t = (c : Context) → Agrees c → Quiet c (facts t) → (name : Token) → c.scope.begun ≡ Some name → is_loop c.around (variable_number text c.naming (Some name)) ≡ true → is_index c.around ((elaboration t).behind c.naming (variable_number text c.naming (Some name))) ≡ true

  abbrev pub AreNamedIn : Context → List Stmt → Type 0
  AreNamedIn c ss = all_named (map is_named ss) c.around ≡ true

  abbrev pub Stated : Tree → Type 0
  Stated t = (c : Context) → Agrees c → Quiet c (facts t) → (leaves_of t).fills text fills ≡ [] → (lead : Option Token) → AreNamedIn c ((elaboration t).stmts lead c.naming c.next)

  -- what stands behind the name of a tensor
  abbrev pub Changes : Tree → Type 0
  Changes t = (c : Context) → Agrees c → Quiet c (facts t) → (leaves_of t).fills text fills ≡ [] → (name : Token) → tensor_use name (facts t).count (tensor_named text c.scope.tensors name) ≡ []
      → fill_breach text fills (Some name) (leaves_of t).all ≡ [] → AreNamedIn c ((elaboration t).stmts (Some name) c.naming c.next)

  abbrev pub IsLiteral : Tree → Type 0
  IsLiteral t = literal_word (literal_of (leaves_of t).all) ≡ (elaboration t).number

  abbrev pub IsMagnitude : Tree → Type 0
  IsMagnitude t = (n : Token) × ((leaves_of t).all ≡ n ∷ []) × ((elaboration t).size ≡ number_of n.kind)

  abbrev pub Keeps : Phrase → Tree → Type 0
  Keeps phrase.Int t = IsLiteral t
  Keeps phrase.Magnitude t = IsMagnitude t
  Keeps phrase.Stmt t = Stated t
  Keeps phrase.Turns t = Stated t
  Keeps phrase.Body t = Stated t
  Keeps phrase.Stmts t = Stated t
  Keeps phrase.Change t = Changes t
  Keeps phrase.Plains t = AreIndices t × ((elaboration t).indexed ≡ true)
  Keeps phrase.PlainList t = AreIndices t
  Keeps phrase.NextPlain t = AreIndices t
  Keeps phrase.Plain t = IsIndex t × AreIndices t
  Keeps phrase.Expr t = Valued t
  Keeps phrase.Compared t = Follows t
  Keeps phrase.Sum t = Valued t
  Keeps phrase.NextTerm t = Follows t
  Keeps phrase.Term t = Valued t
  Keeps phrase.NextUnary t = Follows t
  Keeps phrase.Unary t = Valued t
  Keeps phrase.Operand t = Valued t
  Keeps phrase.Negated t = Valued t
  Keeps phrase.Pair t = Joins t
  Keeps phrase.Access t = AreIndices t
  Keeps phrase.Indices t = AreIndices t
  Keeps phrase.IndexList t = AreIndices t
  Keeps phrase.NextIndex t = AreIndices t
  Keeps phrase.Index t = AreIndices t
  Keeps phrase.Core t = IsIndex t
  Keeps phrase.Loose t = IsIndex t
  Keeps phrase.LooseRest t = IsBehind t
  Keeps phrase.Added t = IsBehind t
  Keeps _ t = Unit {0}

-- ---- breaches of parts

pub first_nil : {A : Type 0} (xs ys : List A) → xs ++ ys ≡ [] → xs ≡ []
first_nil [] ys h = refl
first_nil (x ∷ xs) ys h = cc

pub second_nil : {A : Type 0} (xs ys : List A) → xs ++ ys ≡ [] → ys ≡ []
second_nil [] ys h = h
second_nil (x ∷ xs) ys h = cc

pub each_quiet : (fs : List Facts) (outer inner : Scope) → part_breaches 0 fs outer inner ≡ [] → (i : ℕ) → (part_at fs i).breaches inner ≡ []
each_quiet [] outer inner h i = refl
each_quiet (f ∷ fs) outer inner h zero = first_nil (f.breaches inner) (part_breaches 0 fs outer inner) h
each_quiet (f ∷ fs) outer inner h (suc i) = each_quiet fs outer inner (second_nil (f.breaches inner) (part_breaches 0 fs outer inner) h) i

module _ (text : List ℕ) where
  node_breaches : (f : Form) (us : List Tree) (s : Scope) → (facts_of text (Node f us)).breaches s ≡ role_breaches text (role_of f) (map (facts_of text) us) s
  node_breaches f us s = ap (λ (x : Facts). x.breaches s) (of_node Facts (facts_step text) f us)

  -- at the name
  pub own_quiet : (f : Form) (us : List Tree) (s : Scope) → (facts_of text (Node f us)).breaches s ≡ [] → named_breaches text (role_of f) (part_at (map (facts_of text) us) (name_place (role_of f))).token (part_at (map (facts_of text) us) 1).count s ≡ []
  own_quiet f us s h = first_nil (named_breaches text (role_of f) (part_at (map (facts_of text) us) (name_place (role_of f))).token (part_at (map (facts_of text) us) 1).count s) (part_breaches (inner_from (role_of f)) (map (facts_of text) us) s (scope_within (role_of f) (part_at (map (facts_of text) us) (name_place (role_of f))).token s)) (sym (node_breaches f us s) ∙ h)

  -- in the parts
  pub parts_quiet : (f : Form) (us : List Tree) (s : Scope) → (facts_of text (Node f us)).breaches s ≡ [] → part_breaches (inner_from (role_of f)) (map (facts_of text) us) s (scope_within (role_of f) (part_at (map (facts_of text) us) (name_place (role_of f))).token s) ≡ []
  parts_quiet f us s h = second_nil (named_breaches text (role_of f) (part_at (map (facts_of text) us) (name_place (role_of f))).token (part_at (map (facts_of text) us) 1).count s) (part_breaches (inner_from (role_of f)) (map (facts_of text) us) s (scope_within (role_of f) (part_at (map (facts_of text) us) (name_place (role_of f))).token s)) (sym (node_breaches f us s) ∙ h)

  -- in the parts of a form that has the scope around it
  pub still_quiet : (r : Role) → inner_from r ≡ 0 → ((name : Option Token) (s : Scope) → scope_within r name s ≡ s) → (f : Form) (us : List Tree) (s : Scope) → role_of f ≡ r → (facts_of text (Node f us)).breaches s ≡ [] → (i : ℕ) → (part_at (map (facts_of text) us) i).breaches s ≡ []
  still_quiet r from still f us s is h i =
      let inner : role_breaches text r (map (facts_of text) us) s ≡ [] = subst (λ (r : Role). role_breaches text r (map (facts_of text) us) s ≡ []) is (sym (node_breaches f us s) ∙ h) in
      let name = (part_at (map (facts_of text) us) (name_place r)).token in
      let parts : part_breaches (inner_from r) (map (facts_of text) us) s (scope_within r name s) ≡ [] = second_nil (named_breaches text r name (part_at (map (facts_of text) us) 1).count s) (part_breaches (inner_from r) (map (facts_of text) us) s (scope_within r name s)) inner in
      each_quiet (map (facts_of text) us) s s (subst (λ (z : Scope). part_breaches 0 (map (facts_of text) us) s z ≡ []) (still name s) (subst (λ (n : ℕ). part_breaches n (map (facts_of text) us) s (scope_within r name s) ≡ []) from parts)) i

  same_scope : (name : Option Token) (s : Scope) → scope_within Other name s ≡ s
  same_scope None s = refl
  same_scope (Some name) s = refl

  pub other_quiet : (f : Form) (us : List Tree) (s : Scope) → role_of f ≡ Other → (facts_of text (Node f us)).breaches s ≡ [] → (i : ℕ) → (part_at (map (facts_of text) us) i).breaches s ≡ []
  other_quiet = still_quiet Other refl same_scope
