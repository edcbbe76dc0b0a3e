-- The literals of what a tree stands for are words.
use Rattle.std.proofs.Common.{◌≡◌, ℕ, zero, suc, ℤ, ◌+◌, Bool, true, false, List, [], ◌∷◌, ◌++◌, map, Option, Some, None, pos, refl, sym, ap, ◌∙◌, subst}
use Rattle.std.specs.Prelude.{unwrap_or, slice_get, if◌then◌else◌, ◌&&◌, neg_ℤ}
use Rattle.fin_base.specs.declared.terms.Op.{Op}
use Rattle.fin_base.specs.declared.terms.Op.TheVariants.{Add, Sub, Mul}
use Rattle.fin_base.specs.declared.reduce.Reduce.{Reduce}
use Rattle.fin_ast.specs.declared.tree.Index.{Index}
use Rattle.fin_ast.specs.declared.tree.Expr.{Expr}
use Rattle.fin_ast.specs.declared.tree.Expr.TheVariants as expr
use Rattle.fin_ast.specs.declared.tree.Stmt.{Stmt}
use Rattle.fin_ast.specs.declared.tree.Stmt.TheVariants as stmt
use Rattle.fin_ast.specs.Literals.{is_worded, worded_stmt_step, is_worded_stmt, are_worded}
use Rattle.fin_ast.proofs.Nodes as node
use Rattle.fin_ast.proofs.Wording.{wrapped_is_word, num_worded, var_worded, read_worded, neg_worded, two_worded, one_worded, worded_joined}
use Rattle.fin_lex.specs.declared.token.Token.{Token}
use Rattle.fin_parse.specs.declared.grammar.Form.{Form}
use Rattle.fin_parse.specs.declared.grammar.Form.TheVariants as form
use Rattle.fin_parse.specs.declared.scope.Tensor.{Tensor}
use Rattle.fin_parse.specs.declared.tree.Tree.{Tree}
use Rattle.fin_parse.specs.Elaboration.{Elaboration, Naming, naming_of, with_variable, nothing, part, plus_word, minus_word, line_of, variable_number, tensor_number, named_value, value_at, onto_at, onto_all, joined_at, turned, declared, updated, stmts_in, stmts_at, elaboration_step, elaboration_of, statements_of}
use Rattle.fin_parse.specs.Terms.{op_of, reduce_of, is_par, is_freeze}
use Rattle.fin_parse.proofs.Nodes.{of_leaf, of_group, of_node, All, tree_ind}

abbrev Worded : Expr → Type 0
Worded x = is_worded x ≡ true

abbrev AreWorded : List Stmt → Type 0
AreWorded xs = are_worded xs ≡ true

pub record IsWorded (u : Elaboration) : Type 0 where
  pub value : (s : Naming) → Worded (u.value s)
  pub onto : (s : Naming) (x : Expr) → Worded x → Worded (u.onto s x)
  pub joined : (s : Naming) (o : Op) → Worded (u.joined s o)
  pub stmts : (lead : Option Token) (s : Naming) (n : ℕ) → AreWorded (u.stmts lead s n)

zero_worded : Worded (expr.Num (pos 0))
zero_worded = num_worded (pos 0) refl

plus_worded : (n : ℕ) → Worded (expr.Num (plus_word n))
plus_worded n = num_worded (plus_word n) (wrapped_is_word (pos n))

minus_worded : (n : ℕ) → Worded (expr.Num (minus_word n))
minus_worded n = num_worded (minus_word n) (wrapped_is_word (neg_ℤ (pos n)))

nothing_worded : IsWorded nothing
nothing_worded = record { value = λ s. zero_worded; onto = λ s x h. h; joined = λ s o. zero_worded; stmts = λ lead s n. refl }

abbrev AllWorded : List Elaboration → Type 0
AllWorded [] = Unit {0}
AllWorded (u ∷ us) = IsWorded u × AllWorded us

part_worded : (us : List Elaboration) → AllWorded us → (i : ℕ) → IsWorded (part us i)
part_worded [] all i = nothing_worded
part_worded (u ∷ us) all zero = all.0
part_worded (u ∷ us) all (suc i) = part_worded us all.1 i

module _ (text : List ℕ) where
  named_worded : (name : Option Token) (b : Bool) (at : List Index) (s : Naming) → Worded (named_value text name b at s)
  named_worded name false at s = var_worded (unwrap_or (variable_number text s name) 0) (line_of name)
  named_worded name true at s = read_worded (unwrap_or (tensor_number text s name) 0) at (line_of name)

  onto_all_worded : (us : List Elaboration) → AllWorded us → (s : Naming) (x : Expr) → Worded x → Worded (onto_all text us s x)
  onto_all_worded [] all s x h = h
  onto_all_worded (u ∷ us) all s x h = onto_all_worded us all.1 s (u.onto s x) (all.0.onto s x h)

  stmts_in_worded : (us : List Elaboration) → AllWorded us → (s : Naming) (n : ℕ) → AreWorded (stmts_in text us s n)
  stmts_in_worded [] all s n = refl
  stmts_in_worded (u ∷ us) all s n = worded_joined (u.stmts None s n) (stmts_in text us s (n + u.binders)) (all.0.stmts None s n) (stmts_in_worded us all.1 s (n + u.binders))

  module _ (us : List Elaboration) (all : AllWorded us) where
    at : (i : ℕ) → IsWorded (part us i)
    at = part_worded us all

    value_worded : (f : Form) (s : Naming) → Worded (value_at text f us s)
    value_worded form.Expr s = (at 1).onto s ((part us 0).value s) ((at 0).value s)
    value_worded form.Sum s = (at 1).onto s ((part us 0).value s) ((at 0).value s)
    value_worded form.Term s = (at 1).onto s ((part us 0).value s) ((at 0).value s)
    value_worded form.NumberUnary s = plus_worded (part us 0).size
    value_worded form.OtherUnary s = (at 0).value s
    value_worded form.Negation s = (at 1).value s
    value_worded form.NegatedNumber s = minus_worded (part us 0).size
    value_worded form.NegatedWidest s = minus_worded (part us 0).size
    value_worded form.NegatedOperand s = neg_worded ((part us 0).value s) ((at 0).value s)
    value_worded form.NamedOperand s = named_worded (part us 0).first (part us 1).indexed ((part us 1).indices s) s
    value_worded form.Parentheses s = (at 1).value s
    value_worded form.Call s = (at 2).joined s (op_of (part us 0).first)
    value_worded _ s = zero_worded

    onto_worded : (f : Form) (s : Naming) (x : Expr) → Worded x → Worded (onto_at text f us s x)
    onto_worded form.Compared s x h = two_worded (op_of (part us 0).first) x ((part us 1).value s) h ((at 1).value s)
    onto_worded form.PlusTerm s x h = two_worded Add x ((part us 1).value s) h ((at 1).value s)
    onto_worded form.MinusTerm s x h = two_worded Sub x ((part us 1).value s) h ((at 1).value s)
    onto_worded form.NextUnary s x h = two_worded Mul x ((part us 1).value s) h ((at 1).value s)
    onto_worded _ s x h = h

    joined_worded : (f : Form) (s : Naming) (o : Op) → Worded (joined_at text f us s o)
    joined_worded form.Pair s o = two_worded o ((part us 0).value s) ((part us 2).value s) ((at 0).value s) ((at 2).value s)
    joined_worded _ s o = zero_worded

    turned_worded : (t : Option ℕ) (lead : Option Token) → AreWorded (turned text t lead)
    turned_worded None lead = refl
    turned_worded (Some tensor) lead = elim (is_freeze lead) as (λ b. AreWorded (if b then stmt.Freeze tensor (line_of lead) ∷ [] else stmt.Thaw tensor (line_of lead) ∷ [])) [
      | true ↦ one_worded (stmt.Freeze tensor (line_of lead)) (node.of_freeze Bool worded_stmt_step tensor (line_of lead))
      | false ↦ one_worded (stmt.Thaw tensor (line_of lead)) (node.of_thaw Bool worded_stmt_step tensor (line_of lead))
    ]

    declared_worded : (t : Option ℕ) (value : ℤ) (line : ℕ) → AreWorded (declared text t value line)
    declared_worded None value line = refl
    declared_worded (Some tensor) value line = one_worded (stmt.Declare tensor value line) (node.of_declare Bool worded_stmt_step tensor value line)

    updated_worded : (t : Option ℕ) (is : List Index) (by : Reduce) (value : Expr) (line : ℕ) → Worded value → AreWorded (updated text t is by value line)
    updated_worded None is by value line h = refl
    updated_worded (Some tensor) is by value line h = one_worded (stmt.Update tensor is by value line) (node.of_update Bool worded_stmt_step tensor is by value line ∙ h)

    both : (a b : Bool) → a ≡ true → b ≡ true → (a && b) ≡ true
    both true b h k = k
    both false b h k = h

    stmts_worded : (f : Form) (lead : Option Token) (s : Naming) (n : ℕ) → AreWorded (stmts_at text f us lead s n)
    stmts_worded form.Loop lead s n = (at 1).stmts (part us 0).first s n
    stmts_worded form.Turns lead s n =
        let inner = with_variable s (part us 0).first n in
        let body = (part us 2).stmts None inner (n + 1) in
        one_worded (stmt.Loop n (part us 1).range (is_par lead) body (line_of lead) (line_of (part us 2).closing)) (node.of_loop Bool worded_stmt_step n (part us 1).range (is_par lead) body (line_of lead) (line_of (part us 2).closing) ∙ (at 2).stmts None inner (n + 1))
    stmts_worded form.If lead s n =
        let test = (part us 1).value s in
        let body = (part us 2).stmts None s n in
        one_worded (stmt.Cond test body (line_of (part us 0).first) (line_of (part us 2).closing)) (node.of_cond Bool worded_stmt_step test body (line_of (part us 0).first) (line_of (part us 2).closing) ∙ both (is_worded test) (are_worded body) ((at 1).value s) ((at 2).stmts None s n))
    stmts_worded form.Let lead s n =
        let value = (part us 3).value s in
        let inner = with_variable s (part us 1).first n in
        let body = (part us 4).stmts None inner (n + 1) in
        one_worded (stmt.Bind n value body (line_of (part us 0).first) (line_of (part us 4).closing)) (node.of_bind Bool worded_stmt_step n value body (line_of (part us 0).first) (line_of (part us 4).closing) ∙ both (is_worded value) (are_worded body) ((at 3).value s) ((at 4).stmts None inner (n + 1)))
    stmts_worded form.Block lead s n =
        let body = (part us 0).stmts None s n in
        one_worded (stmt.Block body (line_of (part us 0).first) (line_of (part us 0).closing)) (node.of_block Bool worded_stmt_step body (line_of (part us 0).first) (line_of (part us 0).closing) ∙ (at 0).stmts None s n)
    stmts_worded form.Turn lead s n = turned_worded (tensor_number text s (part us 1).first) (part us 0).first
    stmts_worded form.Named lead s n = (at 1).stmts (part us 0).first s n
    stmts_worded form.Declaration lead s n = declared_worded (tensor_number text s lead) (part us 1).number (line_of lead)
    stmts_worded form.Update lead s n = updated_worded (tensor_number text s lead) ((part us 1).indices s) (reduce_of (part us 3).first) ((part us 4).value s) (line_of lead) ((at 4).value s)
    stmts_worded form.Body lead s n = (at 1).stmts None s n
    stmts_worded form.Stmts lead s n = (at 0).stmts None s n
    stmts_worded _ lead s n = refl

  abbrev Held : Tree → Type 0
  Held t = IsWorded (elaboration_of text t)

  all_held : (us : List Tree) → All Held us → AllWorded (map (elaboration_of text) us)
  all_held [] h = tt
  all_held (u ∷ us) h = (h.0, all_held us h.1)

  tree_worded : (t : Tree) → Held t
  tree_worded = tree_ind Held
      (λ t. subst IsWorded (sym (of_leaf Elaboration (elaboration_step text) t)) (record { value = λ s. zero_worded; onto = λ s x h. h; joined = λ s o. zero_worded; stmts = λ lead s n. refl }))
      (λ us h. subst IsWorded (sym (of_group Elaboration (elaboration_step text) us)) (record {
        value = λ s. zero_worded;
        onto = onto_all_worded (map (elaboration_of text) us) (all_held us h);
        joined = λ s o. zero_worded;
        stmts = λ lead s n. stmts_in_worded (map (elaboration_of text) us) (all_held us h) s n;
      }))
      (λ f us h. subst IsWorded (sym (of_node Elaboration (elaboration_step text) f us)) (record {
        value = value_worded (map (elaboration_of text) us) (all_held us h) f;
        onto = onto_worded (map (elaboration_of text) us) (all_held us h) f;
        joined = joined_worded (map (elaboration_of text) us) (all_held us h) f;
        stmts = stmts_worded (map (elaboration_of text) us) (all_held us h) f;
      }))

  trees_worded : (us : List Tree) → AllWorded (map (elaboration_of text) us)
  trees_worded [] = tt
  trees_worded (u ∷ us) = (tree_worded u, trees_worded us)

  pub statements_worded : (tensors : List Tensor) (body : List Tree) → AreWorded (statements_of text tensors body)
  statements_worded tensors body = stmts_in_worded (map (elaboration_of text) body) (trees_worded body) (naming_of tensors []) 0
