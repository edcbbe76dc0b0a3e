-- Statements whose names and fills break no rule name headers, loops and lets around them.
use Rattle.std.proofs.Common.{◌≡◌, ◌≤◌, ℕ, ◌+◌, zero, suc, ℤ, ◌==◌, Bool, true, false, ◌&&◌, ◌||◌, List, [], ◌∷◌, ◌++◌, map, length, Option, Some, None, unwrap_or, refl, sym, ap, ◌∙◌, subst, arith}
use Rattle.std.proofs.lemmas.List.{append-nil}
use Rattle.std.specs.Prelude.{is_some, if◌then◌else◌, nat_eq, slice_get}
use Rattle.std.specs.List.{list_all, list_any, find}
use Rattle.std.specs.Ordering.{int_eq}
use Rattle.std.proofs.lemmas.Bool.{eqb-true}
use Rattle.std.proofs.lemmas.Bool.Decides.{Decides-eqb, Decides-int_eq}
use Rattle.std.proofs.lemmas.List.Folds.{list_all-append}
use Rattle.fin_base.specs.declared.refusal.Refusal.{Refusal}
use Rattle.fin_base.specs.declared.reduce.Reduce.{Reduce}
use Rattle.fin_ast.specs.declared.header.Header.{Header}
use Rattle.fin_ast.specs.declared.tree.Index.{Index}
use Rattle.fin_ast.specs.declared.tree.Expr.{Expr}
use Rattle.fin_ast.specs.declared.tree.Stmt.{Stmt}
use Rattle.fin_ast.specs.declared.tree.Stmt.TheVariants as stmt
use Rattle.fin_ast.specs.declared.tree.Stmt.TheOpen.{Stmt-F}
use Rattle.fin_ast.specs.Scope as ast
use Rattle.fin_ast.specs.Scope.{is_index, is_access, is_tensor, is_declaration, is_among, is_named_expr, is_named, all_named, stmt_step, within_loop, within_let, holds_of}
use Rattle.fin_ast.proofs.Nodes.{of_block, of_loop, of_cond, of_bind, of_declare, of_freeze, of_thaw, of_update}
use Rattle.fin_lex.specs.declared.token.Token.{Token}
use Rattle.fin_parse.specs.declared.grammar.Phrase.{Phrase}
use Rattle.fin_parse.specs.declared.grammar.Phrase.TheVariants as phrase
use Rattle.fin_parse.specs.declared.grammar.Form.{Form}
use Rattle.fin_parse.specs.declared.grammar.Form.TheVariants as form
use Rattle.fin_parse.specs.declared.grammar.Symbol.TheVariants.{Many}
use Rattle.fin_parse.specs.declared.roles.Role.{Role}
use Rattle.fin_parse.specs.declared.roles.Role.TheVariants.{LoopName, LetName, Changed, Turned, Other}
use Rattle.fin_parse.specs.declared.scope.Tensor.{Tensor}
use Rattle.fin_parse.specs.declared.scope.Bound.{Bound}
use Rattle.fin_parse.specs.declared.scope.Fill.{Fill}
use Rattle.fin_parse.specs.declared.scope.Literal.{Literal}
use Rattle.fin_parse.specs.declared.naming.Variable.{Variable}
use Rattle.fin_parse.specs.declared.tree.Tree.{Tree}
use Rattle.fin_parse.specs.declared.tree.Tree.TheVariants.{Leaf, Node, Group}
use Rattle.fin_parse.specs.declared.tree.Tree.TheOpen.{Tree-F}
use Rattle.fin_parse.specs.declared.tree.Room.{Room}
use Rattle.fin_parse.specs.Fills.{fill_named, fill_breach, unlike, same_literal, same_bool, literal_of, head_token, is_declares}
use Rattle.fin_parse.specs.Leaves.{Leaves, leaves_of, leaves_step, leaves_at, fills_of, own_fills, all_of}
use Rattle.fin_parse.specs.Names.{Facts, Scope, facts_of, facts_step, part_at, part_breaches, own_breaches, named_breaches, tensor_named, tensor_use, scope_within, with_bound}
use Rattle.fin_parse.specs.Roles.{role_of}
use Rattle.fin_parse.specs.Syntax.{Sign}
use Rattle.fin_parse.specs.Terms.{is_par, is_freeze, reduce_of}
use Rattle.fin_parse.specs.Elaboration.{Elaboration, Naming, elaboration_of, elaboration_step, stmts_at, stmts_in, tensor_number, tensor_from, with_variable, turned, declared, updated, part, line_of, plus_word, minus_word}
use Rattle.fin_parse.proofs.Bounds.{AreBound, later, one_more}
use Rattle.fin_parse.proofs.Counting.{capped, counts}
use Rattle.fin_parse.proofs.Induction.{Each, Kept}
use Rattle.fin_parse.proofs.Keeping.{AreNamed, Context, Agrees, Valued, AreIndices, Stated, Changes, IsLiteral, AreNamedIn, Keeps, Quiet, literal_word, first_nil, second_nil, each_quiet, own_quiet, parts_quiet, still_quiet, other_quiet}
use Rattle.fin_parse.proofs.NamedTerms.{quiet_if, both_true, access_named}
use Rattle.fin_parse.proofs.Nodes.{of_leaf, of_group, of_node}

-- ---- statements of the syntax tree

module _ (q : ast.Scope) where
  one_named : (s : Stmt) → is_named s q ≡ true → all_named (map is_named (s ∷ [])) q ≡ true
  one_named s h = both_true (is_named s q) true h refl

  joined_named : (ss ts : List Stmt) → all_named (map is_named ss) q ≡ true → all_named (map is_named ts) q ≡ true → all_named (map is_named (ss ++ ts)) q ≡ true
  joined_named [] ts h k = k
  joined_named (s ∷ ss) ts h k = rest (is_named s q) h (λ m. joined_named ss ts m k) where
    rest : (b : Bool) → b && all_named (map is_named ss) q ≡ true → (all_named (map is_named ss) q ≡ true → all_named (map is_named (ss ++ ts)) q ≡ true) → b && all_named (map is_named (ss ++ ts)) q ≡ true
    rest true h next = next h
    rest false h next = cc

  block_named : (body : List Stmt) (line last : ℕ) → all_named (map is_named body) q ≡ true → is_named (stmt.Block body line last) q ≡ true
  block_named body line last h = ap (λ (g : ast.Scope → Bool). g q) (of_block (ast.Scope → Bool) stmt_step body line last) ∙ h

  loop_named : (var : ℕ) (range : Option (ℕ × ℕ)) (par : Bool) (body : List Stmt) (line last : ℕ) → all_named (map is_named body) (within_loop q var) ≡ true → is_named (stmt.Loop var range par body line last) q ≡ true
  loop_named var range par body line last h = ap (λ (g : ast.Scope → Bool). g q) (of_loop (ast.Scope → Bool) stmt_step var range par body line last) ∙ h

  cond_named : (test : Expr) (body : List Stmt) (line last : ℕ) → is_named_expr test q ≡ true → all_named (map is_named body) q ≡ true → is_named (stmt.Cond test body line last) q ≡ true
  cond_named test body line last h k = ap (λ (g : ast.Scope → Bool). g q) (of_cond (ast.Scope → Bool) stmt_step test body line last) ∙ both_true (is_named_expr test q) (all_named (map is_named body) q) h k

  bind_named : (var : ℕ) (value : Expr) (body : List Stmt) (line last : ℕ) → is_named_expr value q ≡ true → all_named (map is_named body) (within_let q var) ≡ true → is_named (stmt.Bind var value body line last) q ≡ true
  bind_named var value body line last h k = ap (λ (g : ast.Scope → Bool). g q) (of_bind (ast.Scope → Bool) stmt_step var value body line last) ∙ both_true (is_named_expr value q) (all_named (map is_named body) (within_let q var)) h k

  declare_named : (tensor : ℕ) (value : ℤ) (line : ℕ) → is_declaration q tensor value ≡ true → is_named (stmt.Declare tensor value line) q ≡ true
  declare_named tensor value line h = ap (λ (g : ast.Scope → Bool). g q) (of_declare (ast.Scope → Bool) stmt_step tensor value line) ∙ h

  freeze_named : (tensor line : ℕ) → is_tensor q tensor ≡ true → is_named (stmt.Freeze tensor line) q ≡ true
  freeze_named tensor line h = ap (λ (g : ast.Scope → Bool). g q) (of_freeze (ast.Scope → Bool) stmt_step tensor line) ∙ h

  thaw_named : (tensor line : ℕ) → is_tensor q tensor ≡ true → is_named (stmt.Thaw tensor line) q ≡ true
  thaw_named tensor line h = ap (λ (g : ast.Scope → Bool). g q) (of_thaw (ast.Scope → Bool) stmt_step tensor line) ∙ h

  update_named : (tensor : ℕ) (at : List Index) (by : Reduce) (value : Expr) (line : ℕ) → is_access q tensor at ≡ true → is_named_expr value q ≡ true → is_named (stmt.Update tensor at by value line) q ≡ true
  update_named tensor at by value line h k = ap (λ (g : ast.Scope → Bool). g q) (of_update (ast.Scope → Bool) stmt_step tensor at by value line) ∙ both_true (is_access q tensor at) (is_named_expr value q) h k

-- ---- places within a loop or let, and behind a statement

module _ (text : List ℕ) (fills : List Fill) where
  abbrev facts : Tree → Facts
  facts = facts_of text

  abbrev elaboration : Tree → Elaboration
  elaboration = elaboration_of text

  abbrev Holds : Room → Phrase → List Sign → Tree → Type 0
  Holds k n x t = Keeps text fills n t

  abbrev behind : Context → ℕ → Context
  behind c n = record { scope = c.scope; naming = c.naming; next = c.next + n; around = c.around }

  behind_agrees : (c : Context) (n : ℕ) → Agrees text fills c → Agrees text fills (behind c n)
  behind_agrees c n g = record { tensors = g.tensors; named = g.named; bound = later text c.scope.bound c.naming.bound c.next (c.next + n) c.around.loops c.around.lets (omega arith) g.bound }

  abbrev in_loop : Context → Token → Context
  in_loop c t = record { scope = with_bound c.scope (record { name = t; is_loop = true }); naming = with_variable c.naming (Some t) c.next; next = c.next + 1; around = within_loop c.around c.next }

  abbrev in_let : Context → Token → Context
  in_let c t = record { scope = with_bound c.scope (record { name = t; is_loop = false }); naming = with_variable c.naming (Some t) c.next; next = c.next + 1; around = within_let c.around c.next }

  still_among : (v : ℕ) (vs : List ℕ) (x : ℕ) → is_among vs x ≡ true → is_among (v ∷ vs) x ≡ true
  still_among v vs x h = either (nat_eq x v) h where
    either : (b : Bool) → is_among vs x ≡ true → b || is_among vs x ≡ true
    either true h = refl
    either false h = h

  among_first : (v : ℕ) (vs : List ℕ) → is_among (v ∷ vs) v ≡ true
  among_first v vs = ap (λ b. b || is_among vs v) ((Decides-eqb v v).1 refl)

  or_last : (a b : Bool) → b ≡ true → a || b ≡ true
  or_last true b h = refl
  or_last false b h = h

  loop_agrees : (c : Context) (t : Token) → Agrees text fills c → Agrees text fills (in_loop c t)
  loop_agrees c t g = record {
    tensors = g.tensors;
    named = g.named;
    bound =
        one_more text c.scope.bound c.naming.bound c.next c.around.loops c.around.lets (c.next ∷ c.around.loops) c.around.lets t true
        (still_among c.next c.around.loops) (λ x h. h) (ap (λ b. b || is_among c.around.lets c.next) (among_first c.next c.around.loops)) (λ h. among_first c.next c.around.loops) g.bound;
  }

  let_agrees : (c : Context) (t : Token) → Agrees text fills c → Agrees text fills (in_let c t)
  let_agrees c t g = record {
    tensors = g.tensors;
    named = g.named;
    bound =
        one_more text c.scope.bound c.naming.bound c.next c.around.loops c.around.lets c.around.loops (c.next ∷ c.around.lets) t false
        (λ x h. h) (still_among c.next c.around.lets) (or_last (is_among c.around.loops c.next) (is_among (c.next ∷ c.around.lets) c.next) (among_first c.next c.around.lets)) (λ h. cc) g.bound;
  }

  -- ---- fills of parts

  pub each_fills : (ls : List Leaves) → fills_of ls text fills ≡ [] → (i : ℕ) → (leaves_at ls i).fills text fills ≡ []
  each_fills [] h i = refl
  each_fills (l ∷ ls) h zero = first_nil (l.fills text fills) (fills_of ls text fills) h
  each_fills (l ∷ ls) h (suc i) = each_fills ls (second_nil (l.fills text fills) (fills_of ls text fills) h) i

  node_fills : (f : Form) (us : List Tree) → (leaves_of (Node f us)).fills text fills ≡ [] → own_fills (role_of f) (leaves_at (map leaves_of us) 0).all (leaves_at (map leaves_of us) 1).all text fills ++ fills_of (map leaves_of us) text fills ≡ []
  node_fills f us h = sym (ap (λ (l : Leaves). l.fills text fills) (of_node Leaves leaves_step f us)) ∙ h

  parts_fills : (f : Form) (us : List Tree) → (leaves_of (Node f us)).fills text fills ≡ [] → (i : ℕ) → (leaves_at (map leaves_of us) i).fills text fills ≡ []
  parts_fills f us h = each_fills (map leaves_of us) (second_nil (own_fills (role_of f) (leaves_at (map leaves_of us) 0).all (leaves_at (map leaves_of us) 1).all text fills) (fills_of (map leaves_of us) text fills) (node_fills f us h))

  -- ---- statements in a row

  pub stmts_row : (us : List Tree) → (k : Room) (x : List Sign) → Each Holds k phrase.Stmt x us → (c : Context) → Agrees text fills c → part_breaches 0 (map facts us) c.scope c.scope ≡ [] → fills_of (map leaves_of us) text fills ≡ [] → AreNamedIn text fills c (stmts_in text (map elaboration us) c.naming c.next)
  stmts_row [] k x h c g quiet right = refl
  stmts_row (u ∷ us) k x (y, z, cut, first, rest) c g quiet right =
      joined_named c.around ((elaboration u).stmts None c.naming c.next) (stmts_in text (map elaboration us) c.naming (c.next + (elaboration u).binders))
      (first c g (first_nil ((facts u).breaches c.scope) (part_breaches 0 (map facts us) c.scope c.scope) quiet) (first_nil ((leaves_of u).fills text fills) (fills_of (map leaves_of us) text fills) right) None)
      (stmts_row us k z rest (behind c (elaboration u).binders) (behind_agrees c (elaboration u).binders g) (second_nil ((facts u).breaches c.scope) (part_breaches 0 (map facts us) c.scope c.scope) quiet) (second_nil ((leaves_of u).fills text fills) (fills_of (map leaves_of us) text fills) right))

  group_stated : (us : List Tree) → (k : Room) (x : List Sign) → Each Holds k phrase.Stmt x us → Stated text fills (Group us)
  group_stated us k x h c g quiet right lead =
      ap (λ (e : Elaboration). all_named (map is_named (e.stmts lead c.naming c.next)) c.around) (of_group Elaboration (elaboration_step text) us)
      ∙ stmts_row us k x h c g (sym (ap (λ (f : Facts). f.breaches c.scope) (of_group Facts (facts_step text) us)) ∙ quiet) (sym (ap (λ (l : Leaves). l.fills text fills) (of_group Leaves leaves_step us)) ∙ right)

  pub many_stated : (k : Room) (x : List Sign) (v : Tree) → Kept Holds k (Many phrase.Stmt) x v → Stated text fills v
  many_stated k x v (us, is, each) = subst (Stated text fills) (sym is) (group_stated us k x each)

  -- ---- the forms of statements

  node_stmts : (f : Form) (us : List Tree) (lead : Option Token) (s : Naming) (n : ℕ) → (elaboration (Node f us)).stmts lead s n ≡ stmts_at text f (map elaboration us) lead s n
  node_stmts f us lead s n = ap (λ (e : Elaboration). e.stmts lead s n) (of_node Elaboration (elaboration_step text) f us)

  stated : (f : Form) (us : List Tree) → ((c : Context) → Agrees text fills c → Quiet text fills c (facts (Node f us)) → (leaves_of (Node f us)).fills text fills ≡ [] → (lead : Option Token) → AreNamedIn text fills c (stmts_at text f (map elaboration us) lead c.naming c.next)) → Stated text fills (Node f us)
  stated f us h c g quiet right lead = ap (λ (ss : List Stmt). all_named (map is_named ss) c.around) (node_stmts f us lead c.naming c.next) ∙ h c g quiet right lead

  -- statements that are a part's
  pub lifted_stmts : (f : Form) (us : List Tree) (i : ℕ) (inner : Option Token) → ((lead : Option Token) (s : Naming) (n : ℕ) → stmts_at text f (map elaboration us) lead s n ≡ (part (map elaboration us) i).stmts inner s n) → role_of f ≡ Other
      → ((c : Context) → Agrees text fills c → (part_at (map facts us) i).breaches c.scope ≡ [] → (leaves_at (map leaves_of us) i).fills text fills ≡ [] → AreNamedIn text fills c ((part (map elaboration us) i).stmts inner c.naming c.next)) → Stated text fills (Node f us)
  lifted_stmts f us i inner is other h = stated f us (λ c g quiet right lead.
      ap (λ (ss : List Stmt). all_named (map is_named ss) c.around) (is lead c.naming c.next) ∙ h c g (other_quiet text f us c.scope other quiet i) (parts_fills f us right i))

  pub blocked : (b : Tree) → Stated text fills b → Stated text fills (Node form.Block (b ∷ []))
  blocked b h = stated form.Block (b ∷ []) (λ c g quiet right lead.
      one_named c.around _ (block_named c.around ((elaboration b).stmts None c.naming c.next) (line_of (elaboration b).first) (line_of (elaboration b).closing) (h c g (other_quiet text form.Block (b ∷ []) c.scope refl quiet 0) (parts_fills form.Block (b ∷ []) right 0) None)))

  pub tested : (a e b : Tree) → Valued text fills e → Stated text fills b → Stated text fills (Node form.If (a ∷ e ∷ b ∷ []))
  tested a e b h k = stated form.If (a ∷ e ∷ b ∷ []) (λ c g quiet right lead.
      one_named c.around _ (cond_named c.around ((elaboration e).value c.naming) ((elaboration b).stmts None c.naming c.next) (line_of (elaboration a).first) (line_of (elaboration b).closing)
      (h c g (other_quiet text form.If (a ∷ e ∷ b ∷ []) c.scope refl quiet 1)) (k c g (other_quiet text form.If (a ∷ e ∷ b ∷ []) c.scope refl quiet 2) (parts_fills form.If (a ∷ e ∷ b ∷ []) right 2) None)))

  abbrev leaf_token : (t : Token) → (facts (Leaf t)).token ≡ Some t
  leaf_token t = ap (λ (f : Facts). f.token) (of_leaf Facts (facts_step text) t)

  abbrev leaf_first : (t : Token) → (elaboration (Leaf t)).first ≡ Some t
  leaf_first t = ap (λ (e : Elaboration). e.first) (of_leaf Elaboration (elaboration_step text) t)

  abbrev leaf_all : (t : Token) → (leaves_of (Leaf t)).all ≡ t ∷ []
  leaf_all t = ap (λ (l : Leaves). l.all) (of_leaf Leaves leaves_step t)

  pub looped : (t : Token) (r b : Tree) → Stated text fills b → Stated text fills (Node form.Turns (Leaf t ∷ r ∷ b ∷ []))
  looped t r b h = stated form.Turns (Leaf t ∷ r ∷ b ∷ []) (λ c g quiet right lead.
      let parts = subst (λ (o : Option Token). part_breaches 0 (map facts (Leaf t ∷ r ∷ b ∷ [])) c.scope (scope_within LoopName o c.scope) ≡ []) (leaf_token t) (parts_quiet text form.Turns (Leaf t ∷ r ∷ b ∷ []) c.scope quiet) in
      let body : all_named (map is_named ((elaboration b).stmts None (with_variable c.naming (Some t) c.next) (c.next + 1))) (within_loop c.around c.next) ≡ true =
      h (in_loop c t) (loop_agrees c t g) (each_quiet (map facts (Leaf t ∷ r ∷ b ∷ [])) c.scope (with_bound c.scope (record { name = t; is_loop = true })) parts 2) (parts_fills form.Turns (Leaf t ∷ r ∷ b ∷ []) right 2) None in
      one_named c.around _ (loop_named c.around c.next (elaboration r).range (is_par lead) ((elaboration b).stmts None (with_variable c.naming (elaboration (Leaf t)).first c.next) (c.next + 1)) (line_of lead) (line_of (elaboration b).closing)
      (ap (λ (o : Option Token). all_named (map is_named ((elaboration b).stmts None (with_variable c.naming o c.next) (c.next + 1))) (within_loop c.around c.next)) (leaf_first t) ∙ body)))

  let_value : (f0 f1 f2 f3 f4 : Facts) (outer inner : Scope) → part_breaches 4 (f0 ∷ f1 ∷ f2 ∷ f3 ∷ f4 ∷ []) outer inner ≡ [] → (f3.breaches outer ≡ []) × (f4.breaches inner ≡ [])
  let_value f0 f1 f2 f3 f4 outer inner h =
      let a = second_nil (f0.breaches outer) (f1.breaches outer ++ (f2.breaches outer ++ (f3.breaches outer ++ (f4.breaches inner ++ [])))) h in
      let b = second_nil (f1.breaches outer) (f2.breaches outer ++ (f3.breaches outer ++ (f4.breaches inner ++ []))) a in
      let d = second_nil (f2.breaches outer) (f3.breaches outer ++ (f4.breaches inner ++ [])) b in
      (first_nil (f3.breaches outer) (f4.breaches inner ++ []) d, first_nil (f4.breaches inner) [] (second_nil (f3.breaches outer) (f4.breaches inner ++ []) d))

  pub bound : (l : Tree) (t : Token) (e v b : Tree) → Valued text fills v → Stated text fills b → Stated text fills (Node form.Let (l ∷ Leaf t ∷ e ∷ v ∷ b ∷ []))
  bound l t e v b h k = stated form.Let (l ∷ Leaf t ∷ e ∷ v ∷ b ∷ []) (λ c g quiet right lead.
      let parts = subst (λ (o : Option Token). part_breaches 4 (map facts (l ∷ Leaf t ∷ e ∷ v ∷ b ∷ [])) c.scope (scope_within LetName o c.scope) ≡ []) (leaf_token t) (parts_quiet text form.Let (l ∷ Leaf t ∷ e ∷ v ∷ b ∷ []) c.scope quiet) in
      let (outer, inner) = let_value (facts l) (facts (Leaf t)) (facts e) (facts v) (facts b) c.scope (with_bound c.scope (record { name = t; is_loop = false })) parts in
      let body : all_named (map is_named ((elaboration b).stmts None (with_variable c.naming (Some t) c.next) (c.next + 1))) (within_let c.around c.next) ≡ true = k (in_let c t) (let_agrees c t g) inner (parts_fills form.Let (l ∷ Leaf t ∷ e ∷ v ∷ b ∷ []) right 4) None in
      one_named c.around _ (bind_named c.around c.next ((elaboration v).value c.naming) ((elaboration b).stmts None (with_variable c.naming (elaboration (Leaf t)).first c.next) (c.next + 1)) (line_of (elaboration l).first) (line_of (elaboration b).closing)
      (h c g outer) (ap (λ (o : Option Token). all_named (map is_named ((elaboration b).stmts None (with_variable c.naming o c.next) (c.next + 1))) (within_let c.around c.next)) (leaf_first t) ∙ body)))

  -- ---- tensors

  there : (name : Token) (o : Option Tensor) → tensor_use name None o ≡ [] → (t : Tensor) × (o ≡ Some t)
  there name None h = cc
  there name (Some t) h = (t, refl)

  tensor_there : (c : Context) → Agrees text fills c → (name : Token) → tensor_use name None (tensor_named text c.scope.tensors name) ≡ [] → (k : ℕ) × (d : Header) × (tensor_from 0 text c.scope.tensors name ≡ Some k) × (slice_get c.around.headers k ≡ Some d)
  tensor_there c g name h =
      let (t, is) = there name (tensor_named text c.scope.tensors name) h in
      let (k, d, at, header, levels, few) = g.named.named name t is in
      (k, d, at, header)

  turned_named : (c : Context) (k : ℕ) (d : Header) (lead : Option Token) → slice_get c.around.headers k ≡ Some d → (b : Bool) → AreNamedIn text fills c (if b then stmt.Freeze k (line_of lead) ∷ [] else stmt.Thaw k (line_of lead) ∷ [])
  turned_named c k d lead header true = one_named c.around _ (freeze_named c.around k (line_of lead) (ap (λ (o : Option Header). holds_of (λ h. true) o) header))
  turned_named c k d lead header false = one_named c.around _ (thaw_named c.around k (line_of lead) (ap (λ (o : Option Header). holds_of (λ h. true) o) header))

  pub turning : (a : Tree) (t : Token) → Stated text fills (Node form.Turn (a ∷ Leaf t ∷ []))
  turning a t = stated form.Turn (a ∷ Leaf t ∷ []) (λ c g quiet right lead.
      let own : tensor_use t None (tensor_named text c.scope.tensors t) ≡ [] = subst (λ (o : Option Token). named_breaches text Turned o (facts (Leaf t)).count c.scope ≡ []) (leaf_token t) (own_quiet text form.Turn (a ∷ Leaf t ∷ []) c.scope quiet) in
      let (k, d, at, header) = tensor_there c g t own in
      ap (λ (o : Option Token). all_named (map is_named (turned text (tensor_number text c.naming o) (elaboration a).first)) c.around) (leaf_first t)
      ∙ ap (λ (ts : List Tensor). all_named (map is_named (turned text (tensor_from 0 text ts t) (elaboration a).first)) c.around) (sym g.tensors)
      ∙ ap (λ (o : Option ℕ). all_named (map is_named (turned text o (elaboration a).first)) c.around) at
      ∙ turned_named c k d (elaboration a).first header (is_freeze (elaboration a).first))

  changed_scope : (name : Option Token) (s : Scope) → scope_within Changed name s ≡ s
  changed_scope None s = refl
  changed_scope (Some name) s = refl

  pub changing : (t : Token) (v : Tree) → Changes text fills v → Stated text fills (Node form.Named (Leaf t ∷ v ∷ []))
  changing t v h = stated form.Named (Leaf t ∷ v ∷ []) (λ c g quiet right lead.
      let own : tensor_use t (facts v).count (tensor_named text c.scope.tensors t) ≡ [] = subst (λ (o : Option Token). named_breaches text Changed o (facts v).count c.scope ≡ []) (leaf_token t) (own_quiet text form.Named (Leaf t ∷ v ∷ []) c.scope quiet) in
      let inside = still_quiet text Changed refl changed_scope form.Named (Leaf t ∷ v ∷ []) c.scope refl quiet 1 in
      let fill : fill_breach text fills (Some t) (leaves_of v).all ≡ [] = subst (λ (ts : List Token). fill_breach text fills (head_token ts) (leaves_of v).all ≡ []) (leaf_all t) (first_nil (fill_breach text fills (head_token (leaves_of (Leaf t)).all) (leaves_of v).all) (fills_of (map leaves_of (Leaf t ∷ v ∷ [])) text fills) (node_fills form.Named (Leaf t ∷ v ∷ []) right)) in
      ap (λ (o : Option Token). all_named (map is_named ((elaboration v).stmts o c.naming c.next)) c.around) (leaf_first t)
      ∙ h c g inside (parts_fills form.Named (Leaf t ∷ v ∷ []) right 1) t own fill)

  -- ---- declarations and updates

  same_words : (a b : Literal) → same_literal a b ≡ true → literal_word a ≡ literal_word b
  same_words a b h = by (a.negative) (b.negative) a.magnitude b.magnitude h where
    by : (m n : Bool) (x y : ℕ) → same_bool m n && x == y ≡ true → (if m then minus_word x else plus_word x) ≡ (if n then minus_word y else plus_word y)
    by true true x y h = ap minus_word (eqb-true x y h)
    by false false x y h = ap plus_word (eqb-true x y h)
    by true false x y h = cc
    by false true x y h = cc

  filled : (name : Token) (f : Fill) (o : Option Fill) (value : Literal) → o ≡ Some f → unlike o name value ≡ [] → literal_word f.value ≡ literal_word value
  filled name f None value is h = cc
  filled name f (Some e) value is h = same_words f.value value (subst (λ (d : Fill). same_literal d.value value ≡ true) (let i : e ≡ f = cc in i) (quiet_if (same_literal e.value value) _ _ h))

  declaration_named : (c : Context) → Agrees text fills c → (name : Token) (value : ℤ) (l : Literal) → literal_word l ≡ value → tensor_use name None (tensor_named text c.scope.tensors name) ≡ [] → unlike (fill_named text fills name) name l ≡ []
      → AreNamedIn text fills c (declared text (tensor_number text c.naming (Some name)) value name.line)
  declaration_named c g name value l is h k =
      let (n, d, at, header) = tensor_there c g name h in
      let (f, named, word) = g.named.filled name n d at header in
      let same : value ≡ d.format.fill = sym is ∙ sym (filled name f (fill_named text fills name) l named k) ∙ word in
      ap (λ (ts : List Tensor). all_named (map is_named (declared text (tensor_from 0 text ts name) value name.line)) c.around) (sym g.tensors)
      ∙ ap (λ (o : Option ℕ). all_named (map is_named (declared text o value name.line)) c.around) at
      ∙ one_named c.around _ (declare_named c.around n value name.line (ap (λ (o : Option Header). holds_of (λ (h : Header). int_eq value h.format.fill) o) header ∙ (Decides-int_eq value d.format.fill).1 same))

  pub declaring : (t : Token) (v : Tree) → is_declares t.kind ≡ true → IsLiteral text fills v → Changes text fills (Node form.Declaration (Leaf t ∷ v ∷ []))
  declaring t v sign literal c g quiet right name used fill =
      let all : (leaves_of (Node form.Declaration (Leaf t ∷ v ∷ []))).all ≡ t ∷ (leaves_of v).all =
      ap (λ (l : Leaves). l.all) (of_node Leaves leaves_step form.Declaration (Leaf t ∷ v ∷ [])) ∙ ap (λ ts. ts ++ ((leaves_of v).all ++ [])) (leaf_all t) ∙ ap (λ ts. t ∷ ts) (append-nil (leaves_of v).all) in
      let count : (facts (Node form.Declaration (Leaf t ∷ v ∷ []))).count ≡ None = ap (λ (f : Facts). f.count) (of_node Facts (facts_step text) form.Declaration (Leaf t ∷ v ∷ [])) in
      let breach = subst (λ (b : Bool). (if b then unlike (fill_named text fills name) name (literal_of (leaves_of v).all) else []) ≡ []) sign (subst (λ ts. fill_breach text fills (Some name) ts ≡ []) all fill) in
      ap (λ (ss : List Stmt). all_named (map is_named ss) c.around) (node_stmts form.Declaration (Leaf t ∷ v ∷ []) (Some name) c.naming c.next)
      ∙ declaration_named c g name (elaboration v).number (literal_of (leaves_of v).all) literal (subst (λ (o : Option ℕ). tensor_use name o (tensor_named text c.scope.tensors name) ≡ []) count used) breach

  counted : (o : Option ℕ) → is_some o ≡ true → (n : ℕ) × (o ≡ Some n)
  counted None h = cc
  counted (Some n) h = (n, refl)

  pub updating : (a p b r e : Tree) → AreIndices text fills p → (elaboration p).indexed ≡ true → Valued text fills e → Changes text fills (Node form.Update (a ∷ p ∷ b ∷ r ∷ e ∷ []))
  updating a p b r e h indexed k c g quiet right name used fill =
      let us = a ∷ p ∷ b ∷ r ∷ e ∷ [] in
      let (n, is) = counted (facts p).count ((counts text p).there ∙ indexed) in
      let count : (facts (Node form.Update us)).count ≡ Some n = ap (λ (f : Facts). f.count) (of_node Facts (facts_step text) form.Update us) ∙ is in
      let long : n ≡ capped (length ((elaboration p).indices c.naming)) = ap (λ (o : Option ℕ). unwrap_or o 0) (sym is) ∙ (counts text p).count c.naming in
      let (m, at, access) = access_named text fills c g name n ((elaboration p).indices c.naming) long (h c g (other_quiet text form.Update us c.scope refl quiet 1)) (subst (λ (o : Option ℕ). tensor_use name o (tensor_named text c.scope.tensors name) ≡ []) count used) in
      ap (λ (ss : List Stmt). all_named (map is_named ss) c.around) (node_stmts form.Update us (Some name) c.naming c.next)
      ∙ ap (λ (o : Option ℕ). all_named (map is_named (updated text o ((elaboration p).indices c.naming) (reduce_of (elaboration r).first) ((elaboration e).value c.naming) name.line)) c.around) at
      ∙ one_named c.around _ (update_named c.around m ((elaboration p).indices c.naming) (reduce_of (elaboration r).first) ((elaboration e).value c.naming) name.line access (k c g (other_quiet text form.Update us c.scope refl quiet 4)))
