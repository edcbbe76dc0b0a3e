-- Where one update is left of statements it is left of one of them alone, and that one's is all that is left of them.
use Rattle.std.proofs.Common.{◌≡◌, ℕ, true, false, List, [], ◌∷◌, Option, Some, None, refl, sym, ap, ◌∙◌, subst, ℤ}
use Rattle.std.specs.Prelude.{IfSome}
use Rattle.fin_base.specs.declared.reduce.Reduce.{Reduce}
use Rattle.fin_ast.specs.declared.tree.Index.{Index}
use Rattle.fin_ast.specs.declared.tree.Expr.{Expr}
use Rattle.fin_ast.specs.declared.tree.Stmt.{Stmt}
use Rattle.fin_ast.specs.declared.tree.Stmt.TheVariants as s
use Rattle.fin_simp.specs.declared.facts.Gap.{Gap}
use Rattle.fin_simp.specs.declared.facts.Known.{Known}
use Rattle.fin_simp.specs.declared.facts.Bound.{Bound}
use Rattle.fin_simp.specs.Facts.{marks_of}
use Rattle.fin_simp.specs.Left.{Marks, binding}
use Rattle.fin_simp.specs.Numbered.{Here, here_at, behind, behind_test, past_expr, past_stmt}
use Rattle.fin_simp.specs.Remaining.{literal_of, is_nothing}
use Rattle.fin_simp.proofs.Literals.{rest_literal}
use Rattle.fin_perform.specs.Meanings.{stmt_deed, turns_deed, body_deed}
use Rattle.fin_perform.specs.Working.{literal_at}
use Rattle.fin_perform.proofs.Leaving.{Are, Is, alone_one, some_left, cond_one, bind_one}
use Rattle.fin_loops.specs.Only.{Written, update_names, IsOnly}
use Rattle.fin_loops.proofs.Only.{only_compose}

-- ---- what is kept of what was found

pub kept_some : {T : Type 0} {P Q R : T → Type 0} (found o : Option T) → IfSome found P → IfSome o (λ x. found ≡ Some x) → IfSome o Q → ((x : T) → P x → Q x → R x) → IfSome o R
kept_some found None p is q f = tt
kept_some {P = P} found (Some x) p is q f = f x (subst (λ (y : Option _). IfSome y P) is p) q

-- ---- one statement after another

-- what is all that is left of these is all that is left of the whole
abbrev pub Goes : Marks → List Stmt → Here → List Stmt → Here → Type 0
Goes m xs h whole outset = (u : Written) → IsOnly (turns_deed xs h (Some m)) u → IsOnly (turns_deed whole outset (Some m)) u

module _ (m : Marks) (x : Stmt) (rest body : List Stmt) (h : Here) (is : body ≡ x ∷ rest) (whole : List Stmt) (outset : Here) (goes : Goes m body h whole outset) where
  from_all : Goes m (x ∷ rest) h whole outset
  from_all = subst (λ (b : List Stmt). Goes m b h whole outset) is goes

  pub later_goes : (after : Here) → is_nothing x h m ≡ true → after ≡ past_stmt x h → Goes m rest after whole outset
  later_goes after e past u a = from_all u ((only_compose m).later x rest h u e (subst (λ (k : Here). IsOnly (turns_deed rest k (Some m)) u) past a))

  pub alone_goes : Are m body h → is_nothing x h m ≡ false → (u : Written) → IsOnly (stmt_deed x h (Some m)) u → IsOnly (body_deed whole outset (Some m)) u
  alone_goes one e u a =
      let all : Are m (x ∷ rest) h = subst (λ (b : List Stmt). Are m b h) is one in
      (only_compose m).body whole outset u (from_all u ((only_compose m).alone x rest h u (alone_one m x rest h all e).1 a))

-- ---- by kind

pub block_only : (m : Marks) (x : Stmt) (body body' : List Stmt) (line last : ℕ) (h : Here) (u : Written) → x ≡ s.Block body line last → body' ≡ body → Is m x h
    → IsOnly (body_deed body' h (Some m)) u → IsOnly (stmt_deed x h (Some m)) u
block_only m x body body' line last h u is same one a =
    let there : Is m (s.Block body line last) h = subst (λ (y : Stmt). Is m y h) is one in
    subst (λ (y : Stmt). IsOnly (stmt_deed y h (Some m)) u) (sym is)
    ((only_compose m).block body line last h u (some_left m (s.Block body line last) h there) (subst (λ (b : List Stmt). IsOnly (body_deed b h (Some m)) u) same a))

pub cond_only : (m m' : Marks) (x : Stmt) (test : Expr) (body body' : List Stmt) (line last : ℕ) (h k : Here) (u : Written) → x ≡ s.Cond test body line last → body' ≡ body
    → k ≡ behind_test test h → m' ≡ m → Is m x h → IsOnly (body_deed body' k (Some m')) u → IsOnly (stmt_deed x h (Some m)) u
cond_only m m' x test body body' line last h k u is same here known one a =
    let there : Is m (s.Cond test body line last) h = subst (λ (y : Stmt). Is m y h) is one in
    let q = cond_one m test body line last h there in
    let at_m : IsOnly (body_deed body' k (Some m)) u = subst (λ (n : Marks). IsOnly (body_deed body' k (Some n)) u) known a in
    let at_k : IsOnly (body_deed body' (behind_test test h) (Some m)) u = subst (λ (j : Here). IsOnly (body_deed body' j (Some m)) u) here at_m in
    subst (λ (y : Stmt). IsOnly (stmt_deed y h (Some m)) u) (sym is)
    ((only_compose m).known test body line last h q.0.0 u (some_left m (s.Cond test body line last) h there) q.0.1
    (subst (λ (b : List Stmt). IsOnly (body_deed b (behind_test test h) (Some m)) u) same at_k))

-- a let, of which a literal is left
module _ (gaps : List Gap) (known : List Known) (vars vars' items : List Bound) (x : Stmt) (var : ℕ) (value : Expr) (body body' : List Stmt) (line last read number read' : ℕ) (literal : Option ℤ)
    (is : x ≡ s.Bind var value body line last) (same : body' ≡ body) (literal_is : literal ≡ literal_of value read (marks_of gaps known vars)) (read_is : read' ≡ past_expr value read)
    (told : items ≡ record { var = var; number = literal } ∷ vars) (held : vars' ≡ items) (one : Is (marks_of gaps known vars) x (here_at read number)) where
  abbrev m : Marks
  m = marks_of gaps known vars

  abbrev h : Here
  h = here_at read number

  there : Is m (s.Bind var value body line last) h
  there = subst (λ (y : Stmt). Is m y h) is one

  abbrev found : (n : ℤ) × ((literal_at value h (Some m) ≡ Some n) × Are (binding m var (Some n)) body (behind value h))
  found = bind_one m var value body line last h (subst (λ (y : Stmt). Is m y h) is one)

  literal_found : literal ≡ Some found.0
  literal_found = literal_is ∙ sym (rest_literal value read m) ∙ found.1.0

  abbrev inner : Marks
  inner = marks_of gaps known vars'

  inner_is : inner ≡ binding m var (Some found.0)
  inner_is = ap (marks_of gaps known) (held ∙ told) ∙ ap (binding m var) literal_found

  here_is : here_at read' number ≡ behind value h
  here_is = ap (λ (k : ℕ). here_at k number) read_is

  pub bind_only : (u : Written) → update_names var u ≡ false → IsOnly (body_deed body' (here_at read' number) (Some (marks_of gaps known vars'))) u
      → IsOnly (stmt_deed x (here_at read number) (Some (marks_of gaps known vars))) u
  bind_only u free a =
      let at_m : IsOnly (body_deed body' (here_at read' number) (Some (binding m var (Some found.0)))) u =
      subst (λ (n : Marks). IsOnly (body_deed body' (here_at read' number) (Some n)) u) inner_is a in
      let at_here : IsOnly (body_deed body' (behind value h) (Some (binding m var (Some found.0)))) u =
      subst (λ (j : Here). IsOnly (body_deed body' j (Some (binding m var (Some found.0)))) u) here_is at_m in
      subst (λ (y : Stmt). IsOnly (stmt_deed y h (Some m)) u) (sym is)
      ((only_compose m).literal var value body line last h found.0 u (some_left m (s.Bind var value body line last) h there) found.1.0 free
      (subst (λ (b : List Stmt). IsOnly (body_deed b (behind value h) (Some (binding m var (Some found.0)))) u) same at_here))

pub update_only : (m : Marks) (x : Stmt) (t : ℕ) (at at' : List Index) (by : Reduce) (value value' : Expr) (line : ℕ) (h : Here) → x ≡ s.Update t at by value line → at' ≡ at → value' ≡ value → Is m x h
    → IsOnly (stmt_deed x h (Some m)) (record { tensor = t; at = at'; by = by; value = value' })
update_only m x t at at' by value value' line h is same same_value one =
    let there : Is m (s.Update t at by value line) h = subst (λ (y : Stmt). Is m y h) is one in
    let own : IsOnly (stmt_deed x h (Some m)) (record { tensor = t; at = at; by = by; value = value }) =
    subst (λ (y : Stmt). IsOnly (stmt_deed y h (Some m)) (record { tensor = t; at = at; by = by; value = value })) (sym is)
    ((only_compose m).update t at by value line h (some_left m (s.Update t at by value line) h there)) in
    subst (λ (e : Expr). IsOnly (stmt_deed x h (Some m)) (record { tensor = t; at = at'; by = by; value = e })) (sym same_value)
    (subst (λ (is : List Index). IsOnly (stmt_deed x h (Some m)) (record { tensor = t; at = is; by = by; value = value })) (sym same) own)
