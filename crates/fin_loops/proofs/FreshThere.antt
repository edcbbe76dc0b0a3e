-- The tensors that a body declares, where its names are good, are the program's.
use Rattle.std.proofs.Common.{◌≡◌, ℕ, ◌<◌, Bool, true, false, ⊎_elim, List, [], ◌∷◌, length, refl, sym, ap, ◌∙◌, subst, arith}
use Rattle.std.specs.Prelude.{nat_eq, ◌||◌}
use Rattle.std.specs.Ordering.{int_eq}
use Rattle.std.proofs.lemmas.Bool.{or_cases}
use Rattle.std.proofs.lemmas.Bool.Decides.{nat_tests}
use Rattle.std.proofs.lemmas.List.Folds.{list_any-append}
use Rattle.fin_ast.specs.declared.header.Header.{Header}
use Rattle.fin_ast.specs.declared.tree.Stmt.{Stmt}
use Rattle.fin_ast.specs.Scope.{Scope, is_among, is_named_expr, stmt_step, is_named, are_named, within_loop, within_let}
use Rattle.fin_ast.proofs.Nodes as node
use Rattle.fin_ast.proofs.Induction.{AllOf, Cases, all_by_kind}
use Rattle.fin_stage.proofs.Alive.{left, right, holds_there}
use Rattle.fin_simp.specs.Fresh.{fresh_step, fresh_of, fresh_in}

abbrev pub There : (Scope → Bool) → List ℕ → Type 0
There names fresh = (sc : Scope) → names sc ≡ true → (t : ℕ) → is_among fresh t ≡ true → t < length sc.headers

abbrev IsThere : Stmt → Type 0
IsThere x = There (is_named x) (fresh_of x)

by_nodes : (x : Stmt) (names : Scope → Bool) (fresh : List ℕ) → is_named x ≡ names → fresh_of x ≡ fresh → There names fresh → IsThere x
by_nodes x names fresh en ef f sc e t h = f sc (ap (λ (g : Scope → Bool). g sc) (sym en) ∙ e) t (ap (λ (ts : List ℕ). is_among ts t) (sym ef) ∙ h)

bodies : (body : List Stmt) → AllOf IsThere body → There (are_named body) (fresh_in body)
bodies [] each sc e t h = cc
bodies (x ∷ xs) each sc e t h = ⊎_elim
    (λ first. each.0 sc (left (is_named x sc) (are_named xs sc) e) t first)
    (λ later. bodies xs each.1 sc (right (is_named x sc) (are_named xs sc) e) t later)
    (or_cases (is_among (fresh_of x) t) (is_among (fresh_in xs) t) (sym (list_any-append (nat_eq t) (fresh_of x) (fresh_in xs)) ∙ h))

-- the one tensor of a declaration
alone : (n t tensor : ℕ) (b : Bool) → nat_eq t tensor ≡ b → (b || false) ≡ true → tensor < n → t < n
alone n t tensor true e h lt = let same : t ≡ tensor = grind (arith, nat_tests) in subst (λ (k : ℕ). k < n) (sym same) lt
alone n t tensor false e h lt = cc

there_cases : Cases IsThere
there_cases = record {
  block = λ body line last each. by_nodes _ _ _ (node.of_block (Scope → Bool) stmt_step body line last) (node.of_block (List ℕ) fresh_step body line last)
      (λ sc e t h. bodies body each sc e t h);
  loop = λ var range par body line last each. by_nodes _ _ _ (node.of_loop (Scope → Bool) stmt_step var range par body line last) (node.of_loop (List ℕ) fresh_step var range par body line last)
      (λ sc e t h. bodies body each (within_loop sc var) e t h);
  cond = λ test body line last each. by_nodes _ _ _ (node.of_cond (Scope → Bool) stmt_step test body line last) (node.of_cond (List ℕ) fresh_step test body line last)
      (λ sc e t h. bodies body each sc (right (is_named_expr test sc) (are_named body sc) e) t h);
  bind = λ var value body line last each. by_nodes _ _ _ (node.of_bind (Scope → Bool) stmt_step var value body line last) (node.of_bind (List ℕ) fresh_step var value body line last)
      (λ sc e t h. bodies body each (within_let sc var) (right (is_named_expr value sc) (are_named body (within_let sc var)) e) t h);
  declare = λ tensor value line. by_nodes _ _ _ (node.of_declare (Scope → Bool) stmt_step tensor value line) (node.of_declare (List ℕ) fresh_step tensor value line)
      (λ sc e t h. alone (length sc.headers) t tensor (nat_eq t tensor) refl h (holds_there (λ (x : Header). int_eq value x.format.fill) sc.headers tensor e));
  freeze = λ tensor line. by_nodes _ _ _ (node.of_freeze (Scope → Bool) stmt_step tensor line) (node.of_freeze (List ℕ) fresh_step tensor line) (λ sc e t h. cc);
  thaw = λ tensor line. by_nodes _ _ _ (node.of_thaw (Scope → Bool) stmt_step tensor line) (node.of_thaw (List ℕ) fresh_step tensor line) (λ sc e t h. cc);
  update = λ tensor at by value line. by_nodes _ _ _ (node.of_update (Scope → Bool) stmt_step tensor at by value line) (node.of_update (List ℕ) fresh_step tensor at by value line) (λ sc e t h. cc);
}

pub fresh_there : (body : List Stmt) → There (are_named body) (fresh_in body)
fresh_there body = bodies body (all_by_kind IsThere there_cases body)
