-- The walk over reads finds those that remain of what is told of the rest of a statement, and nothing where nothing is left.
use Rattle.std.proofs.Common.{◌≡◌, ℕ, ℤ, Bool, true, false, ◌&&◌, ◌||◌, List, [], ◌∷◌, ◌++◌, Option, Some, None, refl, sym, ap, ◌∙◌}
use Rattle.fin_ast.specs.declared.tree.Expr.{Expr}
use Rattle.fin_ast.specs.declared.tree.Stmt.{Stmt}
use Rattle.fin_ast.proofs.Induction.{AllOf, Cases, by_kind, all_by_kind}
use Rattle.fin_simp.specs.declared.reads.ExprReads.{ExprReads}
use Rattle.fin_simp.specs.declared.reads.StmtReads.{StmtReads}
use Rattle.fin_simp.specs.Numbered.{Here, past_expr, behind, behind_test, past_stmt}
use Rattle.fin_simp.specs.Left.{Marks, binding, fails}
use Rattle.fin_simp.specs.Remaining.{joined_literal, turned_literal, is_identity_literal, settled_literal, literal_of, nothing_step, is_nothing, are_nothing}
use Rattle.fin_simp.specs.Rest.{Access, ExprRest, open_rest, rest_or, expr_rest_step, expr_rest}
use Rattle.fin_simp.specs.Reads.{reading, both, expr_step, reads_of_expr, stmt_step, reads_of, reads_of_all}
use Rattle.fin_simp.specs.Found.{numbers_of, reads_in, ReadsAreFound}
use Rattle.fin_simp.proofs.Induction.{ExprCases, by_expr}
use Rattle.fin_simp.proofs.Literals.{rest_literal}
use Rattle.fin_simp.proofs.Equations.{at_num, at_var, at_read, at_neg, at_two, at_block, at_loop, at_cond, at_bind, at_declare, at_freeze, at_thaw, at_update}

-- ---- expressions
pub numbers_append : (xs ys : List Access) → numbers_of (xs ++ ys) ≡ numbers_of xs ++ numbers_of ys
numbers_append [] ys = refl
numbers_append (x ∷ xs) ys = ap (λ (ns : List ℕ). x.read ∷ ns) (numbers_append xs ys)

open_found : (o : Option ℤ) (reads : List Access) (vars : List ℕ) → reading o (numbers_of reads) ≡ reads_in (rest_or o (open_rest reads vars))
open_found None reads vars = refl
open_found (Some n) reads vars = refl

turned_found : (r : ExprRest) (o : Option ℤ) → r.literal ≡ o → reading (turned_literal o) (numbers_of r.reads) ≡ reads_in (rest_or (turned_literal o) r)
turned_found r None h = ap (λ (p : Option ℤ). record { literal = p; reads = numbers_of r.reads }) (sym h)
turned_found r (Some n) h = refl

abbrev Found : Expr → Type 0
Found x = (k : ℕ) (m : Marks) → reads_of_expr x k m ≡ reads_in (expr_rest x k m)

abbrev at_found : Marks → (Marks → ExprReads) → ExprReads
at_found m f = f m

abbrev at_rest : Marks → (Marks → ExprRest) → ExprReads
at_rest m f = reads_in (f m)

found_cases : ExprCases Found
found_cases = record {
  num = λ n k m. ap (at_found m) (at_num (Marks → ExprReads) expr_step n k) ∙ sym (ap (at_rest m) (at_num (Marks → ExprRest) expr_rest_step n k));
  var = λ var line k m. ap (at_found m) (at_var (Marks → ExprReads) expr_step var line k) ∙ open_found (m.vars var) [] (var ∷ []) ∙ sym (ap (at_rest m) (at_var (Marks → ExprRest) expr_rest_step var line k));
  read = λ tensor at line k m. ap (at_found m) (at_read (Marks → ExprReads) expr_step tensor at line k) ∙ open_found (m.reads k) (record { read = k; tensor = tensor; at = at } ∷ []) [] ∙ sym (ap (at_rest m) (at_read (Marks → ExprRest) expr_rest_step tensor at line k));
  neg = λ x h k m. ap (at_found m) (at_neg (Marks → ExprReads) expr_step x k) ∙ ap (λ (f : ExprReads). reading (turned_literal f.literal) f.reads) (h k m) ∙ turned_found (expr_rest x k m) (expr_rest x k m).literal refl ∙ sym (ap (at_rest m) (at_neg (Marks → ExprRest) expr_rest_step x k));
  two = λ o x y hx hy k m.
      let a = expr_rest x k m in
      let b = expr_rest y (past_expr x k) m in
      ap (at_found m) (at_two (Marks → ExprReads) expr_step o x y k)
      ∙ ap (λ (f : ExprReads). both o f (reads_of_expr y (past_expr x k) m)) (hx k m) ∙ ap (both o (reads_in a)) (hy (past_expr x k) m)
      ∙ ap (reading (joined_literal o a.literal b.literal)) (sym (numbers_append a.reads b.reads))
      ∙ open_found (joined_literal o a.literal b.literal) (a.reads ++ b.reads) (a.vars ++ b.vars)
      ∙ sym (ap (at_rest m) (at_two (Marks → ExprRest) expr_rest_step o x y k));
}

pub found_is : (x : Expr) → Found x
found_is = by_expr Found found_cases

literal_found : (x : Expr) (k : ℕ) (m : Marks) → (reads_of_expr x k m).literal ≡ literal_of x k m
literal_found x k m = ap (λ (f : ExprReads). f.literal) (found_is x k m) ∙ rest_literal x k m

-- ---- statements
abbrev Agrees : Stmt → Type 0
Agrees x = (h : Here) (m : Marks) → (reads_of x h m).nothing ≡ is_nothing x h m

abbrev at_reads : Marks → (Marks → StmtReads) → Bool
at_reads m f = (f m).nothing

abbrev at_test : Marks → (Marks → Bool) → Bool
at_test m f = f m

bodies : (body : List Stmt) → AllOf Agrees body → (h : Here) (m : Marks) → (reads_of_all body h m).nothing ≡ are_nothing body h m
bodies [] all h m = refl
bodies (x ∷ xs) all h m = ap (λ b. b && (reads_of_all xs (past_stmt x h) m).nothing) (all.0 h m) ∙ ap (λ b. is_nothing x h m && b) (bodies xs all.1 (past_stmt x h) m)

or_none : (b : Bool) → (b || false) ≡ b
or_none true = refl
or_none false = refl

agree_cases : Cases Agrees
agree_cases = record {
  block = λ body line last all h m. ap (at_reads m) (at_block (Marks → StmtReads) stmt_step body line last h) ∙ bodies body all h m ∙ sym (ap (at_test m) (at_block (Marks → Bool) nothing_step body line last h));
  loop = λ var range par body line last all h m. ap (at_reads m) (at_loop (Marks → StmtReads) stmt_step var range par body line last h) ∙ bodies body all h (binding m var None) ∙ sym (ap (at_test m) (at_loop (Marks → Bool) nothing_step var range par body line last h));
  cond = λ test body line last all h m.
      let inner = behind_test test h in
      ap (at_reads m) (at_cond (Marks → StmtReads) stmt_step test body line last h)
      ∙ ap (λ o. fails (settled_literal (m.tests h.test) o) || (reads_of_all body inner m).nothing) (literal_found test h.read m)
      ∙ ap (λ b. fails (settled_literal (m.tests h.test) (literal_of test h.read m)) || b) (bodies body all inner m)
      ∙ sym (ap (at_test m) (at_cond (Marks → Bool) nothing_step test body line last h));
  bind = λ var value body line last all h m.
      let inner = behind value h in
      ap (at_reads m) (at_bind (Marks → StmtReads) stmt_step var value body line last h)
      ∙ bodies body all inner (binding m var (reads_of_expr value h.read m).literal)
      ∙ ap (λ p. are_nothing body inner (binding m var p)) (literal_found value h.read m)
      ∙ sym (ap (at_test m) (at_bind (Marks → Bool) nothing_step var value body line last h));
  declare = λ tensor value line h m. ap (at_reads m) (at_declare (Marks → StmtReads) stmt_step tensor value line h) ∙ sym (ap (at_test m) (at_declare (Marks → Bool) nothing_step tensor value line h));
  freeze = λ tensor line h m. ap (at_reads m) (at_freeze (Marks → StmtReads) stmt_step tensor line h) ∙ sym (ap (at_test m) (at_freeze (Marks → Bool) nothing_step tensor line h));
  thaw = λ tensor line h m. ap (at_reads m) (at_thaw (Marks → StmtReads) stmt_step tensor line h) ∙ sym (ap (at_test m) (at_thaw (Marks → Bool) nothing_step tensor line h));
  update = λ tensor at by value line h m. ap (at_reads m) (at_update (Marks → StmtReads) stmt_step tensor at by value line h) ∙ or_none _ ∙ ap (is_identity_literal by) (literal_found value h.read m) ∙ sym (ap (at_test m) (at_update (Marks → Bool) nothing_step tensor at by value line h));
}

agrees : (x : Stmt) → Agrees x
agrees = by_kind Agrees agree_cases

pub nothing_found : (body : List Stmt) (h : Here) (m : Marks) → (reads_of_all body h m).nothing ≡ are_nothing body h m
nothing_found body h m = bodies body (all_by_kind Agrees agree_cases body) h m

pub reads_are_found : ReadsAreFound
reads_are_found = record { exprs = found_is; nothing = agrees }
