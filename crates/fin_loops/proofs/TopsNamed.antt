-- Of a body whose names are good no index of a read that remains names a variable twice; so the nest of a loop's entry is
-- separate wherever the loop may stand.
use Rattle.std.proofs.Common.{◌≡◌, ℕ, Bool, true, ◌&&◌, List, [], ◌∷◌, Some, None, refl, sym, ap, ◌∙◌}
use Rattle.std.specs.List.{list_all}
use Rattle.fin_ast.specs.declared.tree.Index.{Index}
use Rattle.fin_ast.specs.declared.tree.Expr.{Expr}
use Rattle.fin_ast.specs.declared.tree.Stmt.{Stmt}
use Rattle.fin_ast.specs.Scope.{Scope, differ, is_loop, is_index, is_access, expr_step, is_named_expr, stmt_step, is_named, are_named, within_loop, within_let}
use Rattle.fin_ast.proofs.Nodes as node
use Rattle.fin_ast.proofs.Induction.{AllOf, Cases, all_by_kind}
use Rattle.fin_simp.specs.Numbered.{Here, past_expr, behind, behind_test, past_stmt, numbered_all}
use Rattle.fin_simp.specs.Rest.{Access, Rest, written_expr_step, reads_of, all_written, written_step, written}
use Rattle.fin_simp.specs.Work.{Context}
use Rattle.fin_simp.proofs.Induction.{ExprCases, by_expr}
use Rattle.fin_simp.proofs.Equations.{at_num, at_var, at_read, at_neg, at_two, at_block, at_loop, at_cond, at_bind, at_declare, at_freeze, at_thaw, at_update}
use Rattle.fin_simp.proofs.Origins.{left_true, right_true, both, body_stays}
use Rattle.fin_perform.specs.Places.{left_of_all}
use Rattle.fin_loops.specs.Loops.{inner}
use Rattle.fin_loops.specs.Tops.{names_once, own_first, own_end, own_from, TopsAreSeparate}
use Rattle.fin_loops.proofs.Keeping.{nests_are_separate}
use Rattle.fin_loops.proofs.Tops.{tops_keep_out}

-- ---- what holds of each access that is named holds of the reads of a body as it is written

module _ (p : Access → Bool) (good : (sc : Scope) (k tensor : ℕ) (at : List Index) → is_access sc tensor at ≡ true → p (record { read = k; tensor = tensor; at = at }) ≡ true) where
  abbrev all : List Access → Bool
  all reads = list_all p reads

  abbrev Fine : Expr → Type 0
  Fine x = (sc : Scope) (k : ℕ) → is_named_expr x sc ≡ true → all (reads_of x k) ≡ true

  by_parts : (x : Expr) (names : Scope → Bool) (reads : ℕ → List Access) → is_named_expr x ≡ names → ((k : ℕ) → reads_of x k ≡ reads k)
      → ((sc : Scope) (k : ℕ) → names sc ≡ true → all (reads k) ≡ true) → Fine x
  by_parts x names reads en er h sc k e = ap all (er k) ∙ h sc k (ap (λ (f : Scope → Bool). f sc) (sym en) ∙ e)

  fine_cases : ExprCases Fine
  fine_cases = record {
    num = λ n. by_parts _ _ _ (node.of_num (Scope → Bool) expr_step n) (at_num (List Access) written_expr_step n) (λ sc k e. refl);
    var = λ var line. by_parts _ _ _ (node.of_var (Scope → Bool) expr_step var line) (at_var (List Access) written_expr_step var line) (λ sc k e. refl);
    read = λ tensor at line. by_parts _ _ _ (node.of_read (Scope → Bool) expr_step tensor at line) (at_read (List Access) written_expr_step tensor at line)
        (λ sc k e. ap (λ b. b && true) (good sc k tensor at e));
    neg = λ x hx. by_parts _ _ _ (node.of_neg (Scope → Bool) expr_step x) (at_neg (List Access) written_expr_step x) (λ sc k e. hx sc k e);
    two = λ o x y hx hy. by_parts _ _ _ (node.of_two (Scope → Bool) expr_step o x y) (at_two (List Access) written_expr_step o x y)
        (λ sc k e.
        both p (reads_of x k) (reads_of y (past_expr x k)) (hx sc k (left_true (is_named_expr x sc) (is_named_expr y sc) e))
        (hy sc (past_expr x k) (right_true (is_named_expr x sc) (is_named_expr y sc) e)));
  }

  fine_expr : (x : Expr) → Fine x
  fine_expr = by_expr Fine fine_cases

  abbrev texts : List Stmt → Here → Rest
  texts body h = all_written (numbered_all Rest written_step body h)

  abbrev Kept : (Scope → Bool) → (Here → List Access) → Type 0
  Kept names reads = (sc : Scope) (h : Here) → names sc ≡ true → all (reads h) ≡ true

  abbrev Named : Stmt → Type 0
  Named x = Kept (is_named x) (λ h. (written x h).reads)

  bodies : (body : List Stmt) → AllOf Named body → Kept (are_named body) (λ h. (texts body h).reads)
  bodies [] each sc h e = refl
  bodies (x ∷ xs) each sc h e =
      both p (written x h).reads (texts xs (past_stmt x h)).reads (each.0 sc h (left_true (is_named x sc) (are_named xs sc) e))
      (bodies xs each.1 sc (past_stmt x h) (right_true (is_named x sc) (are_named xs sc) e))

  by_nodes : (x : Stmt) (names : Scope → Bool) (rest : Here → Rest) → is_named x ≡ names → ((h : Here) → written x h ≡ rest h) → Kept names (λ h. (rest h).reads) → Named x
  by_nodes x names rest en er f sc h e = ap (λ (r : Rest). all r.reads) (er h) ∙ f sc h (ap (λ (g : Scope → Bool). g sc) (sym en) ∙ e)

  named_cases : Cases Named
  named_cases = record {
    block = λ body line last each. by_nodes _ _ _ (node.of_block (Scope → Bool) stmt_step body line last) (at_block Rest written_step body line last) (λ sc h e. bodies body each sc h e);
    loop = λ var range par body line last each. by_nodes _ _ _ (node.of_loop (Scope → Bool) stmt_step var range par body line last) (at_loop Rest written_step var range par body line last)
        (λ sc h e. bodies body each (within_loop sc var) h e);
    cond = λ test body line last each. by_nodes _ _ _ (node.of_cond (Scope → Bool) stmt_step test body line last) (at_cond Rest written_step test body line last)
        (λ sc h e.
        both p (reads_of test h.read) (texts body (behind_test test h)).reads (fine_expr test sc h.read (left_true (is_named_expr test sc) (are_named body sc) e))
        (bodies body each sc (behind_test test h) (right_true (is_named_expr test sc) (are_named body sc) e)));
    bind = λ var value body line last each. by_nodes _ _ _ (node.of_bind (Scope → Bool) stmt_step var value body line last) (at_bind Rest written_step var value body line last)
        (λ sc h e.
        both p (reads_of value h.read) (texts body (behind value h)).reads (fine_expr value sc h.read (left_true (is_named_expr value sc) (are_named body (within_let sc var)) e))
        (bodies body each (within_let sc var) (behind value h) (right_true (is_named_expr value sc) (are_named body (within_let sc var)) e)));
    declare = λ tensor value line. by_nodes _ _ _ (node.of_declare (Scope → Bool) stmt_step tensor value line) (at_declare Rest written_step tensor value line) (λ sc h e. refl);
    freeze = λ tensor line. by_nodes _ _ _ (node.of_freeze (Scope → Bool) stmt_step tensor line) (at_freeze Rest written_step tensor line) (λ sc h e. refl);
    thaw = λ tensor line. by_nodes _ _ _ (node.of_thaw (Scope → Bool) stmt_step tensor line) (at_thaw Rest written_step tensor line) (λ sc h e. refl);
    update = λ tensor at by value line. by_nodes _ _ _ (node.of_update (Scope → Bool) stmt_step tensor at by value line) (at_update Rest written_step tensor at by value line)
        (λ sc h e. fine_expr value sc h.read (right_true (is_access sc tensor at) (is_named_expr value sc) e));
  }

  -- and so of those that remain
  pub named_reads : (body : List Stmt) (sc : Scope) → are_named body sc ≡ true → (h : Here) (ctx : Context) → list_all p (left_of_all body h ctx).reads ≡ true
  named_reads body sc e h None = bodies body (all_by_kind Named named_cases body) sc h e
  named_reads body sc e h (Some m) = body_stays p body h m (bodies body (all_by_kind Named named_cases body) sc h e)

-- ---- an index that is named names no variable twice

once_at : (sc : Scope) (at : List Index) → list_all (is_index sc) at ≡ true → list_all (λ (i : Index). differ i.first i.second) at ≡ true
once_at sc [] e = refl
once_at sc (i ∷ at) e =
    let here = right_true (is_loop sc i.first && is_loop sc i.second) (differ i.first i.second) (left_true (is_index sc i) (list_all (is_index sc) at) e) in
    ap (λ (b : Bool). b && list_all (λ (j : Index). differ j.first j.second) at) here ∙ once_at sc at (right_true (is_index sc i) (list_all (is_index sc) at) e)

access_once : (sc : Scope) (k tensor : ℕ) (at : List Index) → is_access sc tensor at ≡ true → names_once (record { read = k; tensor = tensor; at = at }) ≡ true
access_once sc k tensor at e = once_at sc at (right_true _ (list_all (is_index sc) at) e)

-- ---- the nest is separate

pub tops_are_separate : TopsAreSeparate
tops_are_separate l range par line last next top numbered is q at =
    let named : are_named l.body (within_loop q.scope l.var) ≡ true =
    sym (ap (λ (f : Scope → Bool). f q.scope) (node.of_loop (Scope → Bool) stmt_step l.var range par l.body line last)) ∙ at.named in
    let once = named_reads names_once access_once l.body (within_loop q.scope l.var) named l.here (inner l) in
    nests_are_separate l range par line last next top (own_from (own_first l next) (own_end l next)) (tops_keep_out l next top numbered once is) q at
