-- The reads that remain of each kind of statement.
use Rattle.std.proofs.Common.{◌≡◌, ℕ, ◌+◌, ℤ, Bool, false, List, [], ◌∷◌, Option, None, sym, ap, ◌∙◌}
use Rattle.fin_ast.specs.declared.tree.Expr.{Expr}
use Rattle.fin_ast.specs.declared.tree.Stmt.{Stmt}
use Rattle.fin_ast.specs.declared.tree.Stmt.TheVariants as s
use Rattle.fin_simp.specs.declared.reads.ExprReads.{ExprReads}
use Rattle.fin_simp.specs.declared.reads.StmtReads.{StmtReads}
use Rattle.fin_simp.specs.Numbered.{Here, here_at, past_expr}
use Rattle.fin_simp.specs.Left.{Marks, binding, fails}
use Rattle.fin_simp.specs.Remaining.{settled_literal}
use Rattle.fin_simp.specs.Reads.{unless_known, reads_of_expr, within, stmt_step, reads_of, reads_of_all}
use Rattle.fin_simp.specs.declared.facts.Gap.{Gap}
use Rattle.fin_simp.specs.declared.facts.Known.{Known}
use Rattle.fin_simp.specs.declared.facts.Bound.{Bound}
use Rattle.fin_simp.specs.Facts.{marks_of, test_in}
use Rattle.fin_simp.proofs.Equations.{at_block, at_loop, at_cond, at_bind}

abbrev at_marks : Marks → (Marks → StmtReads) → StmtReads
at_marks m f = f m

pub block_reads : (x : Stmt) (body body' : List Stmt) (line last : ℕ) (h : Here) (m : Marks) (v : StmtReads) → x ≡ s.Block body line last → body' ≡ body → v ≡ reads_of_all body' h m → v ≡ reads_of x h m
block_reads x body body' line last h m v is same e =
    e ∙ ap (λ (b : List Stmt). reads_of_all b h m) same ∙ sym (ap (at_marks m) (at_block (Marks → StmtReads) stmt_step body line last h)) ∙ sym (ap (λ (y : Stmt). reads_of y h m) is)

pub loop_reads : (x : Stmt) (var : ℕ) (range : Option (ℕ × ℕ)) (par : Bool) (body body' : List Stmt) (line last : ℕ) (h : Here) (gaps : List Gap) (known : List Known) (vars vars' items : List Bound) (own : List ℕ) (inner v : StmtReads) →
    x ≡ s.Loop var range par body line last → body' ≡ body → items ≡ record { var = var; number = None } ∷ vars → vars' ≡ items → own ≡ [] → inner ≡ reads_of_all body' h (marks_of gaps known vars') →
    v ≡ within false own inner → v ≡ reads_of x h (marks_of gaps known vars)
loop_reads x var range par body body' line last h gaps known vars vars' items own inner v is same told held own_is inner_is e =
    let m = marks_of gaps known vars in
    e ∙ ap (λ (o : List ℕ). within false o inner) own_is
    ∙ ap (within false []) (inner_is ∙ ap (λ (b : List Bound). reads_of_all body' h (marks_of gaps known b)) (held ∙ told) ∙ ap (λ (b : List Stmt). reads_of_all b h (binding m var None)) same)
    ∙ sym (ap (at_marks m) (at_loop (Marks → StmtReads) stmt_step var range par body line last h)) ∙ sym (ap (λ (y : Stmt). reads_of y h m) is)

pub cond_reads : (x : Stmt) (test : Expr) (body body' : List Stmt) (line last read number next read' : ℕ) (gaps : List Gap) (known : List Known) (vars : List Bound) (value : ExprReads) (mark told : Option ℤ) (own : List ℕ) (failed : Bool) (inner v : StmtReads) →
    x ≡ s.Cond test body line last → body' ≡ body → value ≡ reads_of_expr test read (marks_of gaps known vars) → read' ≡ past_expr test read → mark ≡ test_in known number → told ≡ settled_literal mark value.literal → next ≡ number + 1 →
    inner ≡ reads_of_all body' (here_at read' next) (marks_of gaps known vars) → own ≡ unless_known told value.reads → failed ≡ fails told → v ≡ within failed own inner → v ≡ reads_of x (here_at read number) (marks_of gaps known vars)
cond_reads x test body body' line last read number next read' gaps known vars value mark told own failed inner v is same value_is read_is mark_is told_is next_is inner_is own_is failed_is e =
    let m = marks_of gaps known vars in
    let found = reads_of_expr test read m in
    let settles : told ≡ settled_literal (test_in known number) found.literal = told_is ∙ ap (λ (o : Option ℤ). settled_literal o value.literal) mark_is ∙ ap (λ (f : ExprReads). settled_literal (test_in known number) f.literal) value_is in
    let t = settled_literal (test_in known number) found.literal in
    e ∙ ap (λ (b : Bool). within b own inner) (failed_is ∙ ap fails settles)
    ∙ ap (λ (o : List ℕ). within (fails t) o inner) (own_is ∙ ap (λ (o : Option ℤ). unless_known o value.reads) settles ∙ ap (λ (f : ExprReads). unless_known t f.reads) value_is)
    ∙ ap (within (fails t) (unless_known t found.reads))
    (inner_is ∙ ap (λ (b : List Stmt). reads_of_all b (here_at read' next) m) same ∙ ap (λ k. reads_of_all body (here_at k next) m) read_is ∙ ap (λ k. reads_of_all body (here_at (past_expr test read) k) m) next_is)
    ∙ sym (ap (at_marks m) (at_cond (Marks → StmtReads) stmt_step test body line last (here_at read number))) ∙ sym (ap (λ (y : Stmt). reads_of y (here_at read number) m) is)

pub bind_reads : (x : Stmt) (var : ℕ) (e : Expr) (body body' : List Stmt) (line last read number read' : ℕ) (gaps : List Gap) (known : List Known) (vars vars' items : List Bound) (value : ExprReads) (inner v : StmtReads) →
    x ≡ s.Bind var e body line last → body' ≡ body → value ≡ reads_of_expr e read (marks_of gaps known vars) → read' ≡ past_expr e read → items ≡ record { var = var; number = value.literal } ∷ vars → vars' ≡ items →
    inner ≡ reads_of_all body' (here_at read' number) (marks_of gaps known vars') → v ≡ within false value.reads inner → v ≡ reads_of x (here_at read number) (marks_of gaps known vars)
bind_reads x var e body body' line last read number read' gaps known vars vars' items value inner v is same value_is read_is told held inner_is v_is =
    let m = marks_of gaps known vars in
    let found = reads_of_expr e read m in
    v_is ∙ ap (λ (f : ExprReads). within false f.reads inner) value_is
    ∙ ap (within false found.reads)
    (inner_is ∙ ap (λ (b : List Bound). reads_of_all body' (here_at read' number) (marks_of gaps known b)) (held ∙ told)
    ∙ ap (λ (f : ExprReads). reads_of_all body' (here_at read' number) (binding m var f.literal)) value_is
    ∙ ap (λ (b : List Stmt). reads_of_all b (here_at read' number) (binding m var found.literal)) same
    ∙ ap (λ k. reads_of_all body (here_at k number) (binding m var found.literal)) read_is)
    ∙ sym (ap (at_marks m) (at_bind (Marks → StmtReads) stmt_step var e body line last (here_at read number))) ∙ sym (ap (λ (y : Stmt). reads_of y (here_at read number) m) is)
