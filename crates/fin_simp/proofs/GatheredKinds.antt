-- What is gathered of each kind of statement.
use Rattle.std.proofs.Common.{◌≡◌, ℕ, ◌+◌, ℤ, Bool, List, [], ◌∷◌, Option, None, sym, ap, ◌∙◌}
use Rattle.fin_ast.specs.declared.tree.Expr.{Expr}
use Rattle.fin_ast.specs.declared.tree.Stmt.{Stmt}
use Rattle.fin_ast.specs.declared.tree.Stmt.TheVariants as s
use Rattle.fin_simp.specs.declared.expr_rest.ExprRest.{ExprRest}
use Rattle.fin_simp.specs.declared.rest.Test.{Test}
use Rattle.fin_simp.specs.declared.rest.Rest.{Rest}
use Rattle.fin_simp.specs.declared.facts.Gap.{Gap}
use Rattle.fin_simp.specs.declared.facts.Known.{Known}
use Rattle.fin_simp.specs.declared.facts.Bound.{Bound}
use Rattle.fin_simp.specs.declared.remainder.Left.{Left}
use Rattle.fin_simp.specs.Facts.{marks_of, test_in}
use Rattle.fin_simp.specs.Numbered.{Here, here_at, past_expr}
use Rattle.fin_simp.specs.Left.{Marks, binding, as_expr, left_of}
use Rattle.fin_simp.specs.Remaining.{settled_literal}
use Rattle.fin_simp.specs.Rest as told
use Rattle.fin_simp.specs.Gathered.{as_test, as_expr_rest, as_rest, rest_of_all, within, chosen_rest, let_rest, no_expr, loop_told, test_told, cond_told, let_told, bind_told}
use Rattle.fin_simp.proofs.Equations.{at_block, at_loop, at_cond, at_bind}
use Rattle.fin_simp.proofs.Gathering.{as_within_kind, as_chosen, as_let}

-- ---- around bodies

pub gathers_loop : (var : ℕ) (body : List Stmt) (h : Here) (gaps : List Gap) (known : List Known) (vars vars' items : List Bound) (own : ExprRest) (tests : List Test) (inner v : Rest) →
    items ≡ record { var = var; number = None } ∷ vars → vars' ≡ items → own ≡ no_expr → tests ≡ [] → as_rest inner ≡ rest_of_all body h (marks_of gaps known vars') →
    v ≡ within own tests inner → as_rest v ≡ loop_told var body h (marks_of gaps known vars)
gathers_loop var body h gaps known vars vars' items own tests inner v told_is held own_is none inner_is e =
    ap as_rest e ∙ ap (λ (o : ExprRest). as_rest (within o tests inner)) own_is ∙ ap (λ (ts : List Test). as_rest (within no_expr ts inner)) none
    ∙ as_within_kind inner.kind no_expr [] inner
    ∙ ap (told.within told.no_expr []) (inner_is ∙ ap (λ (b : List Bound). rest_of_all body h (marks_of gaps known b)) (held ∙ told_is))

abbrev test_with : ℕ → Expr → told.Test
test_with number e = record { test = number; expr = e }

pub gathers_cond : (test : Expr) (body : List Stmt) (read number next read' : ℕ) (gaps : List Gap) (known : List Known) (vars : List Bound) (value : ExprRest) (mark known_as : Option ℤ)
    (left : Left) (shown : Expr) (own : Test) (inner v : Rest) →
    as_expr_rest value ≡ told.expr_rest test read (marks_of gaps known vars) → read' ≡ past_expr test read → left ≡ left_of test read (marks_of gaps known vars) → shown ≡ as_expr left →
    own.test ≡ number → own.expr ≡ shown → mark ≡ test_in known number → known_as ≡ settled_literal mark value.literal → next ≡ number + 1 →
    as_rest inner ≡ rest_of_all body (here_at read' next) (marks_of gaps known vars) →
    v ≡ chosen_rest known_as value own inner → as_rest v ≡ cond_told test body (here_at read number) (marks_of gaps known vars)
gathers_cond test body read number next read' gaps known vars value mark known_as left shown own inner v value_is read_is left_is shown_is test_is expr_is mark_is known_is next_is inner_is e =
    let m = marks_of gaps known vars in
    let found = told.expr_rest test read m in
    let t = settled_literal (test_in known number) found.literal in
    let settles : known_as ≡ t = known_is ∙ ap (λ (o : Option ℤ). settled_literal o value.literal) mark_is ∙ ap (λ (f : told.ExprRest). settled_literal (test_in known number) f.literal) value_is in
    let own_is : as_test own ≡ test_told test (here_at read number) m = ap (λ k. test_with k own.expr) test_is ∙ ap (test_with number) (expr_is ∙ shown_is ∙ ap as_expr left_is) in
    ap as_rest e ∙ as_chosen known_as value own inner
    ∙ ap (λ (o : Option ℤ). told.chosen_rest o (as_expr_rest value) (as_test own) (as_rest inner)) settles
    ∙ ap (λ (f : told.ExprRest). told.chosen_rest t f (as_test own) (as_rest inner)) value_is
    ∙ ap (λ (o : told.Test). told.chosen_rest t found o (as_rest inner)) own_is
    ∙ ap (told.chosen_rest t found (test_told test (here_at read number) m))
    (inner_is ∙ ap (λ k. rest_of_all body (here_at k next) m) read_is ∙ ap (λ k. rest_of_all body (here_at (past_expr test read) k) m) next_is)

pub gathers_bind : (var : ℕ) (e : Expr) (body : List Stmt) (read number read' : ℕ) (gaps : List Gap) (known : List Known) (vars vars' items : List Bound) (value : ExprRest) (inner v : Rest) →
    as_expr_rest value ≡ told.expr_rest e read (marks_of gaps known vars) → read' ≡ past_expr e read → items ≡ record { var = var; number = value.literal } ∷ vars → vars' ≡ items →
    as_rest inner ≡ rest_of_all body (here_at read' number) (marks_of gaps known vars') → v ≡ let_rest value.literal value inner →
    as_rest v ≡ bind_told var e body (here_at read number) (marks_of gaps known vars)
gathers_bind var e body read number read' gaps known vars vars' items value inner v value_is read_is told_is held inner_is v_is =
    let m = marks_of gaps known vars in
    ap as_rest v_is ∙ as_let value.literal value inner
    ∙ ap (told.let_rest value.literal (as_expr_rest value)) (inner_is ∙ ap (λ (b : List Bound). rest_of_all body (here_at read' number) (marks_of gaps known b)) (held ∙ told_is)
    ∙ ap (λ k. rest_of_all body (here_at k number) (binding m var value.literal)) read_is)
    ∙ ap (let_told var body (here_at (past_expr e read) number) m) value_is

-- ---- of statements

abbrev at_marks : Marks → (Marks → told.Rest) → told.Rest
at_marks m f = f m

pub block_rests : (x : Stmt) (body body' : List Stmt) (line last : ℕ) (h : Here) (m : Marks) (v : told.Rest) → x ≡ s.Block body line last → body' ≡ body → v ≡ rest_of_all body' h m →
    v ≡ told.rest_of x h m
block_rests x body body' line last h m v is same e =
    e ∙ ap (λ (b : List Stmt). rest_of_all b h m) same ∙ sym (ap (at_marks m) (at_block (Marks → told.Rest) told.rest_step body line last h)) ∙ sym (ap (λ (y : Stmt). told.rest_of y h m) is)

pub loop_rests : (x : Stmt) (var : ℕ) (range : Option (ℕ × ℕ)) (par : Bool) (body body' : List Stmt) (line last : ℕ) (h : Here) (m : Marks) (v : told.Rest) →
    x ≡ s.Loop var range par body line last → body' ≡ body → v ≡ loop_told var body' h m → v ≡ told.rest_of x h m
loop_rests x var range par body body' line last h m v is same e =
    e ∙ ap (λ (b : List Stmt). loop_told var b h m) same ∙ sym (ap (at_marks m) (at_loop (Marks → told.Rest) told.rest_step var range par body line last h))
    ∙ sym (ap (λ (y : Stmt). told.rest_of y h m) is)

pub cond_rests : (x : Stmt) (test : Expr) (body body' : List Stmt) (line last : ℕ) (h : Here) (m : Marks) (v : told.Rest) → x ≡ s.Cond test body line last → body' ≡ body →
    v ≡ cond_told test body' h m → v ≡ told.rest_of x h m
cond_rests x test body body' line last h m v is same e =
    e ∙ ap (λ (b : List Stmt). cond_told test b h m) same ∙ sym (ap (at_marks m) (at_cond (Marks → told.Rest) told.rest_step test body line last h)) ∙ sym (ap (λ (y : Stmt). told.rest_of y h m) is)

pub bind_rests : (x : Stmt) (var : ℕ) (value : Expr) (body body' : List Stmt) (line last : ℕ) (h : Here) (m : Marks) (v : told.Rest) → x ≡ s.Bind var value body line last → body' ≡ body →
    v ≡ bind_told var value body' h m → v ≡ told.rest_of x h m
bind_rests x var value body body' line last h m v is same e =
    e ∙ ap (λ (b : List Stmt). bind_told var value b h m) same ∙ sym (ap (at_marks m) (at_bind (Marks → told.Rest) told.rest_step var value body line last h))
    ∙ sym (ap (λ (y : Stmt). told.rest_of y h m) is)
