-- What is left of each kind of statement.
use Rattle.std.proofs.Common.{IsTrue, ◌≡◌, ◌↔◌, ℕ, ◌+◌, ℤ, Bool, true, false, List, [], ◌∷◌, Option, None, if◌then◌else◌, refl, sym, ap, ◌∙◌}
use Rattle.fin_ast.specs.declared.tree.Expr.{Expr}
use Rattle.fin_ast.specs.declared.tree.Stmt.{Stmt}
use Rattle.fin_ast.specs.declared.tree.Stmt.TheVariants as s
use Rattle.fin_simp.specs.declared.remainder.Left.{Left}
use Rattle.fin_simp.specs.Numbered.{Here, here_at, past_expr}
use Rattle.fin_simp.specs.Left.{Marks, binding, literal_in, left_of}
use Rattle.fin_simp.specs.Simplified.{opened, around, chosen, settled, bound, simplified_step, simplified, simplified_all}
use Rattle.fin_simp.specs.declared.facts.Gap.{Gap}
use Rattle.fin_simp.specs.declared.facts.Known.{Known}
use Rattle.fin_simp.specs.declared.facts.Bound.{Bound}
use Rattle.fin_simp.specs.Facts.{marks_of, test_in}
use Rattle.fin_simp.proofs.Equations.{at_block, at_loop, at_cond, at_bind}

abbrev at_marks : Marks → (Marks → List Stmt) → List Stmt
at_marks m f = f m

around_is : (f : List Stmt → Stmt) (xs : List Stmt) (b : Bool) → (IsTrue b ↔ (xs ≡ [])) → (if b then [] else f xs ∷ []) ≡ around f xs
around_is f [] true q = refl
around_is f [] false q = let e : false ≡ true = q.1 refl in cc
around_is f (x ∷ xs) true q = let e : x ∷ xs ≡ [] = q.0 refl in cc
around_is f (x ∷ xs) false q = refl

pub block_left : (x : Stmt) (body body' : List Stmt) (line last : ℕ) (h : Here) (m : Marks) (left xs : List Stmt) → x ≡ s.Block body line last → body' ≡ body → left ≡ simplified_all body' h m → xs ≡ opened line last left → xs ≡ simplified x h m
block_left x body body' line last h m left xs is same inner e =
    e ∙ ap (opened line last) (inner ∙ ap (λ (b : List Stmt). simplified_all b h m) same) ∙ sym (ap (at_marks m) (at_block (Marks → List Stmt) simplified_step body line last h)) ∙ sym (ap (λ (y : Stmt). simplified y h m) is)

pub loop_left : (x : Stmt) (var : ℕ) (range : Option (ℕ × ℕ)) (par : Bool) (body body' : List Stmt) (line last : ℕ) (h : Here) (gaps : List Gap) (known : List Known) (vars vars' items : List Bound) (left xs : List Stmt) (none : Bool) →
    x ≡ s.Loop var range par body line last → body' ≡ body → items ≡ record { var = var; number = None } ∷ vars → vars' ≡ items → left ≡ simplified_all body' h (marks_of gaps known vars') → (IsTrue none ↔ (left ≡ [])) →
    xs ≡ (if none then [] else s.Loop var range par left line last ∷ []) → xs ≡ simplified x h (marks_of gaps known vars)
loop_left x var range par body body' line last h gaps known vars vars' items left xs none is same told held inner empty e =
    let m = marks_of gaps known vars in
    e ∙ around_is (λ b. s.Loop var range par b line last) left none empty
    ∙ ap (around (λ b. s.Loop var range par b line last)) (inner ∙ ap (λ (b : List Bound). simplified_all body' h (marks_of gaps known b)) (held ∙ told) ∙ ap (λ (b : List Stmt). simplified_all b h (binding m var None)) same)
    ∙ sym (ap (at_marks m) (at_loop (Marks → List Stmt) simplified_step var range par body line last h)) ∙ sym (ap (λ (y : Stmt). simplified y h m) is)

pub cond_left : (x : Stmt) (test : Expr) (body body' : List Stmt) (line last read number next read' : ℕ) (gaps : List Gap) (known : List Known) (vars : List Bound) (value told : Left) (mark : Option ℤ) (left xs : List Stmt) →
    x ≡ s.Cond test body line last → body' ≡ body → value ≡ left_of test read (marks_of gaps known vars) → read' ≡ past_expr test read → mark ≡ test_in known number → told ≡ settled mark value → next ≡ number + 1 →
    left ≡ simplified_all body' (here_at read' next) (marks_of gaps known vars) → xs ≡ chosen line last told left → xs ≡ simplified x (here_at read number) (marks_of gaps known vars)
cond_left x test body body' line last read number next read' gaps known vars value told mark left xs is same value_is read_is mark_is told_is next_is inner e =
    let m = marks_of gaps known vars in
    e ∙ ap (λ (t : Left). chosen line last t left) (told_is ∙ ap (λ (o : Option ℤ). settled o value) mark_is ∙ ap (settled (test_in known number)) value_is)
    ∙ ap (chosen line last (settled (test_in known number) (left_of test read m)))
    (inner ∙ ap (λ (b : List Stmt). simplified_all b (here_at read' next) m) same ∙ ap (λ k. simplified_all body (here_at k next) m) read_is ∙ ap (λ k. simplified_all body (here_at (past_expr test read) k) m) next_is)
    ∙ sym (ap (at_marks m) (at_cond (Marks → List Stmt) simplified_step test body line last (here_at read number))) ∙ sym (ap (λ (y : Stmt). simplified y (here_at read number) m) is)

pub bind_left : (x : Stmt) (var : ℕ) (e : Expr) (body body' : List Stmt) (line last read number read' : ℕ) (gaps : List Gap) (known : List Known) (vars vars' items : List Bound) (value : Left) (left xs : List Stmt) →
    x ≡ s.Bind var e body line last → body' ≡ body → value ≡ left_of e read (marks_of gaps known vars) → read' ≡ past_expr e read → items ≡ record { var = var; number = literal_in value } ∷ vars → vars' ≡ items →
    left ≡ simplified_all body' (here_at read' number) (marks_of gaps known vars') → xs ≡ bound var line last value left → xs ≡ simplified x (here_at read number) (marks_of gaps known vars)
bind_left x var e body body' line last read number read' gaps known vars vars' items value left xs is same value_is read_is told held inner xs_is =
    let m = marks_of gaps known vars in
    let l = left_of e read m in
    xs_is ∙ ap (λ (v : Left). bound var line last v left) value_is
    ∙ ap (bound var line last l)
    (inner ∙ ap (λ (b : List Bound). simplified_all body' (here_at read' number) (marks_of gaps known b)) (held ∙ told)
    ∙ ap (λ (o : Option ℤ). simplified_all body' (here_at read' number) (binding m var o)) (ap literal_in value_is)
    ∙ ap (λ (b : List Stmt). simplified_all b (here_at read' number) (binding m var (literal_in l))) same
    ∙ ap (λ k. simplified_all body (here_at k number) (binding m var (literal_in l))) read_is)
    ∙ sym (ap (at_marks m) (at_bind (Marks → List Stmt) simplified_step var e body line last (here_at read number))) ∙ sym (ap (λ (y : Stmt). simplified y (here_at read number) m) is)
