-- What is gathered of statements as they are written.
use Rattle.std.proofs.Common.{◌≡◌, ℕ, Bool, List, ◌++◌, map, Option, sym, ap, ◌∙◌}
use Rattle.std.proofs.lemmas.List.{map-append}
use Rattle.fin_base.specs.declared.terms.Op.{Op}
use Rattle.fin_ast.specs.declared.tree.Expr.{Expr}
use Rattle.fin_ast.specs.declared.tree.Expr.TheVariants.{Two}
use Rattle.fin_ast.specs.declared.tree.Stmt.{Stmt}
use Rattle.fin_ast.specs.declared.tree.Stmt.TheVariants as s
use Rattle.fin_simp.specs.declared.expr_rest.Access.{Access}
use Rattle.fin_simp.specs.Numbered.{Here, past_expr}
use Rattle.fin_simp.specs.Rest as told
use Rattle.fin_simp.specs.Gathered.{as_access, written_of_all, cond_written, bind_written}
use Rattle.fin_simp.proofs.Equations.{at_two, at_block, at_loop, at_cond, at_bind}
use Rattle.fin_simp.proofs.Sides.{past_two}

-- ---- expressions

reads_two : (o : Op) (x y : Expr) (k : ℕ) → told.reads_of (Two o x y) k ≡ told.reads_of x k ++ told.reads_of y (past_expr x k)
reads_two = at_two (List told.Access) told.written_expr_step

-- of a part of an expression, and the number behind it
abbrev pub AreReads : List Access → ℕ → ℕ → Expr → Type 0
AreReads reads next k x = (map as_access reads ≡ told.reads_of x k) × (next ≡ past_expr x k)

pub reads_by_two : (o : Op) (x y : Expr) (left right all : List Access) (next behind k : ℕ) → AreReads left next k x → map as_access right ≡ told.reads_of y next → all ≡ left ++ right →
    behind ≡ past_expr y next → AreReads all behind k (Two o x y)
reads_by_two o x y left right all next behind k first second joins past = (
  ap (map as_access) joins ∙ map-append as_access left right
      ∙ ap (λ (rs : List told.Access). rs ++ map as_access right) first.0
      ∙ ap (λ (rs : List told.Access). told.reads_of x k ++ rs) (second ∙ ap (told.reads_of y) first.1)
      ∙ sym (reads_two o x y k),
  past ∙ ap (past_expr y) first.1 ∙ sym (past_two o x y k),
)

-- ---- statements

pub block_writes : (x : Stmt) (body body' : List Stmt) (line last : ℕ) (h : Here) (v : told.Rest) → x ≡ s.Block body line last → body' ≡ body → v ≡ written_of_all body' h → v ≡ told.written x h
block_writes x body body' line last h v is same e =
    e ∙ ap (λ (b : List Stmt). written_of_all b h) same ∙ sym (at_block told.Rest told.written_step body line last h) ∙ sym (ap (λ (y : Stmt). told.written y h) is)

pub loop_writes : (x : Stmt) (var : ℕ) (range : Option (ℕ × ℕ)) (par : Bool) (body body' : List Stmt) (line last : ℕ) (h : Here) (v : told.Rest) → x ≡ s.Loop var range par body line last →
    body' ≡ body →
    v ≡ written_of_all body' h → v ≡ told.written x h
loop_writes x var range par body body' line last h v is same e =
    e ∙ ap (λ (b : List Stmt). written_of_all b h) same ∙ sym (at_loop told.Rest told.written_step var range par body line last h) ∙ sym (ap (λ (y : Stmt). told.written y h) is)

pub cond_writes : (x : Stmt) (test : Expr) (body body' : List Stmt) (line last : ℕ) (h : Here) (v : told.Rest) → x ≡ s.Cond test body line last → body' ≡ body → v ≡ cond_written test body' h →
    v ≡ told.written x h
cond_writes x test body body' line last h v is same e =
    e ∙ ap (λ (b : List Stmt). cond_written test b h) same ∙ sym (at_cond told.Rest told.written_step test body line last h) ∙ sym (ap (λ (y : Stmt). told.written y h) is)

pub bind_writes : (x : Stmt) (var : ℕ) (value : Expr) (body body' : List Stmt) (line last : ℕ) (h : Here) (v : told.Rest) → x ≡ s.Bind var value body line last → body' ≡ body →
    v ≡ bind_written value body' h →
    v ≡ told.written x h
bind_writes x var value body body' line last h v is same e =
    e ∙ ap (λ (b : List Stmt). bind_written value b h) same ∙ sym (at_bind told.Rest told.written_step var value body line last h) ∙ sym (ap (λ (y : Stmt). told.written y h) is)
