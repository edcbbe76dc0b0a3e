-- What an operator leaves of its two sides: a literal, an expression, the reads that remain.
use Rattle.std.proofs.Common.{◌≡◌, ℕ, ℤ, Option, sym, ap, ◌∙◌}
use Rattle.fin_base.specs.declared.terms.Op.{Op}
use Rattle.fin_ast.specs.declared.tree.Expr.{Expr}
use Rattle.fin_ast.specs.declared.tree.Expr.TheVariants.{Two}
use Rattle.fin_ast.proofs.Nodes as node
use Rattle.fin_simp.specs.Numbered.{past_step, past_expr}
use Rattle.fin_simp.specs.declared.remainder.Left.{Left}
use Rattle.fin_simp.specs.Left.{Marks, joined, left_step, left_of}
use Rattle.fin_simp.specs.Remaining.{joined_literal, literal_step, literal_of}
use Rattle.fin_simp.specs.declared.reads.ExprReads.{ExprReads}
use Rattle.fin_simp.specs.Reads.{both as both_sides, expr_step, reads_of_expr}
use Rattle.fin_simp.proofs.Equations.{at_two}

pub literal_two : (o : Op) (x y : Expr) (k : ℕ) (m : Marks) → literal_of (Two o x y) k m ≡ joined_literal o (literal_of x k m) (literal_of y (past_expr x k) m)
literal_two o x y k m = ap (λ (f : Marks → Option ℤ). f m) (at_two (Marks → Option ℤ) literal_step o x y k)

pub past_two : (o : Op) (x y : Expr) (k : ℕ) → past_expr (Two o x y) k ≡ past_expr y (past_expr x k)
past_two o x y k = ap (λ (f : ℕ → ℕ). f k) (node.of_two (ℕ → ℕ) past_step o x y)

-- the literal of a part of an expression, and the number behind it
abbrev pub IsFound : Option ℤ → ℕ → ℕ → Marks → Expr → Type 0
IsFound literal next k m x = (literal ≡ literal_of x k m) × (next ≡ past_expr x k)

pub found_two : (o : Op) (x y : Expr) (literal right both : Option ℤ) (next behind k : ℕ) (m : Marks) → IsFound literal next k m x → right ≡ literal_of y next m → both ≡ joined_literal o literal right → behind ≡ past_expr y next → IsFound both behind k m (Two o x y)
found_two o x y literal right both next behind k m first second joins past = (
  joins ∙ ap (λ (a : Option ℤ). joined_literal o a right) first.0 ∙ ap (joined_literal o (literal_of x k m)) (second ∙ ap (λ (j : ℕ). literal_of y j m) first.1) ∙ sym (literal_two o x y k m),
  past ∙ ap (past_expr y) first.1 ∙ sym (past_two o x y k),
)

-- ---- what is left of an operator's sides
pub left_two : (o : Op) (x y : Expr) (k : ℕ) (m : Marks) → left_of (Two o x y) k m ≡ joined o (left_of x k m) (left_of y (past_expr x k) m)
left_two o x y k m = ap (λ (f : Marks → Left). f m) (at_two (Marks → Left) left_step o x y k)

-- what is left of a part of an expression, and the number behind it
abbrev pub IsLeft : Left → ℕ → ℕ → Marks → Expr → Type 0
IsLeft left next k m x = (left ≡ left_of x k m) × (next ≡ past_expr x k)

pub left_by_two : (o : Op) (x y : Expr) (left right both : Left) (next behind k : ℕ) (m : Marks) → IsLeft left next k m x → right ≡ left_of y next m → both ≡ joined o left right → behind ≡ past_expr y next → IsLeft both behind k m (Two o x y)
left_by_two o x y left right both next behind k m first second joins past = (
  joins ∙ ap (λ (a : Left). joined o a right) first.0 ∙ ap (joined o (left_of x k m)) (second ∙ ap (λ (j : ℕ). left_of y j m) first.1) ∙ sym (left_two o x y k m),
  past ∙ ap (past_expr y) first.1 ∙ sym (past_two o x y k),
)

-- ---- the reads that remain of an operator's sides
pub reads_two : (o : Op) (x y : Expr) (k : ℕ) (m : Marks) → reads_of_expr (Two o x y) k m ≡ both_sides o (reads_of_expr x k m) (reads_of_expr y (past_expr x k) m)
reads_two o x y k m = ap (λ (f : Marks → ExprReads). f m) (at_two (Marks → ExprReads) expr_step o x y k)

-- the reads that remain of a part of an expression, and the number behind it
abbrev pub IsRead : ExprReads → ℕ → ℕ → Marks → Expr → Type 0
IsRead found next k m x = (found ≡ reads_of_expr x k m) × (next ≡ past_expr x k)

pub read_by_two : (o : Op) (x y : Expr) (left right both : ExprReads) (next behind k : ℕ) (m : Marks) → IsRead left next k m x → right ≡ reads_of_expr y next m → both ≡ both_sides o left right → behind ≡ past_expr y next → IsRead both behind k m (Two o x y)
read_by_two o x y left right both next behind k m first second joins past = (
  joins ∙ ap (λ (a : ExprReads). both_sides o a right) first.0 ∙ ap (both_sides o (reads_of_expr x k m)) (second ∙ ap (λ (j : ℕ). reads_of_expr y j m) first.1) ∙ sym (reads_two o x y k m),
  past ∙ ap (past_expr y) first.1 ∙ sym (past_two o x y k),
)
