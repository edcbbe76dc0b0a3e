-- Whether an operator's sides are bounds.
use Rattle.std.proofs.Common.{◌≡◌, ℕ, Bool, true, false, ◌&&◌, sym, ap, ◌∙◌}
use Rattle.fin_base.specs.declared.terms.Op.{Op}
use Rattle.fin_ast.specs.declared.tree.Expr.{Expr}
use Rattle.fin_ast.specs.declared.tree.Expr.TheVariants.{Two}
use Rattle.fin_ast.proofs.Nodes.{of_two}
use Rattle.fin_simp.specs.Work.{bound_step, is_bound_of}

abbrev pub IsBound : Bool → ℕ → Expr → Type 0
IsBound b var x = b ≡ is_bound_of var x

pub bound_by_two : (o : Op) (x y : Expr) (left right both : Bool) (var : ℕ) → IsBound left var x → right ≡ is_bound_of var y → both ≡ (left && right) → IsBound both var (Two o x y)
bound_by_two o x y left right both var first second joins =
    joins ∙ ap (λ (b : Bool). b && right) first ∙ ap (λ (b : Bool). is_bound_of var x && b) second ∙ sym (of_two Bool (bound_step var) o x y)

pub and_true : (a b : Bool) → a ≡ true → b ≡ (a && b)
and_true a b h = sym (ap (λ (x : Bool). x && b) h)

pub and_false : (a b : Bool) → a ≡ false → a ≡ (a && b)
and_false a b h = h ∙ sym (ap (λ (x : Bool). x && b) h)
