-- The walk along an expression that may name a variable.
use Rattle.std.proofs.Common.{◌≡◌, ℕ, Bool, true, false, sym, ap, ◌∙◌}
use Rattle.std.specs.Prelude.{◌||◌}
use Rattle.fin_base.specs.declared.terms.Op.{Op}
use Rattle.fin_ast.specs.declared.tree.Expr.{Expr}
use Rattle.fin_ast.specs.declared.tree.Expr.TheVariants.{Two}
use Rattle.fin_ast.proofs.Nodes.{of_two}
use Rattle.fin_loops.specs.Only.{names_step, names_in}

abbrev pub Names : Bool → ℕ → Expr → Type 0
Names b var x = b ≡ names_in var x

pub names_by_two : (o : Op) (x y : Expr) (left right both : Bool) (var : ℕ) → Names left var x → right ≡ names_in var y → both ≡ (left || right) → Names both var (Two o x y)
names_by_two o x y left right both var first second joins =
    joins ∙ ap (λ (b : Bool). b || right) first ∙ ap (λ (b : Bool). names_in var x || b) second ∙ sym (of_two Bool (names_step var) o x y)

pub or_true : (a b : Bool) → a ≡ true → a ≡ (a || b)
or_true a b h = h ∙ sym (ap (λ (x : Bool). x || b) h)

pub or_false : (a b : Bool) → a ≡ false → b ≡ (a || b)
or_false a b h = sym (ap (λ (x : Bool). x || b) h)
