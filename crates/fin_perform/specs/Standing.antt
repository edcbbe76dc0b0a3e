-- Places where the variables in scope have the numbers of a run.
use Rattle.std.specs.Prelude.{◌≡◌, ℕ, true}
use Rattle.fin_ast.specs.declared.checked.Checked.{Checked}
use Rattle.fin_ast.specs.Scope.{Scope, is_bound}
use Rattle.fin_ast.specs.Value.{Numbers, number}
use Rattle.fin_ir.specs.declared.expression.IExpr.TheVariants.{Local}
use Rattle.fin_ir.specs.Machine.{Machine}
use Rattle.fin_ir.specs.Value.{value_in}
use Rattle.fin_read.specs.Means.{IsWithin}
use Rattle.fin_nest.specs.Performs.{Place, Hold, Stay}

-- The facts of the place hold of each variable in scope that its local has its number, and the code of the place changes
-- nothing that they depend on. Of any other local nothing is said.
pub record StandsIn (c : Checked) (sc : Scope) (vars : Numbers) (p : Place) : Type 0 where
  pub headers : sc.headers ≡ c.program.headers
  pub within : IsWithin sc p.next
  pub numbers : (m : Machine) → Hold m p.facts → (x : ℕ) → is_bound sc x ≡ true → value_in m (Local x) ≡ number vars x
  pub stay : Stay p p.facts
