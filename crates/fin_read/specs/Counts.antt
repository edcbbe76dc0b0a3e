-- The code of the number of values that a storage has.
use Rattle.std.specs.Prelude.{ℕ, ◌+◌, List, [], ◌∷◌, pos}
use Rattle.fin_base.specs.declared.terms.Op.TheVariants as op
use Rattle.fin_tensor.specs.declared.format.Level.{Level}
use Rattle.fin_tensor.specs.declared.format.Level.TheVariants as level
use Rattle.fin_ir.specs.declared.expression.Table.TheVariants as table
use Rattle.fin_ir.specs.declared.expression.IExpr.{IExpr}
use Rattle.fin_ir.specs.declared.expression.IExpr.TheVariants.{Num, Two, Cell}

-- the number of positions below those of level k
abbrev pub below_level : ℕ → ℕ → Level → ℕ → IExpr → IExpr
below_level tensor k level.Dense n count = Two op.Mul count (Num (pos n))
below_level tensor k level.List n count = Cell tensor k table.Ptr count
below_level tensor k level.Dict n count = Cell tensor k table.Ptr count
below_level tensor k level.Runs n count = Cell tensor k table.Ptr count
below_level tensor k level.Band n count = Cell tensor k table.Ptr count

-- below all levels from k on
abbrev pub count_from : ℕ → ℕ → List Level → List ℕ → IExpr → IExpr
count_from tensor k [] ns count = count
count_from tensor k (l ∷ ls) [] count = count
count_from tensor k (l ∷ ls) (n ∷ ns) count = count_from tensor (k + 1) ls ns (below_level tensor k l n count)

abbrev pub count_code : ℕ → List Level → List ℕ → IExpr
count_code tensor levels shape = count_from tensor 0 levels shape (Num (pos 1))
