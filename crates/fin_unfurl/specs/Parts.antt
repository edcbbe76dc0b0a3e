-- The expressions and leaves of a fibre.
use Rattle.std.specs.Prelude.{ℕ, ◌+◌, Option, Some, None, pos}
use Rattle.fin_base.specs.declared.terms.Op.TheVariants as op
use Rattle.fin_ir.specs.declared.expression.Table.{Table}
use Rattle.fin_ir.specs.declared.expression.Table.TheVariants as table
use Rattle.fin_ir.specs.declared.expression.IExpr.{IExpr}
use Rattle.fin_ir.specs.declared.expression.IExpr.TheVariants.{Num, Local, Two, Cell, Seek, Val}
use Rattle.fin_looplet.specs.declared.looplet.Leaf.{Leaf}
use Rattle.fin_looplet.specs.declared.looplet.Leaf.TheVariants.{Value, Sub}
use Rattle.fin_unfurl.specs.declared.fibre.Fibre.{Fibre}

abbrev pub next : IExpr → IExpr
next e = Two op.Add e (Num (pos 1))

-- a number of a list of the level
abbrev pub cell : Fibre → Table → IExpr → IExpr
cell f t at = Cell f.tensor f.level t at

-- where the fibre at a position begins and ends
abbrev pub begin : Fibre → IExpr → IExpr
begin f p = cell f table.Ptr p

abbrev pub end : Fibre → IExpr → IExpr
end f p = cell f table.Ptr (next p)

-- the place there for the coordinate in the local above the cursor
abbrev pub place : Fibre → IExpr → IExpr
place f p = Seek f.tensor f.level (begin f p) (end f p) (Local (f.cursor + 1))

-- what stands at a position below the level: a value, or a position of the next level
abbrev pub leaf_below : ℕ → Option ℕ → IExpr → Leaf
leaf_below t None e = Value (Val t e)
leaf_below t (Some k) e = Sub t k e (Num (pos 1))

abbrev pub leaf : Fibre → IExpr → Leaf
leaf f e = leaf_below f.tensor f.below e
