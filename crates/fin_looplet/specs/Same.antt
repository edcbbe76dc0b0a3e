-- Whether two expressions are written alike.
use Rattle.std.specs.Prelude.{Bool, true, false, ◌&&◌, nat_eq}
use Rattle.std.specs.Ordering.{int_eq}
use Rattle.fin_base.specs.declared.reduce.Reduce.{Reduce}
use Rattle.fin_base.specs.declared.reduce.Reduce.TheVariants as reduce
use Rattle.fin_base.specs.declared.terms.Op.{Op}
use Rattle.fin_base.specs.declared.terms.Op.TheVariants as op
use Rattle.fin_ir.specs.declared.expression.Table.{Table}
use Rattle.fin_ir.specs.declared.expression.Table.TheVariants as table
use Rattle.fin_ir.specs.declared.expression.IExpr.{IExpr, fold-IExpr, end_of-IExpr, more_of-IExpr}
use Rattle.fin_ir.specs.declared.expression.IExpr.TheOpen.{IExpr-F}
use Rattle.fin_ir.specs.declared.expression.IExpr.TheVariants.{Num, Local, Neg', Two', Pick', Times', Cell', Seek', Val'}

abbrev pub same_op : Op → Op → Bool
same_op op.Add op.Add = true
same_op op.Sub op.Sub = true
same_op op.Mul op.Mul = true
same_op op.Min op.Min = true
same_op op.Max op.Max = true
same_op op.And op.And = true
same_op op.Or op.Or = true
same_op op.Xor op.Xor = true
same_op op.Lt op.Lt = true
same_op op.Le op.Le = true
same_op op.Gt op.Gt = true
same_op op.Ge op.Ge = true
same_op op.Eq op.Eq = true
same_op op.Ne op.Ne = true
same_op a b = false

abbrev pub same_reduce : Reduce → Reduce → Bool
same_reduce reduce.Add reduce.Add = true
same_reduce reduce.Mul reduce.Mul = true
same_reduce reduce.Min reduce.Min = true
same_reduce reduce.Max reduce.Max = true
same_reduce reduce.And reduce.And = true
same_reduce reduce.Or reduce.Or = true
same_reduce reduce.Xor reduce.Xor = true
same_reduce reduce.Put reduce.Put = true
same_reduce a b = false

abbrev pub same_table : Table → Table → Bool
same_table table.Ptr table.Ptr = true
same_table table.Idx table.Idx = true
same_table table.Stop table.Stop = true
same_table table.Start table.Start = true
same_table a b = false

-- one node, with for each part the test whether another expression is it
abbrev pub same_step : IExpr-F (IExpr → Bool) → IExpr → Bool
same_step (IExpr-F.Num n) (Num m) = int_eq n m
same_step (IExpr-F.Local x) (Local y) = nat_eq x y
same_step (IExpr-F.Neg a) (Neg' p (more_of-IExpr d end_of-IExpr)) = a d
same_step (IExpr-F.Two o a b) (Two' o' p (more_of-IExpr d end_of-IExpr) q (more_of-IExpr e end_of-IExpr)) = (same_op o o' && a d) && b e
same_step (IExpr-F.Pick a b c) (Pick' p (more_of-IExpr d end_of-IExpr) q (more_of-IExpr e end_of-IExpr) r (more_of-IExpr f end_of-IExpr)) = (a d && b e) && c f
same_step (IExpr-F.Times by a b) (Times' by' p (more_of-IExpr d end_of-IExpr) q (more_of-IExpr e end_of-IExpr)) = (same_reduce by by' && a d) && b e
same_step (IExpr-F.Cell tensor level t a) (Cell' tensor' level' t' p (more_of-IExpr d end_of-IExpr)) = ((nat_eq tensor tensor' && nat_eq level level') && same_table t t') && a d
same_step (IExpr-F.Seek tensor level a b c) (Seek' tensor' level' p (more_of-IExpr d end_of-IExpr) q (more_of-IExpr e end_of-IExpr) r (more_of-IExpr f end_of-IExpr)) =
    (((nat_eq tensor tensor' && nat_eq level level') && a d) && b e) && c f
same_step (IExpr-F.Val tensor a) (Val' tensor' p (more_of-IExpr d end_of-IExpr)) = nat_eq tensor tensor' && a d
same_step d e = false

abbrev pub same : IExpr → IExpr → Bool
same = fold-IExpr (IExpr → Bool) same_step
