-- The value of each kind of expression.
use Rattle.std.proofs.Common.{◌≡◌, ℕ, ℤ, List, ap, pos}
use Rattle.std.specs.Prelude.{if◌then◌else◌, slice_index_or}
use Rattle.fin_base.specs.declared.reduce.Reduce.{Reduce}
use Rattle.fin_base.specs.declared.terms.Op.{Op}
use Rattle.fin_base.specs.Words.{operate, negated}
use Rattle.fin_ir.specs.declared.expression.Table.{Table}
use Rattle.fin_ir.specs.declared.expression.IExpr.{IExpr}
use Rattle.fin_ir.specs.declared.expression.IExpr.TheVariants as e
use Rattle.fin_ir.specs.Loads.{table_in, part_at, number_at, word_at, seek_in}
use Rattle.fin_ir.specs.Machine.{Tensor}
use Rattle.fin_ir.specs.Value.{extents_in, parts_in, words_in, is_off, times, Reading, value_step, value_of}
use Rattle.fin_ir.proofs.Nodes.{of_num, of_local, of_neg, of_two, of_pick, of_times, of_cell, of_seek, of_val}

module _ (ts : ℕ → Tensor) (ls : List ℤ) where
  abbrev at : Reading → ℤ
  at r = r ts ls

  pub value_num : (n : ℤ) → value_of (e.Num n) ts ls ≡ n
  value_num n = ap at (of_num Reading value_step n)

  pub value_local : (local : ℕ) → value_of (e.Local local) ts ls ≡ slice_index_or ls local (pos 0)
  value_local local = ap at (of_local Reading value_step local)

  pub value_neg : (x : IExpr) → value_of (e.Neg x) ts ls ≡ negated (value_of x ts ls)
  value_neg x = ap at (of_neg Reading value_step x)

  pub value_two : (op : Op) (x y : IExpr) → value_of (e.Two op x y) ts ls ≡ operate op (value_of x ts ls) (value_of y ts ls)
  value_two op x y = ap at (of_two Reading value_step op x y)

  pub value_pick : (x y z : IExpr) → value_of (e.Pick x y z) ts ls ≡ (if is_off (value_of x ts ls) then value_of z ts ls else value_of y ts ls)
  value_pick x y z = ap at (of_pick Reading value_step x y z)

  pub value_times : (by : Reduce) (x y : IExpr) → value_of (e.Times by x y) ts ls ≡ times by (value_of x ts ls) (value_of y ts ls)
  value_times by x y = ap at (of_times Reading value_step by x y)

  pub value_cell : (tensor level : ℕ) (table : Table) (x : IExpr) → value_of (e.Cell tensor level table x) ts ls ≡ number_at (table_in table (part_at (parts_in (ts tensor)) level)) (value_of x ts ls)
  value_cell tensor level table x = ap at (of_cell Reading value_step tensor level table x)

  pub value_seek : (tensor level : ℕ) (x y z : IExpr) → value_of (e.Seek tensor level x y z) ts ls ≡ seek_in (extents_in (ts tensor)) (parts_in (ts tensor)) level (value_of x ts ls) (value_of y ts ls) (value_of z ts ls)
  value_seek tensor level x y z = ap at (of_seek Reading value_step tensor level x y z)

  pub value_val : (tensor : ℕ) (x : IExpr) → value_of (e.Val tensor x) ts ls ≡ word_at (words_in (ts tensor)) (value_of x ts ls)
  value_val tensor x = ap at (of_val Reading value_step tensor x)
