-- The code of a count gives the number of values.
use Rattle.std.proofs.Common.{◌≡◌, ℕ, ◌+◌, List, [], ◌∷◌, length, refl, sym, ap, ◌∙◌, ℤ, pos}
use Rattle.fin_base.specs.declared.terms.Op.TheVariants as op
use Rattle.fin_tensor.specs.declared.format.Level.{Level}
use Rattle.fin_tensor.specs.declared.format.Level.TheVariants as level
use Rattle.fin_tensor.specs.declared.part.Part.{Part}
use Rattle.fin_tensor.specs.declared.part.Part.TheVariants as part
use Rattle.fin_tensor.specs.Levels.{positions}
use Rattle.fin_ir.specs.declared.expression.Table.TheVariants as table
use Rattle.fin_ir.specs.declared.expression.IExpr.{IExpr}
use Rattle.fin_ir.specs.declared.expression.IExpr.TheVariants as e
use Rattle.fin_ir.specs.Machine.{Tensor}
use Rattle.fin_ir.specs.Value.{extents_in, parts_in, words_in, value_of}
use Rattle.fin_ir.proofs.Values.{value_num}
use Rattle.fin_read.specs.Counts.{below_level, count_from}
use Rattle.fin_read.specs.Means.{CountsMean}
use Rattle.fin_read.proofs.Placing.{mul_small, two_of}
use Rattle.fin_read.proofs.Descending.{LevelIs, cell_is}
use Rattle.fin_read.proofs.Remaining.{LevelsAre, level_of, levels_below}

module _ (ts : ℕ → Tensor) (tensor : ℕ) (locals : List ℤ) where
  below_is : (k : ℕ) (l : Level) (n count : ℕ) (p : Part) (x : IExpr) → LevelIs ts tensor k l n count p → value_of x ts locals ≡ pos count → value_of (below_level tensor k l n x) ts locals ≡ pos (positions n count p)
  below_is k level.Dense n count part.Dense x h f = two_of ts locals op.Mul x (e.Num (pos n)) (pos count) (pos n) f (value_num ts locals (pos n)) ∙ mul_small count n h.below
  below_is k level.List n count (part.Keys ptr idx) x h f = cell_is ts tensor k level.List n count (part.Keys ptr idx) h table.Ptr x locals (pos count) f
  below_is k level.Dict n count (part.Keys ptr idx) x h f = cell_is ts tensor k level.Dict n count (part.Keys ptr idx) h table.Ptr x locals (pos count) f
  below_is k level.Runs n count (part.Runs ptr stop) x h f = cell_is ts tensor k level.Runs n count (part.Runs ptr stop) h table.Ptr x locals (pos count) f
  below_is k level.Band n count (part.Band ptr start) x h f = cell_is ts tensor k level.Band n count (part.Band ptr start) h table.Ptr x locals (pos count) f
  below_is k l n count p x h f = absurd h.level

  count_is : (k count : ℕ) (ls : List Level) (ns : List ℕ) (ps : List Part) (val : List ℤ) (x : IExpr) → LevelsAre ts tensor k ls ns ps val count → value_of x ts locals ≡ pos count → value_of (count_from tensor k ls ns x) ts locals ≡ pos (length val)
  count_is k count [] [] [] val x h f = f ∙ ap pos (sym h.valid.1)
  count_is k count (l ∷ ls) (n ∷ ns) (p ∷ ps) val x h f =
      count_is (k + 1) (positions n count p) ls ns ps val (below_level tensor k l n x) (levels_below ts tensor k l ls n ns p ps val count h)
      (below_is k l n count p x (level_of ts tensor k l ls n ns p ps val count h) f)
  count_is k count ls ns ps val x h f = absurd h.valid

pub counts_mean : CountsMean
counts_mean ts tensor levels s ls is valid =
    count_is ts tensor ls 0 1 levels s.shape s.parts s.val (e.Num (pos 1))
    (record { extents = ap extents_in is; parts = ap parts_in is; words = ap words_in is; count_is = refl; valid = valid })
    (value_num ts ls (pos 1))
