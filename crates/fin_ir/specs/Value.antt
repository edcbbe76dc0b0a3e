-- The value of an expression, for given locals and given tensors.
use Rattle.std.specs.Prelude.{ℕ, Bool, if◌then◌else◌, List, [], slice_index_or, ℤ, pos, negsuc}
use Rattle.std.specs.Ordering.{int_eq}
use Rattle.fin_base.specs.declared.reduce.Reduce.{Reduce}
use Rattle.fin_base.specs.Words.{operate, negated, repeat}
use Rattle.fin_tensor.specs.declared.part.Part.{Part}
use Rattle.fin_ir.specs.declared.expression.IExpr.{IExpr, fold-IExpr}
use Rattle.fin_ir.specs.declared.expression.IExpr.TheOpen.{IExpr-F}
use Rattle.fin_ir.specs.Loads.{table_in, part_at, number_at, word_at, seek_in}
use Rattle.fin_ir.specs.Machine.{Tensor, nothing, building, stored, Machine, seen}

-- the lists of a tensor; none where it is no storage
abbrev pub extents_in : Tensor → List ℕ
extents_in nothing = []
extents_in (building b) = []
extents_in (stored s) = s.shape

abbrev pub parts_in : Tensor → List Part
parts_in nothing = []
parts_in (building b) = []
parts_in (stored s) = s.parts

abbrev pub words_in : Tensor → List ℤ
words_in nothing = []
words_in (building b) = []
words_in (stored s) = s.val

-- a test holds where it isn't 0
abbrev pub is_off : ℤ → Bool
is_off test = int_eq test (pos 0)

-- the value that does what count times v do, or v itself
abbrev pub times : Reduce → ℤ → ℤ → ℤ
times by v (pos n) = if is_off (pos n) then v else repeat by v n
times by v (negsuc n) = v

abbrev pub Reading : Type 0
Reading = (ℕ → Tensor) → List ℤ → ℤ

-- one node, with the value of each part in its place
abbrev pub value_step : IExpr-F Reading → Reading
value_step (IExpr-F.Num n) ts ls = n
value_step (IExpr-F.Local local) ts ls = slice_index_or ls local (pos 0)
value_step (IExpr-F.Neg inner) ts ls = negated (inner ts ls)
value_step (IExpr-F.Two op left right) ts ls = operate op (left ts ls) (right ts ls)
value_step (IExpr-F.Pick test yes' no') ts ls = if is_off (test ts ls) then no' ts ls else yes' ts ls
value_step (IExpr-F.Times by value count) ts ls = times by (value ts ls) (count ts ls)
value_step (IExpr-F.Cell tensor level table at) ts ls = number_at (table_in table (part_at (parts_in (ts tensor)) level)) (at ts ls)
value_step (IExpr-F.Seek tensor level from to key) ts ls = seek_in (extents_in (ts tensor)) (parts_in (ts tensor)) level (from ts ls) (to ts ls) (key ts ls)
value_step (IExpr-F.Val tensor position) ts ls = word_at (words_in (ts tensor)) (position ts ls)

abbrev pub value_of : IExpr → Reading
value_of = fold-IExpr Reading value_step

abbrev pub value_in : Machine → IExpr → ℤ
value_in m e = value_of e (seen m) m.locals
