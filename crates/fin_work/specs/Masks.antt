-- That a mask's value at a coordinate of its loop is the value of its test, whatever is bound inside the loop.
use Rattle.std.specs.Prelude.{◌≡◌, ◌<◌, ℕ, pos, length, Some, slice_set}
use Rattle.fin_ast.specs.declared.tree.Expr.{Expr, out-Expr}
use Rattle.fin_ast.specs.Value.{Numbers, Tensors, value_of}
use Rattle.fin_simp.specs.Gaps.{SameUpTo}
use Rattle.fin_simp.specs.Work.{Mask, mask_by, mask_value}

abbrev pub MasksTell : Type 0
MasksTell = (vars later : Numbers) (var coord test : ℕ) (e : Expr) (m : Mask) (ts : Tensors) → var < length vars → SameUpTo var (slice_set vars var (pos coord)) later
    → mask_by vars var test (out-Expr e) ≡ Some m → value_of e later ts ≡ mask_value m (pos coord)
