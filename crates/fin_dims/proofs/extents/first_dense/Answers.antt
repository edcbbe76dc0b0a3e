use Rattle.std.proofs.Common.{◌∙◌, sym, arith, length}
use Rattle.fin_dims.proofs.Walks.{dense_end, either}
use Rattle.fin_dims.proofs.extents.first_dense.Goals as goal

pub returns : goal.returns
returns c = sym (dense_end c.args.headers.now c.args.shapes.now c.loop-tensor.tensor (either (length c.args.headers.now) (length c.args.shapes.now) c.loop-tensor.tensor (omega (arith, c.min-tensor-end.ensures)))) ∙ c.loop-tensor.invariant
