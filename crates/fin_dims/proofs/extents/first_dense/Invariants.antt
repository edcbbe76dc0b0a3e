use Rattle.std.proofs.Common.{◌≡◌, drop}
use Rattle.fin_ast.specs.Sizes.{first_dense}
use Rattle.fin_dims.proofs.extents.first_dense.Given as goal

abbrev pub invariant-loop-tensor : goal.invariant-loop-tensor
invariant-loop-tensor l = first_dense (drop l.tensor l.headers) (drop l.tensor l.shapes) ≡ first_dense l.headers l.shapes
