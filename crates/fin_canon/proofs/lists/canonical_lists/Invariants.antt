use Rattle.fin_tensor.specs.TensorFunction.{value_at}
use Rattle.fin_canon.specs.Entries.{named}
use Rattle.fin_canon.proofs.Storing.{SoFar}
use Rattle.fin_canon.proofs.lists.canonical_lists.Given as goal

abbrev pub invariant-loop-k : goal.invariant-loop-k
invariant-loop-k l = SoFar l.entries l.format.fill l.format.levels l.shape (value_at (named l.shape l.format.fill l.entries)) l.k l.parts l.slices
