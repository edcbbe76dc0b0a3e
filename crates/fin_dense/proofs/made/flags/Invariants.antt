use Rattle.std.proofs.Common.{◌≡◌, map, is_some, take}
use Rattle.fin_dense.proofs.made.flags.Given as goal

abbrev pub invariant-loop-tensor : goal.invariant-loop-tensor
invariant-loop-tensor l = l.flags.items ≡ map is_some (take l.tensor-index l.made)
