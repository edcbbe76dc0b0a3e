use Rattle.std.proofs.Common.{ℕ, ◌<◌}
use Rattle.fin_build.specs.Builders.{IsBuilding}
use Rattle.fin_core.specs.Cores.{tensor_at}
use Rattle.fin_core.proofs.events.are_built.Given as goal

-- the tensors that were looked at are built
abbrev pub invariant-loop-tensor : goal.invariant-loop-tensor
invariant-loop-tensor l = (t : ℕ) → t < l.tensor-index → IsBuilding (tensor_at l.tensors t)
