use Rattle.fin_tensor.proofs.Functions.{empty_is}
use Rattle.fin_grid.proofs.grid.Grid.new.Goals as goal

pub invariant_of-result : goal.invariant_of-result
invariant_of-result c = empty_is _ _ c.new.result.entries c.new.ensures.empty
