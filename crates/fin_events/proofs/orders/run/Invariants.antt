use Rattle.std.proofs.Common.{take}
use Rattle.fin_events.proofs.Running.{Ran}
use Rattle.fin_events.proofs.orders.run.Given as goal

-- the events that were looked at have happened
abbrev pub invariant-loop-chunk : goal.invariant-loop-chunk
invariant-loop-chunk l = Ran (take l.chunk-index l.order) l.fn.core l.core
