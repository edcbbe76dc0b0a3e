use Rattle.std.proofs.Common.{◌≡◌}
use Rattle.fin_core.specs.Cores.{listed, lists}
use Rattle.fin_core.proofs.queue.queues.Given as goal

-- the lists that were looked at are queues
abbrev pub invariant-loop-list : goal.invariant-loop-list
invariant-loop-list l = lists l.queues.items ≡ listed l.yielded
