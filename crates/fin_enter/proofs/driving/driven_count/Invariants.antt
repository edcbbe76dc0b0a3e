-- What is left of the list is told as the whole.
use Rattle.std.proofs.Common.{◌≡◌, ◌+◌, ◌≤◌, drop}
use Rattle.fin_enter.specs.PushedReads.{driven_among}
use Rattle.fin_enter.proofs.driving.driven_count.Given as goal

abbrev pub invariant-loop-access : goal.invariant-loop-access
invariant-loop-access l = (l.count ≤ l.access-index) × (l.count + driven_among l.var (drop l.access-index l.reads) ≡ driven_among l.var l.reads)
