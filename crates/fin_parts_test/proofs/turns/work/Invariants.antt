use Rattle.fin_mutex.specs.Seats.{IsOwn}
use Rattle.fin_parts_test.proofs.turns.work.Given as goal

abbrev pub invariant-loop-i : goal.invariant-loop-i
invariant-loop-i g l = IsOwn l.turns l.seat
