use Rattle.fin_atomic.specs.Seats.{IsOwn}
use Rattle.fin_parts_test.proofs.words.work.Given as goal

abbrev pub invariant-loop-i : goal.invariant-loop-i
invariant-loop-i l = IsOwn l.words l.part.seat
