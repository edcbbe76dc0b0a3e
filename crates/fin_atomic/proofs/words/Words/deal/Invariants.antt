use Rattle.std.proofs.Common.{◌≡◌, ◌+◌, length, All}
use Rattle.fin_seats.specs.Books.{dealt}
use Rattle.fin_atomic.specs.Seats.{IsSeatOf, IsFresh, view}
use Rattle.fin_atomic.proofs.words.Words.deal.Given as goal

abbrev pub invariant-loop : goal.invariant-loop
invariant-loop l = (IsSeatOf l.self l.first) × (view l.first ≡ dealt (view l.first) l.counter) × (length l.all.items + 1 ≡ l.counter) × All (IsFresh l.self) l.all.items
