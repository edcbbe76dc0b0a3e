use Rattle.std.proofs.Common.{◌≡◌, ◌+◌, length, All}
use Rattle.fin_seats.specs.Books.{dealt}
use Rattle.fin_mutex.specs.Seats.{IsSeatOf, IsFresh, view}
use Rattle.fin_mutex.proofs.turns.Turns.deal.Given as goal

abbrev pub invariant-loop-made : goal.invariant-loop-made
invariant-loop-made l = (IsSeatOf l.self l.first) × ((view l.first).book ≡ dealt (view l.first).book l.made) × (length l.all.items + 1 ≡ l.made) × All (IsFresh l.self) l.all.items
