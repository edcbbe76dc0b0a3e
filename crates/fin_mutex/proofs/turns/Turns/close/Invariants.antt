use Rattle.std.proofs.Common.{◌≡◌, ℕ, ◌<◌, slice_index, slice_index_or, pos}
use Rattle.std.specs.Slots.{slots_items}
use Rattle.fin_seats.specs.Codes.{decode}
use Rattle.fin_mutex.proofs.turns.Turns.close.Given as goal

abbrev pub invariant-loop-k : goal.invariant-loop-k
invariant-loop-k l = (k : ℕ) → k < l.k → slice_index_or l.into k (pos 0) ≡ decode l.by (slice_index (slots_items l.closed.words) k)
