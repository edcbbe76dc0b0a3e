use Rattle.std.proofs.Common.{◌≡◌, ℕ, ◌<◌, length, slice_index, slice_index_or, pos}
use Rattle.fin_base.specs.Words.{IsWord}
use Rattle.fin_seats.specs.Codes.{code}
use Rattle.fin_seats.proofs.codes.all_stored.Given as goal

abbrev pub invariant-loop-z : goal.invariant-loop-z
invariant-loop-z l = (length l.all.items ≡ l.z-index) × ((k : ℕ) → k < l.z-index → (slice_index l.all.items k ≡ code l.by (slice_index_or l.start k (pos 0))) × IsWord (slice_index_or l.start k (pos 0)))
