-- What a caller sees of words and their seats.
use Rattle.std.specs.Prelude.{◌≡◌, ℕ, ◌<◌, ℤ, List, [], length, slice_index_or, pos}
use Rattle.fin_base.specs.declared.reduce.Reduce.{Reduce}
use Rattle.fin_seats.specs.declared.views.Book.{Book}
use Rattle.fin_seats.specs.Books.{start_at}
use Rattle.fin_atomic.specs.declared.words.Words.{Words}
use Rattle.fin_atomic.specs.declared.seat.WordSeat.{WordSeat}

-- what a seat knows
abbrev pub view : WordSeat → Book
view s = s.seat.me.0

abbrev pub by_of : Words → Reduce
by_of w = w.table.shared.key.by

abbrev pub seats_of : Words → ℕ
seats_of w = w.table.shared.key.seats

-- how many words there are
abbrev pub count_of : Words → ℕ
count_of w = w.table.shared.table_id.words

-- what word k held at the start
abbrev pub start_of : Words → ℕ → ℤ
start_of w k = start_at w.table.shared.key k

-- the seat is of this table
abbrev pub IsSeatOf : Words → WordSeat → Type 0
IsSeatOf w s = (s.seat.table_id ≡ w.table.shared.table_id) × ((view s).standing.seats ≡ seats_of w)

-- a seat of this table that stands for itself alone
abbrev pub IsOwn : Words → WordSeat → Type 0
IsOwn w s = IsSeatOf w s × ((view s).standing.stands ≡ 1)

-- a seat of this table that stands for itself and has no entry
abbrev pub IsFresh : Words → WordSeat → Type 0
IsFresh w s = IsSeatOf w s × ((view s).standing.stands ≡ 1) × ((view s).entries ≡ [])

-- the seat has gathered all others
abbrev pub IsGathered : Words → WordSeat → Type 0
IsGathered w s = (view s).standing.stands ≡ seats_of w

-- the table starts with these words
abbrev pub StartsAs : Words → List ℤ → Type 0
StartsAs w start = (count_of w ≡ length start) × ((k : ℕ) → k < length start → start_of w k ≡ slice_index_or start k (pos 0))
