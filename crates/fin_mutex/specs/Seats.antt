-- What a caller sees of the words, their turns and their seats.
use Rattle.std.specs.Prelude.{◌≡◌, ℕ, ◌<◌, ℤ, List, [], length, slice_index_or, pos}
use Rattle.fin_base.specs.declared.reduce.Reduce.{Reduce}
use Rattle.fin_seats.specs.Books.{start_at}
use Rattle.fin_mutex.specs.declared.rule.View.{View}
use Rattle.fin_mutex.specs.declared.turns.Turns.{Turns}
use Rattle.fin_mutex.specs.declared.seat.TurnSeat.{TurnSeat}
use Rattle.fin_mutex.specs.Turns.{count_of}

-- what a seat knows
abbrev pub view : TurnSeat → View
view s = s.seat.me.0

abbrev pub by_of : Turns → Reduce
by_of t = t.table.shared.key.start.by

abbrev pub seats_of : Turns → ℕ
seats_of t = t.table.shared.key.start.seats

-- how many words a position has
abbrev pub per_of : Turns → ℕ
per_of t = t.table.shared.key.per

-- how many words there are
abbrev pub size_of : Turns → ℕ
size_of t = count_of t.table.shared.key

-- what word k held at the start
abbrev pub start_of : Turns → ℕ → ℤ
start_of t k = start_at t.table.shared.key.start k

-- the seat is of this table
abbrev pub IsSeatOf : Turns → TurnSeat → Type 0
IsSeatOf t s = (s.seat.table_id ≡ t.table.shared.table_id) × ((view s).base ≡ size_of t) × ((view s).book.standing.seats ≡ seats_of t)

-- a seat of this table that stands for itself alone
abbrev pub IsOwn : Turns → TurnSeat → Type 0
IsOwn t s = IsSeatOf t s × ((view s).book.standing.stands ≡ 1)

-- a seat of this table that stands for itself and has no entry
abbrev pub IsFresh : Turns → TurnSeat → Type 0
IsFresh t s = IsSeatOf t s × ((view s).book.standing.stands ≡ 1) × ((view s).book.entries ≡ [])

-- the seat has gathered all others
abbrev pub IsGathered : Turns → TurnSeat → Type 0
IsGathered t s = (view s).book.standing.stands ≡ seats_of t

-- the table starts with these words
abbrev pub StartsAs : Turns → List ℤ → Type 0
StartsAs t start = (size_of t ≡ length start) × ((k : ℕ) → k < length start → start_of t k ≡ slice_index_or start k (pos 0))
