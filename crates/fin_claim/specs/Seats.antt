-- What a caller sees of a counter and its seats.
use Rattle.std.specs.Prelude.{◌≡◌, ℕ, []}
use Rattle.fin_claim.specs.declared.rule.Holding.{Holding}
use Rattle.fin_claim.specs.declared.claims.Claims.{Claims}
use Rattle.fin_claim.specs.declared.seat.ClaimSeat.{ClaimSeat}

-- what a seat knows
abbrev pub view : ClaimSeat → Holding
view s = s.seat.me.0

abbrev pub limit_of : Claims → ℕ
limit_of c = c.table.shared.key.limit

abbrev pub seats_of : Claims → ℕ
seats_of c = c.table.shared.key.seats

-- the seat is of this counter
abbrev pub IsSeatOf : Claims → ClaimSeat → Type 0
IsSeatOf c s = (s.seat.table_id ≡ c.table.shared.table_id) × ((view s).limit ≡ limit_of c) × ((view s).standing.seats ≡ seats_of c)

-- a seat of this counter that stands for itself and has drawn nothing
abbrev pub IsFresh : Claims → ClaimSeat → Type 0
IsFresh c s = IsSeatOf c s × ((view s).standing.stands ≡ 1) × ((view s).done ≡ 0) × ((view s).numbers ≡ [])

-- the seat has gathered all others
abbrev pub IsGathered : Claims → ClaimSeat → Type 0
IsGathered c s = (view s).standing.stands ≡ seats_of c
