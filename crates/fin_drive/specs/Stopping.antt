-- Where the fibres of driven reads have places, along the coordinates of their loop: a stop of a looplet is one of these,
-- and the entry of the loop is charged for all of them.
use Rattle.std.specs.Prelude.{◌≡◌, ℕ, ◌+◌, Bool, false, ℤ, pos, negsuc, List, length, map, sum, filter, slice_set, slice_index}
use Rattle.std.specs.List.{range_with_len}
use Rattle.fin_tensor.specs.declared.part.Part.{Part}
use Rattle.fin_tensor.specs.declared.part.Part.TheVariants as part
use Rattle.fin_tensor.specs.Pieces.{holds_number}
use Rattle.fin_ast.specs.Value.{Numbers, place}
use Rattle.fin_simp.specs.Sights.{Stand, Nowhere, At, Unsettled}
use Rattle.fin_simp.specs.Work.{Driven}

-- a coordinate that is stored, or the last one of a run
abbrev pub part_stops : Part → ℕ → ℕ → Bool
part_stops part.Dense q m = false
part_stops (part.Keys ptr idx) q m = holds_number idx (slice_index ptr q) (slice_index ptr (q + 1)) m
part_stops (part.Runs ptr stop) q m = holds_number stop (slice_index ptr q) (slice_index ptr (q + 1)) (m + 1)
part_stops (part.Band ptr start) q m = false

abbrev pub stand_stops : Stand → ℤ → Bool
stand_stops Nowhere z = false
stand_stops Unsettled z = false
stand_stops (At part q) (pos m) = part_stops part q m
stand_stops (At part q) (negsuc m) = false

-- at a coordinate of the loop
abbrev pub stops_after : Numbers → ℕ → Driven → ℕ → Bool
stops_after vars var d c = stand_stops d.stand (place (slice_set vars var (pos c)) d.index)

-- how many there are among so many coordinates from one on
abbrev pub stop_count : Numbers → ℕ → ℕ → ℕ → Driven → ℕ
stop_count vars var from m d = length (filter (stops_after vars var d) (range_with_len from m))

abbrev pub stop_counts : Numbers → ℕ → ℕ → ℕ → List Driven → ℕ
stop_counts vars var from m ds = sum (map (stop_count vars var from m) ds)

-- those of two stretches, one behind the other, add up to those of both
abbrev pub StopsAdd : Type 0
StopsAdd = (vars : Numbers) (var from m k : ℕ) (ds : List Driven)
    → stop_counts vars var from (m + k) ds ≡ stop_counts vars var from m ds + stop_counts vars var (from + m) k ds
