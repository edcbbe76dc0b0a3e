-- What expressions read of a tensor that is a storage.
use Rattle.std.specs.Prelude.{ℕ, ◌-◌, Bool, true, false, ◌&&◌, nat_le, if◌then◌else◌, List, [], slice_index, slice_index_or, ℤ, pos, negsuc}
use Rattle.std.specs.List.{list_any, range_with_len}
use Rattle.fin_tensor.specs.declared.part.Part.{Part}
use Rattle.fin_tensor.specs.declared.part.Part.TheVariants.{Dense, Keys, Runs, Band}
use Rattle.fin_tensor.specs.Levels.{fibres, first_from, fibre_from, fibre_to, numbers_of, wanted}
use Rattle.fin_ir.specs.declared.expression.Table.{Table}
use Rattle.fin_ir.specs.declared.expression.Table.TheVariants.{Ptr, Idx, Stop, Start}

-- the list of that name; none where the level has no such list
abbrev pub table_in : Table → Part → List ℕ
table_in Ptr (Keys ptr idx) = ptr
table_in Ptr (Runs ptr stop) = ptr
table_in Ptr (Band ptr start) = ptr
table_in Idx (Keys ptr idx) = idx
table_in Stop (Runs ptr stop) = stop
table_in Start (Band ptr start) = start
table_in table part = []

abbrev pub part_at : List Part → ℕ → Part
part_at parts level = slice_index_or parts level Dense

-- the number at a place, or 0
abbrev pub number_at : List ℕ → ℤ → ℤ
number_at xs (pos k) = pos (slice_index xs k)
number_at xs (negsuc k) = pos 0

-- the word at a place, or 0
abbrev pub word_at : List ℤ → ℤ → ℤ
word_at xs (pos k) = slice_index_or xs k (pos 0)
word_at xs (negsuc k) = pos 0

abbrev pub has_numbers : Part → Bool
has_numbers Dense = false
has_numbers (Keys ptr idx) = true
has_numbers (Runs ptr stop) = true
has_numbers (Band ptr start) = false

-- the fibre at the position holds from..to
abbrev pub holds : ℕ → Part → ℕ → ℕ → ℕ → Bool
holds n part from to position = nat_le (fibre_from n part position) from && nat_le to (fibre_to n part position)

-- from..to lies in one of a level's fibres, and there are numbers to look through
abbrev pub lies_in_fibre : ℕ → ℕ → Part → ℕ → ℕ → Bool
lies_in_fibre n count part from to = has_numbers part && nat_le from to && list_any (holds n part from to) (range_with_len 0 count)

-- the first place there whose number is wanted, or the one after them
abbrev pub sought : ℕ → ℕ → Part → ℕ → ℕ → ℕ → ℕ
sought n count part from to key = if lies_in_fibre n count part from to then first_from (numbers_of part) (wanted part key) from (to - from) else from

-- the same in words: `from` where one of the three is no place
abbrev pub seek : ℕ → ℕ → Part → ℤ → ℤ → ℤ → ℤ
seek n count part (pos from) (pos to) (pos key) = pos (sought n count part from to key)
seek n count part (pos from) (pos to) (negsuc key) = pos from
seek n count part (pos from) (negsuc to) key = pos from
seek n count part (negsuc from) to key = negsuc from

-- in level `level` of a storage
abbrev pub seek_in : List ℕ → List Part → ℕ → ℤ → ℤ → ℤ → ℤ
seek_in shape parts level from to key = seek (slice_index shape level) (fibres shape parts 1 level) (part_at parts level) from to key
