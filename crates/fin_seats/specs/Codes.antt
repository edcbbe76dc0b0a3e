-- How words are stored.
use Rattle.std.specs.Prelude.{◌≡◌, ℕ, ◌+◌, ◌%◌, ◌^◌, ◌<◌, ℤ, pos, List, length, slice_index, slice_index_or}
use Rattle.std.specs.Int.{cast_signed, cast_unsigned, w64}
use Rattle.fin_base.specs.declared.reduce.Reduce.{Reduce}
use Rattle.fin_base.specs.declared.reduce.Reduce.TheVariants.{Add, Mul, Min, Max, And, Or, Xor, Put}
use Rattle.fin_base.specs.Words.{IsWord}

-- the number with its top bit flipped
abbrev pub flip : ℕ → ℕ
flip n = (n + 2 ^ 63) % 2 ^ 64

-- a word as it is stored: itself, with its top bit flipped where the reduction goes by order
abbrev pub code : Reduce → ℤ → ℕ
code Min z = flip (cast_unsigned w64 z)
code Max z = flip (cast_unsigned w64 z)
code Add z = cast_unsigned w64 z
code Mul z = cast_unsigned w64 z
code And z = cast_unsigned w64 z
code Or z = cast_unsigned w64 z
code Xor z = cast_unsigned w64 z
code Put z = cast_unsigned w64 z

-- the word that is stored so
abbrev pub decode : Reduce → ℕ → ℤ
decode Min n = cast_signed w64 (flip n)
decode Max n = cast_signed w64 (flip n)
decode Add n = cast_signed w64 n
decode Mul n = cast_signed w64 n
decode And n = cast_signed w64 n
decode Or n = cast_signed w64 n
decode Xor n = cast_signed w64 n
decode Put n = cast_signed w64 n

-- the numbers are the words as they are stored
abbrev pub AreStored : Reduce → List ℤ → List ℕ → Type 0
AreStored by start codes = (length codes ≡ length start) × ((k : ℕ) → k < length start → (slice_index codes k ≡ code by (slice_index_or start k (pos 0))) × IsWord (slice_index_or start k (pos 0)))
