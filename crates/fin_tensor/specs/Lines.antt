-- Validity, line by line.
use Rattle.std.specs.Prelude.{◌≡◌, ◌↔◌, ℕ, ◌^◌, ◌<◌, ◌≤◌, List, length, slice_index, slice_index_or, ℤ}
use Rattle.fin_tensor.specs.declared.format.Level.{Level}
use Rattle.fin_tensor.specs.declared.format.Level.TheVariants as level
use Rattle.fin_tensor.specs.declared.part.Part.{Part}
use Rattle.fin_tensor.specs.declared.part.Part.TheVariants as part
use Rattle.fin_tensor.specs.Levels.{AreSmall, IsLevel, IsStored, fibres}

-- the line `shape`
pub record IsShape (levels : List Level) (shape : List ℕ) : Type 0 where
  pub long : length shape ≡ length levels
  pub small : AreSmall shape

-- how many fibres the level after these parts has
abbrev pub due : List ℕ → List Part → ℕ
due shape parts = fibres shape parts 1 (length parts)

-- the lines of each of these levels
abbrev pub AreLevels : List Level → List ℕ → List Part → Type 0
AreLevels levels shape parts = (k : ℕ) → k < length parts → IsLevel (slice_index_or levels k level.Dense) (slice_index shape k) (fibres shape parts 1 k) (slice_index_or parts k part.Dense)

-- no level, and no list of values below the last of them, is over 2^40
abbrev pub AreFew : List ℕ → List Part → Type 0
AreFew shape parts = (k : ℕ) → k ≤ length parts → fibres shape parts 1 k ≤ 2 ^ 40

-- the line `val`
pub record IsVal (shape : List ℕ) (parts : List Part) (val : List ℤ) : Type 0 where
  pub long : length val ≡ due shape parts
  pub few : AreFew shape parts

-- each line is valid
pub record AreLines (levels : List Level) (shape : List ℕ) (parts : List Part) (val : List ℤ) : Type 0 where
  pub shape_is : IsShape levels shape
  pub long : length parts ≡ length levels
  pub levels_are : AreLevels levels shape parts
  pub val_is : IsVal shape parts val

-- a storage is valid exactly where each of its lines is
abbrev pub ValidByLines : Type 0
ValidByLines = (levels : List Level) (shape : List ℕ) (parts : List Part) (val : List ℤ) → IsStored 1 levels shape parts val ↔ AreLines levels shape parts val
