-- Tensors whose dense extents keep their limit.
use Rattle.std.specs.Prelude.{ℕ, ◌≤◌, ◌^◌}
use Rattle.fin_tensor.specs.Extents.{dense_size}
use Rattle.fin_read.specs.Values.{Heads, format_of, shape_of}

-- the product of each tensor's dense extents is at most 2^24, so that the work of a declaration fits a word
abbrev pub AreBuilt : Heads → Type 0
AreBuilt h = (tensor : ℕ) → dense_size (format_of h tensor).levels (shape_of h tensor) ≤ 2 ^ 24
