-- Classes before any tie, and the flags of loops without range.
use Rattle.std.specs.Prelude.{◌≡◌, ℕ, Bool, false, List, map, slice_index_or}
use Rattle.std.specs.List.{range_with_len}
use Rattle.fin_ast.specs.Ties.{Shapes, known}
use Rattle.fin_dims.specs.declared.classes.Classes.{Classes}

-- n dimensions, each in its own class with its known number
pub record HasDimensions (shapes : Shapes) (n : ℕ) (c : Classes) : Type 0 where
  pub labels : c.labels.items ≡ map (λ d. d) (range_with_len 0 n)
  pub numbers : c.numbers.items ≡ map (known shapes) (range_with_len 0 n)

abbrev pub flag_of : List Bool → ℕ → Bool
flag_of flags var = slice_index_or flags var false
