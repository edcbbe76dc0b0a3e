-- Some rows of a tensor, which are its first coordinates.
use Rattle.std.specs.Prelude.{◌≡◌, ℕ, ◌+◌, ◌-◌, ◌≤◌, Bool, false, ◌&&◌, nat_lt, nat_le, if◌then◌else◌, List, [], ◌∷◌, slice_index, Option, Some, None, IsTrue}
use Rattle.fin_tensor.specs.declared.format.Level.{Level}
use Rattle.fin_tensor.specs.TensorFunction.{TensorFunction, value_at}
use Rattle.fin_tensor.specs.Placement.{is_dense}
use Rattle.fin_tensor.specs.Stands.{tabulated}
use Rattle.fin_tensor.specs.Building.{Building}

-- the first level is dense
abbrev pub starts_dense : List Level → Bool
starts_dense [] = false
starts_dense (l ∷ ls) = is_dense l

-- the rows lo to hi - 1 are some of the tensor's
pub record AreRows (lo hi : ℕ) (b : Building) : Type 0 where
  pub dense : IsTrue (starts_dense b.format.levels)
  pub order : lo ≤ hi
  pub within : hi ≤ slice_index b.function.shape 0

-- the coordinates with another first one
abbrev pub moved : (ℕ → ℕ) → List ℕ → List ℕ
moved to [] = []
moved to (c ∷ cs) = to c ∷ cs

-- the coordinates lie in those rows
abbrev pub lies_in : ℕ → ℕ → List ℕ → Bool
lies_in lo hi [] = false
lies_in lo hi (c ∷ cs) = nat_le lo c && nat_lt c hi

abbrev pub rows_shape : ℕ → ℕ → List ℕ → List ℕ
rows_shape lo hi = moved (λ n. hi - lo)

-- the function of those rows, moved down by lo
abbrev pub rows_of : ℕ → ℕ → TensorFunction → TensorFunction
rows_of lo hi f = tabulated (rows_shape lo hi f.shape) f.fill (λ cs. value_at f (moved (λ c. c + lo) cs))

-- the rows alone, in which nothing was updated
abbrev pub part_of : ℕ → ℕ → Building → Building
part_of lo hi b = record { format = b.format; function = rows_of lo hi b.function; last = None }

-- it has the format and the shape of such a part
pub record IsPartFor (lo hi : ℕ) (b p : Building) : Type 0 where
  pub format_is : p.format ≡ b.format
  pub shape_is : p.function.shape ≡ rows_shape lo hi b.function.shape

-- the function with other rows, which are moved up by lo
abbrev pub with_rows : ℕ → ℕ → TensorFunction → TensorFunction → TensorFunction
with_rows lo hi f part = tabulated f.shape f.fill (λ cs. if lies_in lo hi cs then value_at part (moved (λ c. c - lo) cs) else value_at f cs)

-- the last update is the part's, where it has one
abbrev pub last_after : ℕ → Option (List ℕ) → Option (List ℕ) → Option (List ℕ)
last_after lo None own = own
last_after lo (Some cs) own = Some (moved (λ c. c + lo) cs)

abbrev pub replaced : ℕ → ℕ → Building → Building → Building
replaced lo hi b p = record { format = b.format; function = with_rows lo hi b.function p.function; last = last_after lo p.last b.last }
