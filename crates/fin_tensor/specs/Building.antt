-- A tensor that is being built: a function, with the last coordinates at which it was updated where its levels are filled in order.
use Rattle.std.specs.Prelude.{ℕ, ◌^◌, ◌≤◌, Bool, true, false, not, nat_eq, if◌then◌else◌, ℤ, pos, List, [], take, Option, Some, None}
use Rattle.std.specs.Cmp.Lexicographic.{slice_cmp}
use Rattle.std.specs.Ordering.{nat_cmp}
use Rattle.std.specs.declared.cmp.Ordering.{Ordering}
use Rattle.std.specs.declared.cmp.Ordering.TheVariants.{Less, Equal, Greater}
use Rattle.fin_tensor.specs.declared.format.Format.{Format}
use Rattle.fin_tensor.specs.declared.format.Wrap.TheVariants.{Bare}
use Rattle.fin_tensor.specs.TensorFunction.{TensorFunction, filled, changed}
use Rattle.fin_tensor.specs.Placement.{IsPlaced}
use Rattle.fin_tensor.specs.Lines.{IsShape}
use Rattle.fin_tensor.specs.Extents.{dense_size}
use Rattle.fin_tensor.specs.Order.{ordered_levels}

pub record Building : Type 0 where
  pub format : Format
  pub function : TensorFunction
  pub last : Option (List ℕ)

-- a function that nothing was updated of
abbrev pub unchanged : Format → TensorFunction → Building
unchanged format f = record { format = format; function = f; last = None }

-- where there is no tensor
abbrev pub no_format : Format
no_format = record { levels = []; wrap = Bare; fill = pos 0 }

-- a tensor of the format and shape can be built
pub record CanBuild (format : Format) (shape : List ℕ) : Type 0 where
  pub placed : IsPlaced format.levels format.wrap
  pub shape_is : IsShape format.levels shape
  pub small : dense_size format.levels shape ≤ 2 ^ 24

abbrev pub is_less : Ordering → Bool
is_less Less = true
is_less Equal = false
is_less Greater = false

-- the fill everywhere, and nothing was updated
abbrev pub started : Format → List ℕ → Building
started format shape = record { format = format; function = filled shape format.fill; last = None }

-- the first d coordinates don't come before those of the last update
abbrev pub comes_behind : ℕ → Option (List ℕ) → List ℕ → Bool
comes_behind d None cs = true
comes_behind d (Some last) cs = not (is_less (slice_cmp nat_cmp (take d cs) (take d last)))

-- an update there keeps the order
abbrev pub follows : Building → List ℕ → Bool
follows b cs = comes_behind (ordered_levels b.format.levels) b.last cs

-- the last update, where some level is filled in order
abbrev pub last_of : ℕ → List ℕ → Option (List ℕ)
last_of d cs = if nat_eq d 0 then None else Some cs

-- one coordinate's value goes through a step
abbrev pub updated : Building → List ℕ → (ℤ → ℤ) → Building
updated b cs step = record { format = b.format; function = changed b.function cs step; last = last_of (ordered_levels b.format.levels) cs }
