-- What every builder keeps, and its code as a value.
use Rattle.std.specs.Prelude.{◌≡◌, ℕ, ◌<◌, List, None, IfSome, IsTrue, FitsSigned}
use Rattle.std.specs.Int.{w64}
use Rattle.fin_tensor.specs.declared.format.Format.{Format}
use Rattle.fin_tensor.specs.TensorFunction.{TensorFunction, IsTensor, is_in_box}
use Rattle.fin_tensor.specs.Placement.{IsPlaced}
use Rattle.fin_tensor.specs.Lines.{IsShape}
use Rattle.fin_tensor.specs.Order.{ordered_levels}
use Rattle.fin_tensor.specs.Building.{Building}

-- the last update lies in the box, and is kept only where some level is filled in order
pub record IsLast (b : Building) (cs : List ℕ) : Type 0 where
  pub inside : IsTrue (is_in_box b.function.shape cs)
  pub ordered : 0 < ordered_levels b.format.levels

-- the format is placed, the function is one of its shape and fill
pub record IsBuilding (b : Building) : Type 0 where
  pub placed : IsPlaced b.format.levels b.format.wrap
  pub shape_is : IsShape b.format.levels b.function.shape
  pub fill_is : b.function.fill ≡ b.format.fill
  pub word : FitsSigned w64 b.format.fill
  pub tensor : IsTensor b.function
  pub last_is : IfSome b.last (IsLast b)

-- the function is held, and nothing was updated
abbrev pub holds : Format → TensorFunction → Building
holds format f = record { format = format; function = f; last = None }
