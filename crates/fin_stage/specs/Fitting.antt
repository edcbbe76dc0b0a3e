-- Stages that fit the headers of a program and its extents.
use Rattle.std.specs.Prelude.{◌≡◌, ℕ, List}
use Rattle.fin_tensor.specs.TensorFunction.{TensorFunction, HasCells}
use Rattle.fin_tensor.specs.Canon.{undecorated}
use Rattle.fin_ast.specs.Dense.{Setting, shape_at, fill_of}
use Rattle.fin_stage.specs.Stages.{Stage, Absent, Built, Frozen, stage_at}
use Rattle.fin_stage.specs.Staged.{format_at}

-- the function of a tensor has its shape and its fill, and each entry lies in the box and is other than the fill
pub record FunctionFits (w : Setting) (tensor : ℕ) (f : TensorFunction) : Type 0 where
  pub shape : f.shape ≡ shape_at w tensor
  pub fill : f.fill ≡ fill_of w tensor
  pub cells : HasCells f

-- a stage has the tensor's format, but for its decoration, and a function that fits
abbrev pub StageFits : Setting → ℕ → Stage → Type 0
StageFits w tensor Absent = Unit {0}
StageFits w tensor (Built b) = (undecorated b.format ≡ undecorated (format_at w tensor)) × FunctionFits w tensor b.function
StageFits w tensor (Frozen format f) = (format ≡ undecorated (format_at w tensor)) × FunctionFits w tensor f

abbrev pub StagesFit : Setting → List Stage → Type 0
StagesFit w stages = (tensor : ℕ) → StageFits w tensor (stage_at stages tensor)
