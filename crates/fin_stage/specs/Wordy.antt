-- Stages whose functions are tensors of words.
use Rattle.std.specs.Prelude.{ℕ, ◌≤◌, ◌^◌, List, IfSome}
use Rattle.fin_base.specs.Words.{IsWord}
use Rattle.fin_tensor.specs.TensorFunction.{TensorFunction, IsTensor}
use Rattle.fin_ast.specs.Dense.{Setting, made_at, fill_of, range_of}
use Rattle.fin_stage.specs.Stages.{Stage, stage_at, function_in}

-- each entry is a word other than the fill, and lies in the box; the fill is a word
pub record IsWordTensor (f : TensorFunction) : Type 0 where
  pub tensor : IsTensor f
  pub fill : IsWord f.fill

-- the inputs are such tensors, fills are words, and no range reaches over 2^40
pub record IsWordy (w : Setting) : Type 0 where
  pub given : (tensor : ℕ) → IfSome (made_at w.given tensor) IsWordTensor
  pub fills : (tensor : ℕ) → IsWord (fill_of w tensor)
  pub ranges : (var : ℕ) → (range_of w var).1 ≤ 2 ^ 40

abbrev pub AreWordy : List Stage → Type 0
AreWordy stages = (tensor : ℕ) → IfSome (function_in (stage_at stages tensor)) IsWordTensor
