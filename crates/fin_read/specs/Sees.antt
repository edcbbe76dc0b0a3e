-- Code that sees a tensor as a storage of a function.
use Rattle.std.specs.Prelude.{◌≡◌, ℕ, IsTrue, List, ℤ, Some}
use Rattle.fin_tensor.specs.declared.format.Level.{Level}
use Rattle.fin_tensor.specs.TensorFunction.{TensorFunction, value_at, is_in_box}
use Rattle.fin_tensor.specs.Levels.{IsStored, value_from}
use Rattle.fin_ast.specs.Value.{Tensors}
use Rattle.fin_ir.specs.Frozen.{Frozen}
use Rattle.fin_ir.specs.Machine.{Tensor, stored}
use Rattle.fin_read.specs.Values.{Heads, format_of, shape_of}

-- a storage of these levels, this shape and fill, with the values of a function
pub record Sees (ts : ℕ → Tensor) (tensor : ℕ) (levels : List Level) (shape : List ℕ) (fill : ℤ) (f : TensorFunction) : Type 0 where
  pub storage : Frozen
  pub is : ts tensor ≡ stored storage
  pub shape_is : storage.shape ≡ shape
  pub valid : IsStored 1 levels shape storage.parts storage.val
  pub f_shape : f.shape ≡ shape
  pub f_fill : f.fill ≡ fill
  pub gives : (cs : List ℕ) → IsTrue (is_in_box shape cs) → value_at f cs ≡ value_from shape storage.parts storage.val fill 0 cs

-- each tensor that can be read
abbrev pub SeesAll : Heads → (ℕ → Tensor) → Tensors → Type 0
SeesAll h ts fs = (tensor : ℕ) (f : TensorFunction) → fs tensor ≡ Some f → Sees ts tensor (format_of h tensor).levels (shape_of h tensor) (format_of h tensor).fill f
