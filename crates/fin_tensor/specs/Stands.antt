-- The tensor function that a storage stands for.
use Rattle.std.specs.Prelude.{◌≡◌, ℕ, List, [], ◌∷◌, ℤ, IsTrue, FitsSigned}
use Rattle.std.specs.Int.{w64}
use Rattle.fin_tensor.specs.TensorFunction.{TensorFunction, value_at, filled, with_value, IsTensor, is_in_box, box}
use Rattle.fin_tensor.specs.Levels.{value_from}
use Rattle.fin_tensor.specs.declared.storage.Storage.{Storage}

-- the function's value given at each of these
abbrev pub spread : List (List ℕ) → (List ℕ → ℤ) → TensorFunction → TensorFunction
spread [] f t = t
spread (cs ∷ css) f t = spread css f (with_value t cs (f cs))

-- the function as a finite map
abbrev pub tabulated : List ℕ → ℤ → (List ℕ → ℤ) → TensorFunction
tabulated shape fill f = spread (box shape) f (filled shape fill)

-- what a storage stands for: one child per level, and the fill where a level has none
abbrev pub stands : Storage → TensorFunction
stands s = tabulated s.shape s.format.fill (value_from s.shape s.parts s.val s.format.fill 0)

-- a tabulated function gives its values, and is a tensor function where they are words
abbrev pub TabulatedGives : Type 0
TabulatedGives = (shape : List ℕ) (fill : ℤ) (f : List ℕ → ℤ) →
    ((cs : List ℕ) → IsTrue (is_in_box shape cs) → value_at (tabulated shape fill f) cs ≡ f cs)
    × (((cs : List ℕ) → IsTrue (is_in_box shape cs) → FitsSigned w64 (f cs)) → IsTensor (tabulated shape fill f))
