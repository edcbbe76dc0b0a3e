-- Entries of a tensor, and the function that they name.
use Rattle.std.specs.Prelude.{◌≡◌, ℕ, zero, suc, ◌+◌, ◌<◌, List, [], ◌∷◌, length, ℤ, pos, IsTrue}
use Rattle.std.specs.Cmp.Lexicographic.{slice_cmp}
use Rattle.std.specs.Ordering.{nat_cmp}
use Rattle.std.specs.declared.cmp.Ordering.TheVariants.{Less}
pub use Rattle.fin_tensor.specs.Canon.{undecorated}
use Rattle.fin_tensor.specs.TensorFunction.{TensorFunction, is_in_box, filled, with_value}

-- coordinates and a value
abbrev pub Entry : Type 0
Entry = List ℕ × ℤ

-- the coordinates and the value of entry k
abbrev pub coords : List Entry → ℕ → List ℕ
coords [] k = []
coords (e ∷ es) zero = e.0
coords (e ∷ es) (suc k) = coords es k

abbrev pub word_of : List Entry → ℕ → ℤ
word_of [] k = pos 0
word_of (e ∷ es) zero = e.1
word_of (e ∷ es) (suc k) = word_of es k

-- the entries lie in the box, and their coordinates rise
pub record AreEntries (shape : List ℕ) (es : List Entry) : Type 0 where
  pub inside : (k : ℕ) → k < length es → IsTrue (is_in_box shape (coords es k))
  pub rise : (k : ℕ) → k + 1 < length es → slice_cmp nat_cmp (coords es k) (coords es (k + 1)) ≡ Less

-- a function with the entries' values at their coordinates
abbrev pub given : List Entry → TensorFunction → TensorFunction
given [] f = f
given (e ∷ es) f = given es (with_value f e.0 e.1)

-- the function that the entries name: the fill elsewhere
abbrev pub named : List ℕ → ℤ → List Entry → TensorFunction
named shape fill es = given es (filled shape fill)
