-- The entries of a function.
use Rattle.std.specs.Prelude.{◌≡◌, ◌≢◌, ℕ, ℤ, List, [], ◌∷◌, IsTrue, All, Contains, map}
use Rattle.std.specs.Cmp.Lexicographic.{slice_cmp}
use Rattle.std.specs.Ordering.{nat_cmp}
use Rattle.std.specs.List.Sorted.{IsStrictlySortedBy}
use Rattle.fin_tensor.specs.TensorFunction.{TensorFunction, value_at, is_in_box}

-- coordinates and a value
abbrev pub Entry : Type 0
Entry = List ℕ × ℤ

-- all coordinates that differ from the fill, with their values; they rise, so that none stands twice
pub record AreEntriesOf (f : TensorFunction) (es : List Entry) : Type 0 where
  pub each : All (λ e. (e.1 ≡ value_at f e.0) × (e.1 ≢ f.fill)) es
  pub all : (cs : List ℕ) → value_at f cs ≢ f.fill → Contains es (cs, value_at f cs)
  pub rise : IsStrictlySortedBy (slice_cmp nat_cmp) (map (λ e. e.0) es)

-- each lies in the box
abbrev pub AllInside : List ℕ → List Entry → Type 0
AllInside shape [] = Unit {0}
AllInside shape (e ∷ es) = IsTrue (is_in_box shape e.0) × AllInside shape es
