-- A tensor as a function from coordinates to words: a shape, a fill, and a finite map to words other than the fill.
use Rattle.std.specs.Prelude.{IsTrue, ◌≡◌, ◌≢◌, ℕ, Bool, true, false, ◌&&◌, nat_lt, ℤ, List, [], ◌∷◌, map, flat_map, IfSome, unwrap_or, if◌then◌else◌, refl, FitsSigned}
use Rattle.std.specs.Ordering.{nat_cmp, int_eq}
use Rattle.std.specs.Cmp.Lexicographic.{slice_cmp}
use Rattle.std.specs.FinMap as finite
use Rattle.std.specs.Coded.{Coded, code_by, coded×, coded_ℕ, coded_ℤ, coded_list}
use Rattle.std.specs.Int.{w64}
use Rattle.std.specs.List.{range_with_len}

abbrev pub Cells : Type 0
Cells = finite.FinMap (slice_cmp nat_cmp) ℤ

pub record TensorFunction : Type 0 where
  pub shape : List ℕ
  pub fill : ℤ
  pub cells : Cells

abbrev pub function_code : Coded TensorFunction
function_code =
    code_by (List ℕ × (ℤ × Cells)) (coded× (coded_list coded_ℕ) (coded× coded_ℤ (finite.code (coded_list coded_ℕ) coded_ℤ))) (λ f. (f.shape, (f.fill, f.cells))) (λ p. record { shape = p.0; fill = p.1.0; cells = p.1.1 }) (λ _. refl)

-- the coordinates lie in the box
abbrev pub is_in_box : List ℕ → List ℕ → Bool
is_in_box [] [] = true
is_in_box (n ∷ ns) (c ∷ cs) = nat_lt c n && is_in_box ns cs
is_in_box [] (c ∷ cs) = false
is_in_box (n ∷ ns) [] = false

-- the coordinate lists of a box, in order
abbrev pub box : List ℕ → List (List ℕ)
box [] = [] ∷ []
box (n ∷ ns) = flat_map (λ i. map (λ cs. i ∷ cs) (box ns)) (range_with_len 0 n)

-- the value at a coordinate
abbrev pub value_at : TensorFunction → List ℕ → ℤ
value_at f cs = unwrap_or (finite.get f.cells cs) f.fill

-- the fill everywhere
abbrev pub filled : List ℕ → ℤ → TensorFunction
filled shape fill = record { shape = shape; fill = fill; cells = finite.empty }

-- with this value at a coordinate
abbrev pub with_value : TensorFunction → List ℕ → ℤ → TensorFunction
with_value f cs v = record { shape = f.shape; fill = f.fill; cells = (if int_eq v f.fill then finite.remove f.cells cs else finite.insert f.cells cs v) }

-- one coordinate's value goes through a step
abbrev pub changed : TensorFunction → List ℕ → (ℤ → ℤ) → TensorFunction
changed f cs step = with_value f cs (step (value_at f cs))

-- an entry lies in the box and has a word other than the fill
pub record IsEntry (shape : List ℕ) (fill : ℤ) (cs : List ℕ) (v : ℤ) : Type 0 where
  pub inside : IsTrue (is_in_box shape cs)
  pub other : v ≢ fill
  pub word : FitsSigned w64 v

-- each entry does
abbrev pub IsTensor : TensorFunction → Type 0
IsTensor f = (cs : List ℕ) → IfSome (finite.get f.cells cs) (IsEntry f.shape f.fill cs)

-- functions that agree in shape, fill and everywhere are equal
abbrev pub AgreeingAreEqual : Type 0
AgreeingAreEqual = (f g : TensorFunction) → IsTensor f → IsTensor g → f.shape ≡ g.shape → f.fill ≡ g.fill → ((cs : List ℕ) → value_at f cs ≡ value_at g cs) → f ≡ g

-- a value is given at one place, and the others stay
abbrev pub GivesOnePlace : Type 0
GivesOnePlace = (f : TensorFunction) (cs : List ℕ) (v : ℤ) → (value_at (with_value f cs v) cs ≡ v) × ((ds : List ℕ) → ds ≢ cs → value_at (with_value f cs v) ds ≡ value_at f ds)

-- what stays a tensor function
abbrev pub KeepsTensors : Type 0
KeepsTensors = (f : TensorFunction) (cs : List ℕ) (v : ℤ) → IsTensor f → IsTrue (is_in_box f.shape cs) → FitsSigned w64 v → IsTensor (with_value f cs v)

-- the same of an entry that need be no word
pub record IsCell (shape : List ℕ) (fill : ℤ) (cs : List ℕ) (v : ℤ) : Type 0 where
  pub inside : IsTrue (is_in_box shape cs)
  pub other : v ≢ fill

abbrev pub HasCells : TensorFunction → Type 0
HasCells f = (cs : List ℕ) → IfSome (finite.get f.cells cs) (IsCell f.shape f.fill cs)
