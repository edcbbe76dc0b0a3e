-- What a thawed storage is, and how far a walk over a storage has come.
use Rattle.std.specs.Prelude.{◌≡◌, ◌≢◌, ℕ, ◌+◌, ◌<◌, ◌≤◌, Bool, nat_lt, List, [], ◌∷◌, ◌++◌, length, take, drop, slice_index, slice_index_or, ℤ, Option, Some, None, IsTrue, if◌then◌else◌}
use Rattle.fin_tensor.specs.declared.part.Part.{Part}
use Rattle.fin_tensor.specs.declared.part.Part.TheVariants as part
use Rattle.fin_tensor.specs.declared.storage.Storage.{Storage}
use Rattle.fin_tensor.specs.TensorFunction.{TensorFunction, value_at, is_in_box}
use Rattle.fin_tensor.specs.Levels.{fibres, child_in, below, value_from}
use Rattle.fin_tensor.specs.Stands.{stands}
use Rattle.fin_tensor.specs.Building.{Building}

-- the storage's function, and nothing was updated
abbrev pub thawed : Storage → Building
thawed s = record { format = s.format; function = stands s; last = None }

-- coordinates that lead to a position: they lie in the box, one for each level above it
pub record LeadsTo (s : Storage) (at : List ℕ) (pos : ℕ) : Type 0 where
  pub deep : length at ≤ length s.parts
  pub inside : IsTrue (is_in_box (take (length at) s.shape) at)
  pub within : pos < fibres s.shape s.parts 1 (length at)

-- the values below a position of a level
abbrev pub values_below : Storage → ℕ → ℕ → List ℕ → ℤ
values_below s level pos cs = value_from (drop level s.shape) (drop level s.parts) s.val s.format.fill pos cs

-- the position below, at a coordinate
abbrev pub child_at : Storage → ℕ → ℕ → ℕ → Option ℕ
child_at s level pos i = child_in (slice_index s.shape level) (slice_index_or s.parts level part.Dense) pos i

-- the fill everywhere
abbrev pub blank : Storage → List ℕ → ℤ
blank s cs = s.format.fill

-- those of some children alone, by their coordinates and positions, and the fill at the others
abbrev pub values_of : (ℕ → ℕ → Bool) → Storage → ℕ → ℕ → List ℕ → ℤ
values_of some s level pos [] = s.format.fill
values_of some s level pos (i ∷ cs) = below (child_at s level pos i) (λ q. if some i q then values_below s (level + 1) q cs else s.format.fill) s.format.fill

-- those of the children at the places before one
abbrev pub values_before : ℕ → Storage → ℕ → ℕ → List ℕ → ℤ
values_before place = values_of (λ i q. nat_lt q place)

-- the function has the storage's shape and fill, and these values below some coordinates
pub record Holds (s : Storage) (at : List ℕ) (values : List ℕ → ℤ) (f : TensorFunction) : Type 0 where
  pub shape_is : f.shape ≡ s.shape
  pub fill_is : f.fill ≡ s.format.fill
  pub values_are : (cs : List ℕ) → IsTrue (is_in_box (drop (length at) s.shape) cs) → value_at f (at ++ cs) ≡ values cs

-- the functions agree everywhere but below some coordinates
abbrev pub AgreeElsewhere : List ℕ → TensorFunction → TensorFunction → Type 0
AgreeElsewhere at f g = (ds : List ℕ) → ((cs : List ℕ) → ds ≢ at ++ cs) → value_at g ds ≡ value_at f ds

-- just these coordinates lead to the place
pub record IsSpan (n : ℕ) (p : Part) (pos place : ℕ) (from to : ℕ) : Type 0 where
  pub order : from ≤ to
  pub within : to ≤ n
  pub leads : (i : ℕ) → from ≤ i → i < to → child_in n p pos i ≡ Some place
  pub only : (i : ℕ) → i < n → child_in n p pos i ≡ Some place → (from ≤ i) × (i < to)
