-- The rules on numbers, and the shapes and ranges that the extents give.
use Rattle.std.specs.Prelude.{ℕ, ℤ, pos, negsuc, ◌+◌, ◌-◌, ◌*◌, Bool, true, false, not, ◌&&◌, ◌||◌, nat_lt, nat_le, unsigned_abs, List, [], ◌∷◌, ◌++◌, Option, Some, None, is_none, unwrap_or, filter_map, slice_index_or}
use Rattle.std.specs.List.{list_any}
use Rattle.std.specs.Option.{option_or}
use Rattle.fin_base.specs.declared.refusal.Rule.{Rule}
use Rattle.fin_base.specs.declared.refusal.Rule.TheVariants.{M2, M3, M4, M5, B1}
use Rattle.fin_base.specs.declared.refusal.Refusal.{Refusal}
use Rattle.fin_tensor.specs.declared.format.Level.{Level}
use Rattle.fin_tensor.specs.Extents.{dense_size}
use Rattle.fin_ast.specs.declared.header.Header.{Header}
use Rattle.fin_ast.specs.declared.place.Place.{Place}
use Rattle.fin_ast.specs.declared.place.Place.TheVariants.{Loop, Let, Use}
use Rattle.fin_ast.specs.declared.checked.Dims.{Dims}
use Rattle.fin_ast.specs.Ties.{Node, Dimension, OfLoop, Extents}

-- the rule is broken there, where it is broken
abbrev pub broken : Bool → Rule → ℕ → Option Refusal
broken true rule line = Some (record { rule = rule; line = line })
broken false rule line = None

-- the first breach in text order
abbrev pub first_of : {A : Type 0} → (A → Option Refusal) → List A → Option Refusal
first_of breach [] = None
first_of breach (x ∷ xs) = option_or (breach x) (first_of breach xs)

-- the same of tensors, by their numbers from n on
abbrev pub first_from : (ℕ → Header → Option Refusal) → ℕ → List Header → Option Refusal
first_from breach n [] = None
first_from breach n (h ∷ hs) = option_or (breach n h) (first_from breach (n + 1) hs)

-- M4: a range ends above its beginning. M5: no number is over 2^40. A number's line is that of its header, loop or access
abbrev pub is_large : ℕ → Bool
is_large n = nat_lt 1099511627776 n

abbrev pub has_large : Option (List ℕ) → Bool
has_large None = false
has_large (Some numbers) = list_any is_large numbers

abbrev pub large_in_header : Header → Option Refusal
large_in_header h = broken (has_large h.shape) M5 h.line

abbrev pub large_in_place : Place → Option Refusal
large_in_place (Loop var None line) = None
large_in_place (Loop var (Some range) line) = option_or (broken (nat_le range.1 range.0) M4 line) (broken (is_large range.0 || is_large range.1) M5 line)
large_in_place Let = None
large_in_place (Use dimension i line) = broken (is_large (unsigned_abs i.offset)) M5 line

abbrev pub first_large : List Header → List Place → Option Refusal
first_large headers places = option_or (first_of large_in_header headers) (first_of large_in_place places)

-- M2: each dimension of a tensor and each loop without range has an extent
abbrev pub lacks_extent : Extents → ℕ → List Level → Bool
lacks_extent extent dimension [] = false
lacks_extent extent dimension (l ∷ ls) = is_none (extent (Dimension dimension)) || lacks_extent extent (dimension + 1) ls

abbrev pub unknown_in_header : Extents → ℕ → Header → Option Refusal
unknown_in_header extent tensor h = broken (lacks_extent extent (8 * tensor) h.format.levels) M2 h.line

abbrev pub unknown_in_place : Extents → Place → Option Refusal
unknown_in_place extent (Loop var None line) = broken (is_none (extent (OfLoop var))) M2 line
unknown_in_place extent (Loop var (Some range) line) = None
unknown_in_place extent Let = None
unknown_in_place extent (Use dimension i line) = None

abbrev pub first_unknown : Extents → List Header → List Place → Option Refusal
first_unknown extent headers places = option_or (first_from (unknown_in_header extent) 0 headers) (first_of (unknown_in_place extent) places)

-- the numbers: a shape for each tensor, and a range for each loop and let
abbrev pub number_of : Extents → Node → ℕ
number_of extent a = unwrap_or (extent a) 0

abbrev pub shape_from : Extents → ℕ → List Level → List ℕ → List ℕ
shape_from extent dimension [] before = before
shape_from extent dimension (l ∷ ls) before = shape_from extent (dimension + 1) ls (before ++ number_of extent (Dimension dimension) ∷ [])

abbrev pub shape_of : Extents → ℕ → Header → List ℕ
shape_of extent tensor h = shape_from extent (8 * tensor) h.format.levels []

abbrev pub shapes_from : Extents → ℕ → List Header → List (List ℕ) → List (List ℕ)
shapes_from extent tensor [] before = before
shapes_from extent tensor (h ∷ hs) before = shapes_from extent (tensor + 1) hs (before ++ shape_of extent tensor h ∷ [])

abbrev pub range_of : Extents → Place → Option (ℕ × ℕ)
range_of extent (Loop var None line) = Some (0, number_of extent (OfLoop var))
range_of extent (Loop var (Some range) line) = Some range
range_of extent Let = Some (0, 0)
range_of extent (Use dimension i line) = None

abbrev pub ranges_of : Extents → List Place → List (ℕ × ℕ)
ranges_of extent places = filter_map (range_of extent) places

abbrev pub dims_of : Extents → List Header → List Place → Dims
dims_of extent headers places = record { shapes = shapes_from extent 0 headers []; ranges = ranges_of extent places }

-- M3: for some number of the range, the sum with the offset is below 0 or not below the extent
abbrev pub leaves : ℤ → ℕ × ℕ → ℕ → Bool
leaves (pos n) range extent = nat_lt range.0 range.1 && nat_lt extent (range.1 + n)
leaves (negsuc n) range extent = nat_lt range.0 range.1 && (nat_lt range.0 (n + 1) || nat_lt extent (range.1 - (n + 1)))

-- a number alone is a sum with 0
abbrev pub range_at : List (ℕ × ℕ) → Option ℕ → ℕ × ℕ
range_at ranges None = (0, 1)
range_at ranges (Some var) = slice_index_or ranges var (0, 0)

abbrev pub outside : Extents → List (ℕ × ℕ) → Place → Option Refusal
outside extent ranges (Loop var range line) = None
outside extent ranges Let = None
outside extent ranges (Use dimension i line) = broken (not i.loose && leaves i.offset (range_at ranges i.first) (number_of extent (Dimension dimension))) M3 line

-- B1: the product of the dense extents of a tensor that aren't 0 is at most 2^24
abbrev pub too_dense : Header → List ℕ → Option Refusal
too_dense h shape = broken (nat_lt 16777216 (dense_size h.format.levels shape)) B1 h.line

abbrev pub first_dense : List Header → List (List ℕ) → Option Refusal
first_dense (h ∷ hs) (shape ∷ shapes) = option_or (too_dense h shape) (first_dense hs shapes)
first_dense _ _ = None
