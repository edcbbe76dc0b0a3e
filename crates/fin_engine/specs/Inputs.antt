-- The tensors of a job against the headers of its program.
use Rattle.std.specs.Prelude.{ℕ, Bool, true, false, not, ◌&&◌, List, map, Option, Some, None, is_none, option_map, filter_map, slice_get, if◌then◌else◌}
use Rattle.std.specs.List.{list_any}
use Rattle.std.specs.Map.{lookup}
use Rattle.std.specs.Option.{option_or}
use Rattle.std.specs.Ordering.{int_eq}
use Rattle.std.specs.Str.{bytes_eq}
use Rattle.std.specs.Cmp.Lexicographic.{pointwise}
use Rattle.fin_base.specs.declared.refusal.Refusal.{Refusal}
use Rattle.fin_base.specs.declared.refusal.Rule.TheVariants.{X6}
use Rattle.fin_tensor.specs.declared.format.Format.{Format}
use Rattle.fin_tensor.specs.declared.format.Level.{Level}
use Rattle.fin_tensor.specs.declared.format.Level.TheVariants.{Dense, List as SortedList, Runs, Band, Dict}
use Rattle.fin_tensor.specs.declared.storage.Storage.{Storage}
use Rattle.fin_ast.specs.declared.header.Header.{Header}
use Rattle.fin_ast.specs.Kinds.{is_input}
use Rattle.fin_ast.specs.Sizes.{broken, first_of}
use Rattle.fin_ast.specs.Ties.{Shapes}
use Rattle.fin_text.specs.declared.read.Given.{Given}

-- tensors by their names, in the order of the text
abbrev pub Tensors : Type 0
Tensors = List (List ℕ × Given)

abbrev pub tensor_named : Tensors → List ℕ → Option Given
tensor_named given name = lookup (bytes_eq name) given

abbrev pub same_level : Level → Level → Bool
same_level Dense Dense = true
same_level SortedList SortedList = true
same_level Runs Runs = true
same_level Band Band = true
same_level Dict Dict = true
same_level _ _ = false

-- formats without decoration that are the same
abbrev pub same_format : Format → Format → Bool
same_format a b = pointwise same_level a.levels b.levels && int_eq a.fill b.fill

-- X6 at the header of an input that has no tensor
abbrev pub lacking : Tensors → Header → Option Refusal
lacking given h = broken (is_input h.kind && is_none (tensor_named given h.name)) X6 h.line

-- a header of an input with the name, format and fill of a tensor
abbrev pub is_header_of : List ℕ × Given → Header → Bool
is_header_of e h = is_input h.kind && bytes_eq h.name e.0 && same_format h.format e.1.storage.format

-- X6 at the first line of a tensor that has no such header
abbrev pub straying : List Header → List ℕ × Given → Option Refusal
straying headers e = broken (not (list_any (is_header_of e) headers)) X6 e.1.line

abbrev pub straying_some : List Header → Option (List ℕ × Given) → Option Refusal
straying_some headers None = None
straying_some headers (Some e) = straying headers e

-- the same of the tensor at a place, where there is one
abbrev pub straying_at : List Header → Tensors → ℕ → Option Refusal
straying_at headers given place = straying_some headers (slice_get given place)

-- the first breach of X6
abbrev pub unmatched : List Header → Tensors → Option Refusal
unmatched headers given = option_or (first_of (lacking given) headers) (first_of (straying headers) given)

-- the tensor of a header, where it is that of an input
abbrev pub given_to : Tensors → Header → Option Given
given_to given h = if is_input h.kind then tensor_named given h.name else None

abbrev pub storage_of : Given → Storage
storage_of g = g.storage

abbrev pub shape_of : Given → List ℕ
shape_of g = g.storage.shape

-- the storages of the inputs, in the order of headers
abbrev pub inputs_of : List Header → Tensors → List Storage
inputs_of headers given = filter_map (λ h. option_map storage_of (given_to given h)) headers

-- the shapes of the inputs, by header
abbrev pub shapes_of : List Header → Tensors → Shapes
shapes_of headers given = map (λ h. option_map shape_of (given_to given h)) headers
