-- The inputs of a program, by header.
use Rattle.std.specs.Prelude.{ℕ, ◌+◌, if◌then◌else◌, List, [], ◌∷◌, map, Option, Some, None, option_map, slice_get}
use Rattle.fin_tensor.specs.TensorFunction.{TensorFunction}
use Rattle.fin_tensor.specs.Stands.{stands}
use Rattle.fin_tensor.specs.declared.storage.Storage.{Storage}
use Rattle.fin_ast.specs.declared.header.Header.{Header}
use Rattle.fin_ast.specs.declared.checked.Checked.{Checked}
use Rattle.fin_ast.specs.Kinds.{is_input}
use Rattle.fin_ast.specs.Dense as dense

-- which input is each header's, of those from n on
abbrev pub numbered : ℕ → List Header → List (Option ℕ)
numbered n [] = []
numbered n (h ∷ hs) = if is_input h.kind then Some n ∷ numbered (n + 1) hs else None ∷ numbered n hs

abbrev pub found : List Storage → Option ℕ → Option TensorFunction
found inputs None = None
found inputs (Some k) = option_map stands (slice_get inputs k)

-- what a program is run over, by these numbers of its inputs
abbrev pub setting_by : Checked → List Storage → List (Option ℕ) → dense.Setting
setting_by c inputs numbers = record { headers = c.program.headers; dims = c.dims; given = map (found inputs) numbers }
