-- A program after insertion that meets the checks, and inputs that fit it.
use Rattle.std.specs.Prelude.{◌≡◌, ℕ, if◌then◌else◌, List, [], ◌∷◌, None}
use Rattle.fin_tensor.specs.Canon.{undecorated}
use Rattle.fin_tensor.specs.declared.storage.Storage.{Storage}
use Rattle.fin_ast.specs.declared.header.Header.{Header}
use Rattle.fin_ast.specs.declared.checked.Checked.{Checked}
use Rattle.fin_ast.specs.Kinds.{is_input}
use Rattle.fin_ast.specs.Ties.{Shapes}
use Rattle.fin_ast.specs.Infer.{IsInferred}
use Rattle.fin_ast.specs.Life.{life_in}
use Rattle.fin_ast.specs.Order.{order_in}
use Rattle.fin_ast.specs.Shaped.{AreSmallShapes}

-- it breaks no rule on the life of tensors, on extents, and on the order of updates, and its extents are those found
pub record IsAccepted (c : Checked) : Type 0 where
  pub shapes : Shapes
  pub small : AreSmallShapes shapes
  pub life : life_in c.program ≡ None
  pub extents : IsInferred c.program shapes c.dims
  pub order : order_in c.program ≡ None

-- the headers of inputs, each with its shape
abbrev pub inputs_among : List Header → List (List ℕ) → List (Header × List ℕ)
inputs_among (h ∷ hs) (shape ∷ shapes) = if is_input h.kind then (h, shape) ∷ inputs_among hs shapes else inputs_among hs shapes
inputs_among _ _ = []

-- the storages have the formats and shapes of the inputs, in the order of headers
abbrev pub HaveFormats : List (Header × List ℕ) → List Storage → Type 0
HaveFormats [] [] = Unit {0}
HaveFormats (e ∷ es) (s ∷ inputs) = (s.format ≡ undecorated e.0.format) × (s.shape ≡ e.1) × HaveFormats es inputs
HaveFormats es inputs = ⊥

abbrev pub FitProgram : Checked → List Storage → Type 0
FitProgram c inputs = HaveFormats (inputs_among c.program.headers c.dims.shapes) inputs
