-- What is made keeps the shapes and fills that its headers and extents give, and what is stored of it.
use Rattle.std.specs.Prelude.{◌≡◌, ℕ, ◌+◌, List, ◌∷◌, ◌++◌, Contains, IfSome, unwrap_or}
use Rattle.fin_tensor.specs.TensorFunction.{TensorFunction, filled}
use Rattle.fin_tensor.specs.Canon.{IsAllowedIn}
use Rattle.fin_tensor.specs.declared.format.Format.{Format}
use Rattle.fin_tensor.specs.declared.storage.Storage.{Storage}
use Rattle.fin_canon.specs.Entries.{undecorated}
use Rattle.fin_ast.specs.declared.header.Header.{Header}
use Rattle.fin_ast.specs.declared.checked.Checked.{Checked}
use Rattle.fin_ast.specs.Dense.{Setting, State, Made, made_at, shape_at, fill_of, run_all, unbound, started as started_over}
use Rattle.fin_dense.specs.Plain.{AreStored, outputs_from}

pub record HasHeader (w : Setting) (tensor : ℕ) (f : TensorFunction) : Type 0 where
  pub shape : f.shape ≡ shape_at w tensor
  pub fill : f.fill ≡ fill_of w tensor

abbrev pub HaveHeaders : Setting → Made → Type 0
HaveHeaders w made = (tensor : ℕ) → IfSome (made_at made tensor) (HasHeader w tensor)

-- what a program makes, over any setting
abbrev pub whole : Setting → Checked → State
whole w c = run_all w c.program.body (unbound c.dims) (started_over c.program.headers)

-- the function of a tensor at the end
abbrev pub function_in : Setting → Made → ℕ → TensorFunction
function_in w made tensor = unwrap_or (made_at made tensor) (filled (shape_at w tensor) (fill_of w tensor))

-- the storages go on from one list to another by what is stored for one header
abbrev pub Adds : (ℕ → TensorFunction) → ℕ → Header → List (ℕ × Storage) → List (ℕ × Storage) → Type 0
Adds f tensor h old new =
    (hs : List Header) (os : List (ℕ × Storage)) → AreStored f (outputs_from (tensor + 1) hs) os → (ps : List (ℕ × Storage)) × (new ++ os ≡ old ++ ps) × AreStored f (outputs_from tensor (h ∷ hs)) ps

-- its storage isn't valid, by its size
abbrev pub IsTooLarge : Format → TensorFunction → Type 0
IsTooLarge format f = IsAllowedIn (undecorated format) f → ⊥

-- an output is too large to store
abbrev pub HasLarge : (ℕ → TensorFunction) → List Header → Type 0
HasLarge f headers = (e : ℕ × Header) × Contains (outputs_from 0 headers) e × IsTooLarge e.1.format (f e.0)
