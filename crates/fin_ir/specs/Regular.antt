-- Regular runs, and machines and storages that fit a layout.
use Rattle.std.specs.Prelude.{◌≡◌, ℕ, ◌<◌, ◌≤◌, IsTrue, true, nat_eq, if◌then◌else◌, List, [], ◌∷◌, map, length}
use Rattle.fin_tensor.specs.declared.format.Format.{Format}
use Rattle.fin_tensor.specs.declared.storage.Storage.{Storage}
use Rattle.fin_ir.specs.declared.code.Code.{Code}
use Rattle.fin_ir.specs.declared.layout.Layout.{Layout}
use Rattle.fin_ir.specs.Machine.{Tensor, nothing, building, stored, held, Machine, format_at, shape_at}
use Rattle.fin_ir.specs.Meaning.{meaning}
use Rattle.fin_ir.specs.Named.{is_named}

-- The code names what the layout has, and no statement of its run from m is asked for what it can't do.
pub record Regular (layout : Layout) (code : Code) (m : Machine) : Type 0 where
  pub named : IsTrue (is_named layout code)
  pub runs : (meaning layout code m).regular ≡ true

-- its three lists have one length, at most 256
pub record IsLayout (layout : Layout) : Type 0 where
  pub shapes : length layout.shapes ≡ length layout.formats
  pub kinds : length layout.kinds ≡ length layout.formats
  pub few : length layout.formats ≤ 256

-- the formats and shapes of the inputs, in order
abbrev pub input_boxes : List ℕ → List Format → List (List ℕ) → List (Format × List ℕ)
input_boxes [] fs ns = []
input_boxes (k ∷ ks) [] ns = []
input_boxes (k ∷ ks) (f ∷ fs) [] = []
input_boxes (k ∷ ks) (f ∷ fs) (n ∷ ns) = if nat_eq k 0 then (f, n) ∷ input_boxes ks fs ns else input_boxes ks fs ns

-- there is one storage for each input, in order, with its format and shape
pub record InputsFit (layout : Layout) (inputs : List Storage) : Type 0 where
  pub layout_is : IsLayout layout
  pub boxes : map (λ s. (s.format, s.shape)) inputs ≡ input_boxes layout.kinds layout.formats layout.shapes

-- a tensor of a format, but for its decoration, and a shape
abbrev pub IsOf : Format → List ℕ → Tensor → Type 0
IsOf format shape nothing = Unit {0}
IsOf format shape (building b) = (b.format.levels ≡ format.levels) × (b.format.fill ≡ format.fill) × (b.function.fill ≡ format.fill) × (b.function.shape ≡ shape)
IsOf format shape (stored s) = (s.format.levels ≡ format.levels) × (s.format.fill ≡ format.fill) × (s.shape ≡ shape)

pub record Fits (layout : Layout) (m : Machine) : Type 0 where
  pub layout_is : IsLayout layout
  pub locals : length m.locals ≡ layout.locals
  pub tensors : length m.tensors ≡ length layout.formats
  pub each : (t : ℕ) → t < length layout.formats → IsOf (format_at layout t) (shape_at layout t) (held m.tensors t)
