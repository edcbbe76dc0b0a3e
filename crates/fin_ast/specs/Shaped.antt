-- Extents that fit the headers of a program.
use Rattle.std.specs.Prelude.{ℕ, ◌≤◌, ◌^◌, List, [], ◌∷◌, All, IfSome}
use Rattle.fin_tensor.specs.Building.{CanBuild}
use Rattle.fin_tensor.specs.Levels.{AreSmall}
use Rattle.fin_ast.specs.declared.header.Header.{Header}
use Rattle.fin_ast.specs.declared.program.Program.{Program}
use Rattle.fin_ast.specs.declared.checked.Dims.{Dims}
use Rattle.fin_ast.specs.Ties.{Shapes}
use Rattle.fin_ast.specs.Infer.{IsInferred}

-- each tensor can be built: it has one number for each level, none over 2^40, and its dense extents keep their limit
abbrev pub AreShaped : List Header → List (List ℕ) → Type 0
AreShaped [] [] = Unit {0}
AreShaped (h ∷ hs) (shape ∷ shapes) = CanBuild h.format shape × AreShaped hs shapes
AreShaped hs shapes = ⊥

-- no range reaches over 2^40
abbrev pub AreRanged : List (ℕ × ℕ) → Type 0
AreRanged ranges = All (λ r. r.1 ≤ 2 ^ 40) ranges

pub record FitHeaders (headers : List Header) (dims : Dims) : Type 0 where
  pub shapes : AreShaped headers dims.shapes
  pub ranges : AreRanged dims.ranges

-- no number of a given shape is over 2^40
abbrev pub AreSmallShapes : Shapes → Type 0
AreSmallShapes shapes = All (λ s. IfSome s AreSmall) shapes

-- extents that are found, where the given shapes are small, fit the headers
abbrev pub FoundFit : Type 0
FoundFit = (p : Program) (inputs : Shapes) (dims : Dims) → AreSmallShapes inputs → IsInferred p inputs dims → FitHeaders p.headers dims
