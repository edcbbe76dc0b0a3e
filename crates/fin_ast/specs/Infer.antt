-- What is found of the dimensions of a program: all numbers, or the first breach.
use Rattle.std.specs.Prelude.{◌≡◌, ◌⊎◌, List, [], ◌∷◌, ◌++◌, Option, Some, None}
use Rattle.std.specs.Option.{option_or}
use Rattle.fin_base.specs.declared.refusal.Rule.TheVariants.{M1}
use Rattle.fin_base.specs.declared.refusal.Refusal.{Refusal}
use Rattle.fin_ast.specs.declared.header.Header.{Header}
use Rattle.fin_ast.specs.declared.place.Place.{Place}
use Rattle.fin_ast.specs.declared.place.Tie.{Tie}
use Rattle.fin_ast.specs.declared.program.Program.{Program}
use Rattle.fin_ast.specs.declared.checked.Dims.{Dims}
use Rattle.fin_ast.specs.Places.{places_of_all}
use Rattle.fin_ast.specs.Ties.{Shapes, Extents, ties_of, IsUneven, IsFirstUneven, AreExtents}
use Rattle.fin_ast.specs.Sizes.{first_large, first_unknown, first_of, outside, first_dense, dims_of}
use Rattle.fin_ast.specs.Choices.{first_in, crowds_of}

-- the shapes that are known: those of the inputs, and those in headers
abbrev pub given : List Header → Shapes → Shapes → Shapes
given (h ∷ hs) (s ∷ inputs) before = given hs inputs (before ++ option_or s h.shape ∷ [])
given _ _ before = before

abbrev pub shapes_in : Program → Shapes → Shapes
shapes_in p inputs = given p.headers inputs []

abbrev pub places_in : Program → List Place
places_in p = places_of_all p.body []

abbrev pub ties_in : Program → List Tie
ties_in p = ties_of (places_in p)

abbrev pub large_in : Program → Option Refusal
large_in p = first_large p.headers (places_in p)

abbrev pub dims_in : Extents → Program → Dims
dims_in extent p = dims_of extent p.headers (places_in p)

-- the first breach of the rules that look at extents, in their order: M2, M3, B1, B3
abbrev pub breach_in : Extents → Program → Option Refusal
breach_in extent p = option_or (first_unknown extent p.headers (places_in p))
    (option_or (first_of (outside extent (dims_in extent p).ranges) (places_in p))
    (option_or (first_dense p.headers (dims_in extent p).shapes) (first_in (crowds_of p.headers p.body))))

-- no rule is broken, and these are the numbers
pub record IsInferred (p : Program) (inputs : Shapes) (dims : Dims) : Type 0 where
  pub extent : Extents
  pub small : large_in p ≡ None
  pub even : ¬ IsUneven (shapes_in p inputs) (ties_in p)
  pub extents : AreExtents (shapes_in p inputs) (ties_in p) extent
  pub kept : breach_in extent p ≡ None
  pub numbers : dims ≡ dims_in extent p

-- M1 is the first breach
pub record IsUnevenFirst (p : Program) (inputs : Shapes) (r : Refusal) : Type 0 where
  pub small : large_in p ≡ None
  pub rule : r.rule ≡ M1
  pub line : IsFirstUneven (shapes_in p inputs) (ties_in p) r.line

-- a rule that looks at extents gives the first breach
pub record IsBrokenAfter (p : Program) (inputs : Shapes) (r : Refusal) : Type 0 where
  pub extent : Extents
  pub small : large_in p ≡ None
  pub even : ¬ IsUneven (shapes_in p inputs) (ties_in p)
  pub extents : AreExtents (shapes_in p inputs) (ties_in p) extent
  pub breach : breach_in extent p ≡ Some r

-- the first breach: of M4 and M5, else of M1, else of the rules that look at extents
abbrev pub IsFirstBreach : Program → Shapes → Refusal → Type 0
IsFirstBreach p inputs r = (large_in p ≡ Some r) ⊎ (IsUnevenFirst p inputs r ⊎ IsBrokenAfter p inputs r)
