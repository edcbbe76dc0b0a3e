-- That extents fit headers has one proof. A ghost field asks that here, beside what it cites.
use Rattle.std.specs.Prelude.{ℕ, List, [], ◌∷◌}
use Rattle.std.specs.Coded.{Unit-prop}
use Rattle.std.proofs.Props.{props}
use Rattle.fin_tensor.specs.declared.format.Format.{Format}
use Rattle.fin_tensor.specs.Building.{CanBuild}
use Rattle.fin_tensor.specs.OneProof.{IsPlaced-prop, IsShape-prop}
use Rattle.fin_ast.specs.declared.header.Header.{Header}
use Rattle.fin_ast.specs.declared.checked.Dims.{Dims}
use Rattle.fin_ast.specs.Shaped.{AreShaped, AreRanged, FitHeaders}

CanBuild-prop : (format : Format) (shape : List ℕ) → IsProp (CanBuild format shape)
CanBuild-prop format shape = hlevel (props, IsPlaced-prop format.levels format.wrap, IsShape-prop format.levels shape)

AreShaped-prop : (hs : List Header) (shapes : List (List ℕ)) → IsProp (AreShaped hs shapes)
AreShaped-prop [] [] = Unit-prop
AreShaped-prop [] (s ∷ shapes) = hlevel props
AreShaped-prop (h ∷ hs) [] = hlevel props
AreShaped-prop (h ∷ hs) (s ∷ shapes) = hlevel (props, CanBuild-prop h.format s, AreShaped-prop hs shapes)

AreRanged-prop : (ranges : List (ℕ × ℕ)) → IsProp (AreRanged ranges)
AreRanged-prop [] = hlevel props
AreRanged-prop (r ∷ rs) = hlevel props

pub FitHeaders-prop : (headers : List Header) (dims : Dims) → IsProp (FitHeaders headers dims)
FitHeaders-prop headers dims = hlevel (props, AreShaped-prop headers dims.shapes, AreRanged-prop dims.ranges)
