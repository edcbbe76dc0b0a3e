use Rattle.std.proofs.Common.{◌≡◌, take}
use Rattle.fin_ast.specs.Sizes.{ranges_of}
use Rattle.fin_dims.specs.Settled.{extent_of}
use Rattle.fin_dims.proofs.classes.Classes.ranges.Given as goal

abbrev pub invariant-loop-place : goal.invariant-loop-place
invariant-loop-place l = l.ranges ≡ ranges_of (extent_of l.self) (take l.place-index l.places)
