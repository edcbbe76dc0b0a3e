use Rattle.std.proofs.Common.{◌≡◌, drop}
use Rattle.fin_ast.specs.Sizes.{first_of, outside}
use Rattle.fin_dims.specs.Settled.{extent_of}
use Rattle.fin_dims.proofs.classes.Classes.first_outside.Given as goal

abbrev pub invariant-loop-place : goal.invariant-loop-place
invariant-loop-place l = first_of (outside (extent_of l.self) l.ranges) (drop l.place-index l.places) ≡ first_of (outside (extent_of l.self) l.ranges) l.places
