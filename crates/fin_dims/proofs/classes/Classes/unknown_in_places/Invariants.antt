use Rattle.std.proofs.Common.{◌≡◌, drop}
use Rattle.fin_ast.specs.Sizes.{first_of, unknown_in_place}
use Rattle.fin_dims.specs.Settled.{extent_of}
use Rattle.fin_dims.proofs.classes.Classes.unknown_in_places.Given as goal

abbrev pub invariant-loop-place : goal.invariant-loop-place
invariant-loop-place l = first_of (unknown_in_place (extent_of l.self)) (drop l.place-index l.places) ≡ first_of (unknown_in_place (extent_of l.self)) l.places
