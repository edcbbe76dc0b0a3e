use Rattle.std.proofs.Common.{◌≡◌, drop}
use Rattle.fin_ast.specs.Sizes.{first_of, large_in_place}
use Rattle.fin_dims.proofs.large.large_in_places.Given as goal

abbrev pub invariant-loop-place : goal.invariant-loop-place
invariant-loop-place l = first_of large_in_place (drop l.place-index l.places) ≡ first_of large_in_place l.places
