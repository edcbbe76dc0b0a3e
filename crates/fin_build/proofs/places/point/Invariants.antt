use Rattle.std.proofs.Common.{◌≡◌, take}
use Rattle.fin_build.proofs.places.point.Given as goal

abbrev pub invariant-loop-coord : goal.invariant-loop-coord
invariant-loop-coord l = l.point ≡ take l.coord-index l.coords
