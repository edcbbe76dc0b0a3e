use Rattle.std.proofs.Common.{◌≡◌, ◌++◌, map, length}
use Rattle.fin_descend.specs.Parts.{as_point}
use Rattle.fin_descend.proofs.stepping.as_points.Given as goal

abbrev pub invariant-loop-nest : goal.invariant-loop-nest
invariant-loop-nest l = l.all ++ map as_point l.rest ≡ map as_point l.fn.nests

abbrev pub decreases-loop-nest : goal.decreases-loop-nest
decreases-loop-nest l = length l.rest
