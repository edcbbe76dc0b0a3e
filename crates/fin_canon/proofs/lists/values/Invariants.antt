use Rattle.std.proofs.Common.{◌≡◌, take, map}
use Rattle.fin_canon.specs.Ranges.{value_of}
use Rattle.fin_canon.proofs.lists.values.Given as goal

abbrev pub invariant-loop-r : goal.invariant-loop-r
invariant-loop-r l = l.val ≡ map (value_of l.entries l.format.fill) (take l.r-index l.slices)
