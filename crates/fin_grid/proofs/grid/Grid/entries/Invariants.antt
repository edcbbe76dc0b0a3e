use Rattle.std.proofs.Common.{◌≡◌, map}
use Rattle.std.specs.Map.Iter.{deref_pair}
use Rattle.fin_grid.proofs.grid.Grid.entries.Given as goal

abbrev pub invariant-loop-coords : goal.invariant-loop-coords
invariant-loop-coords l = l.entries.items ≡ map deref_pair l.yielded
