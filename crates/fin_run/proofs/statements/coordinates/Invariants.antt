use Rattle.std.proofs.Common.{◌≡◌, take, map, pos}
use Rattle.fin_run.specs.Ends.{evaluated}
use Rattle.fin_run.proofs.statements.coordinates.Given as goal

abbrev pub invariant-loop-index : goal.invariant-loop-index
invariant-loop-index l = map pos l.coords ≡ take l.index-index (map (evaluated l.inputs l.state) l.at)
