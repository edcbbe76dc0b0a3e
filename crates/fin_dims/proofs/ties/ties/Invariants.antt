use Rattle.std.proofs.Common.{◌≡◌, take}
use Rattle.std.specs.Prelude.{filter_map}
use Rattle.fin_ast.specs.Ties.{tie_of}
use Rattle.fin_dims.specs.Start.{flag_of}
use Rattle.fin_dims.proofs.ties.ties.Given as goal

abbrev pub invariant-loop-place : goal.invariant-loop-place
invariant-loop-place l = l.ties.items ≡ filter_map (tie_of (flag_of l.flags)) (take l.place-index l.places)
