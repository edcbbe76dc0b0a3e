use Rattle.std.proofs.Common.{◌≡◌, map, drop, length}
use Rattle.fin_ast.specs.Value.{place, coordinates as coordinates_of}
use Rattle.fin_dense.proofs.Coordinates.{prefix}
use Rattle.fin_dense.proofs.points.coordinates.Given as goal

abbrev pub invariant-loop-k : goal.invariant-loop-k
invariant-loop-k l = record {
  even : length l.shape ≡ length l.at;
  so_far : prefix l.found (coordinates_of (drop l.k l.shape) (map (place l.vars) (drop l.k l.at))) ≡ coordinates_of l.shape (map (place l.vars) l.at);
}
