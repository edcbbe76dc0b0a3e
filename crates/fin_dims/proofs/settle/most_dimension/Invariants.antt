use Rattle.std.proofs.Common.{◌≤◌, take}
use Rattle.std.specs.Prelude.{All}
use Rattle.fin_dims.proofs.settle.most_dimension.Given as goal

abbrev pub invariant-loop-tie : goal.invariant-loop-tie
invariant-loop-tie l = record {
  least : l.least ≤ l.most;
  all : All (λ t. t.dimension ≤ l.most) (take l.tie-index l.ties);
}
