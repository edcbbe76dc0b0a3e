use Rattle.std.proofs.Common.{◌≡◌, ◌++◌, map, take, drop}
use Rattle.fin_dims.specs.Classes.{relabelled}
use Rattle.fin_dims.proofs.classes.relabel.Given as goal

abbrev pub invariant-loop-k : goal.invariant-loop-k
invariant-loop-k l = l.labels.items ≡ map (relabelled l.from l.to) (take l.k l.fn.labels.items) ++ drop l.k l.fn.labels.items
