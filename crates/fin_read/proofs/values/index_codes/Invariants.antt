use Rattle.std.proofs.Common.{◌≡◌, map, take}
use Rattle.fin_read.specs.Values.{index_code}
use Rattle.fin_read.proofs.values.index_codes.Given as goal

abbrev pub invariant-loop-index : goal.invariant-loop-index
invariant-loop-index l = l.xs ≡ map index_code (take l.index-index l.at)
