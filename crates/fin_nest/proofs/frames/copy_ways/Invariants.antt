use Rattle.std.proofs.Common.{◌≡◌, take}
use Rattle.fin_nest.proofs.frames.copy_ways.Given as goal

abbrev pub invariant-loop-updated : goal.invariant-loop-updated
invariant-loop-updated l = l.copies ≡ take l.updated-index l.ways
