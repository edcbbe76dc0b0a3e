use Rattle.std.proofs.Common.{◌+◌, ◌*◌, take}
use Rattle.fin_descend.specs.Parts.{weight_in, heaviest}
use Rattle.fin_descend.specs.Flat.{FlattenEach}
use Rattle.fin_descend.proofs.flattening.+flatten.Given as goal

abbrev pub decreases-flatten : goal.decreases-flatten
decreases-flatten g l = 5 * weight_in l.nest.now + 1

abbrev pub decreases-flatten_open : goal.decreases-flatten_open
decreases-flatten_open g l = 5 * weight_in l.nest.now

abbrev pub decreases-flatten_split : goal.decreases-flatten_split
decreases-flatten_split g l = 5 * heaviest l.split.nests + 4

abbrev pub decreases-flatten_parts : goal.decreases-flatten_parts
decreases-flatten_parts g l = 5 * heaviest l.split.now.nests + 3

abbrev pub decreases-flatten_each : goal.decreases-flatten_each
decreases-flatten_each g l = 5 * heaviest l.nests.now + 2

abbrev pub invariant-flatten_each-loop-nest : goal.invariant-flatten_each-loop-nest
invariant-flatten_each-loop-nest g l =
    FlattenEach (g.A.Asks.stands l.asks) (g.A.Asks.comes l.asks) (g.A.Asks.fixed l.asks) (take l.nest-index l.nests) l.frames l.leaves l.room
