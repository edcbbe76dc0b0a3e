use Rattle.std.proofs.Common.{◌+◌, ◌*◌, take}
use Rattle.fin_descend.specs.Parts.{weight_in, heaviest}
use Rattle.fin_descend.specs.Promises.{MeanEach}
use Rattle.fin_descend.proofs.descending.+descend.Given as goal

abbrev pub decreases-descend : goal.decreases-descend
decreases-descend g l = 5 * weight_in l.nest.now + 1

abbrev pub decreases-descend_open : goal.decreases-descend_open
decreases-descend_open g l = 5 * weight_in l.nest.now

abbrev pub decreases-descend_split : goal.decreases-descend_split
decreases-descend_split g l = 5 * heaviest l.split.nests + 4

abbrev pub decreases-descend_parts : goal.decreases-descend_parts
decreases-descend_parts g l = 5 * heaviest l.split.now.nests + 3

abbrev pub decreases-descend_each : goal.decreases-descend_each
decreases-descend_each g l = 5 * heaviest l.nests.now + 2

abbrev pub invariant-descend_each-loop-nest : goal.invariant-descend_each-loop-nest
invariant-descend_each-loop-nest g l = MeanEach (g.B.Bodies.stands l.bodies) (take l.nest-index l.nests) l.codes l.room
