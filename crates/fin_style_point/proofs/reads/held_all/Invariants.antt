use Rattle.std.proofs.Common.{◌≡◌, take, map}
use Rattle.fin_nest.specs.Entries.{with_looplet}
use Rattle.fin_style_point.specs.Steps.{held}
use Rattle.fin_style_point.proofs.reads.held_all.Given as goal

abbrev pub invariant-loop-entry : goal.invariant-loop-entry
invariant-loop-entry l = l.all ≡ map (with_looplet held) (take l.entry-index l.entries)
