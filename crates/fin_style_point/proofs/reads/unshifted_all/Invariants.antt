use Rattle.std.proofs.Common.{◌≡◌, take, map}
use Rattle.fin_nest.specs.Entries.{with_looplet}
use Rattle.fin_style_point.specs.Steps.{unshifted}
use Rattle.fin_style_point.proofs.reads.unshifted_all.Given as goal

abbrev pub invariant-loop-entry : goal.invariant-loop-entry
invariant-loop-entry l = l.all ≡ map (with_looplet unshifted) (take l.entry-index l.entries)
