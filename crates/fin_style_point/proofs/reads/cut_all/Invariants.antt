use Rattle.std.proofs.Common.{◌≡◌, take, map}
use Rattle.fin_looplet.specs.Cut.{cut}
use Rattle.fin_nest.specs.Entries.{with_looplet}
use Rattle.fin_style_point.proofs.reads.cut_all.Given as goal

abbrev pub invariant-loop-entry : goal.invariant-loop-entry
invariant-loop-entry l = l.all ≡ map (with_looplet (cut l.end)) (take l.entry-index l.entries)
