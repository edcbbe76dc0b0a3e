use Rattle.std.proofs.Common.{◌≡◌, drop}
use Rattle.std.specs.List.{list_all}
use Rattle.fin_looplet.specs.Weight.{is_run}
use Rattle.fin_nest.specs.Entries.{looplets}
use Rattle.fin_descend.proofs.weights.are_runs.Given as goal

abbrev pub invariant-loop-entry : goal.invariant-loop-entry
invariant-loop-entry l = list_all is_run (looplets (drop l.entry-index l.entries)) ≡ list_all is_run (looplets l.entries)
