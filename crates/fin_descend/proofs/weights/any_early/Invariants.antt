use Rattle.std.proofs.Common.{◌≡◌, drop}
use Rattle.std.specs.List.{list_any}
use Rattle.fin_nest.specs.Entries.{looplets}
use Rattle.fin_descend.specs.Heads.{is_early}
use Rattle.fin_descend.proofs.weights.any_early.Given as goal

abbrev pub invariant-loop-entry : goal.invariant-loop-entry
invariant-loop-entry l = list_any is_early (looplets (drop l.entry-index l.entries)) ≡ list_any is_early (looplets l.entries)
