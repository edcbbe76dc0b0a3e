use Rattle.std.proofs.Common.{◌≡◌, drop}
use Rattle.std.specs.List.{list_all}
use Rattle.fin_nest.specs.Entries.{looplets}
use Rattle.fin_style_point.specs.Steps.{is_flat}
use Rattle.fin_stmts.proofs.fixed.are_flat.Given as goal

abbrev pub invariant-loop-entry : goal.invariant-loop-entry
invariant-loop-entry l = list_all is_flat (looplets (drop l.entry-index l.entries)) ≡ list_all is_flat (looplets l.entries)
