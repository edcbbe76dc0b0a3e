use Rattle.std.proofs.Common.{◌≡◌, drop}
use Rattle.fin_nest.specs.Entries.{looplets}
use Rattle.fin_style_step.specs.Parts.{first_stop}
use Rattle.fin_style_step.proofs.dividing.first_stop.Given as goal

abbrev pub invariant-loop-entry : goal.invariant-loop-entry
invariant-loop-entry l = first_stop (looplets (drop l.entry-index l.entries)) ≡ first_stop (looplets l.entries)
