use Rattle.std.proofs.Common.{◌≡◌, ◌++◌, drop}
use Rattle.fin_style_step.specs.Parts.{others_all}
use Rattle.fin_style_step.proofs.dividing.others_all.Given as goal

abbrev pub invariant-loop-entry : goal.invariant-loop-entry
invariant-loop-entry l = l.all ++ others_all l.waits (drop l.entry-index l.entries) ≡ others_all l.initial.waits l.entries
