use Rattle.std.proofs.Common.{◌≡◌, ◌++◌, drop}
use Rattle.fin_style_step.specs.Parts.{here_all}
use Rattle.fin_style_step.proofs.dividing.here_all.Given as goal

abbrev pub invariant-loop-entry : goal.invariant-loop-entry
invariant-loop-entry l = l.all ++ here_all l.end l.waits (drop l.entry-index l.entries) ≡ here_all l.end l.initial.waits l.entries
