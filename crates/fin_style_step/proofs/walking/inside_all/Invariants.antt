use Rattle.std.proofs.Common.{◌≡◌, take}
use Rattle.fin_style_step.specs.Parts.{inside_all}
use Rattle.fin_style_step.proofs.walking.inside_all.Given as goal

abbrev pub invariant-loop-entry : goal.invariant-loop-entry
invariant-loop-entry l = l.all ≡ inside_all l.kind l.end (take l.entry-index l.entries)
