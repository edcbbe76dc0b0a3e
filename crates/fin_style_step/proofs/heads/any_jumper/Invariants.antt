use Rattle.std.proofs.Common.{◌≡◌, drop}
use Rattle.fin_nest.specs.Styles.{has, jumper}
use Rattle.fin_nest.specs.Entries.{looplets}
use Rattle.fin_style_step.proofs.heads.any_jumper.Given as goal

abbrev pub invariant-loop-entry : goal.invariant-loop-entry
invariant-loop-entry l = has jumper (looplets (drop l.entry-index l.entries)) ≡ has jumper (looplets l.entries)
