use Rattle.std.proofs.Common.{◌≡◌, drop}
use Rattle.fin_nest.specs.Styles.{has, switch}
use Rattle.fin_nest.specs.Entries.{looplets}
use Rattle.fin_style_point.proofs.heads.any_switch.Given as goal

abbrev pub invariant-loop-entry : goal.invariant-loop-entry
invariant-loop-entry l = has switch (looplets (drop l.entry-index l.entries)) ≡ has switch (looplets l.entries)
