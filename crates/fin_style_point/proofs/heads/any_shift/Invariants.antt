use Rattle.std.proofs.Common.{◌≡◌, drop}
use Rattle.fin_nest.specs.Styles.{has, shift}
use Rattle.fin_nest.specs.Entries.{looplets}
use Rattle.fin_style_point.proofs.heads.any_shift.Given as goal

abbrev pub invariant-loop-entry : goal.invariant-loop-entry
invariant-loop-entry l = has shift (looplets (drop l.entry-index l.entries)) ≡ has shift (looplets l.entries)
