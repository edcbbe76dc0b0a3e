use Rattle.std.proofs.Common.{◌≡◌, drop}
use Rattle.fin_nest.specs.Entries.{looplets}
use Rattle.fin_style_point.specs.Parts.{first_test}
use Rattle.fin_style_point.proofs.sides.first_test.Given as goal

abbrev pub invariant-loop-entry : goal.invariant-loop-entry
invariant-loop-entry l = first_test (looplets (drop l.entry-index l.entries)) ≡ first_test (looplets l.entries)
