use Rattle.std.proofs.Common.{◌≡◌, ◌++◌, drop}
use Rattle.fin_style_point.specs.Parts.{choose}
use Rattle.fin_style_point.proofs.sides.choose.Given as goal

abbrev pub invariant-loop-entry : goal.invariant-loop-entry
invariant-loop-entry l = l.all ++ choose l.branch l.waits (drop l.entry-index l.entries) ≡ choose l.branch l.initial.waits l.entries
