use Rattle.std.proofs.Common.{◌≡◌, take}
use Rattle.fin_build.specs.Merging.{joined}
use Rattle.fin_build.proofs.builder.Builder.join.Given as goal

abbrev pub invariant-loop-entry : goal.invariant-loop-entry
invariant-loop-entry l = l.self ≡ joined l.by (take l.entry-index l.entries) l.fn.self
