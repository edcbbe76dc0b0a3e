use Rattle.std.proofs.Common.{◌≡◌, ◌++◌, drop}
use Rattle.fin_nest.specs.Entries.{looplets}
use Rattle.fin_style_step.specs.Steps.{walkers}
use Rattle.fin_style_step.specs.Parts.{kind_of}
use Rattle.fin_style_step.proofs.walking.push_walkers.Given as goal

abbrev pub invariant-loop-entry : goal.invariant-loop-entry
invariant-loop-entry l =
    l.all ++ walkers (kind_of l.kind) (looplets (drop l.entry-index l.entries))
    ≡ l.initial.all ++ walkers (kind_of l.kind) (looplets l.entries)
