use Rattle.std.proofs.Common.{◌≡◌, ◌++◌, drop}
use Rattle.fin_style_step.specs.Steps.{place}
use Rattle.fin_style_step.proofs.codes.push_places.Given as goal

abbrev pub invariant-loop-walker : goal.invariant-loop-walker
invariant-loop-walker l = l.codes ++ place (drop l.walker-index l.walkers) l.at ≡ l.initial.codes ++ place l.walkers l.at
