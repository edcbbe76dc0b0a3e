use Rattle.std.proofs.Common.{◌≡◌, drop}
use Rattle.fin_style_step.specs.Steps.{greatest}
use Rattle.fin_style_step.proofs.codes.greatest.Given as goal

abbrev pub invariant-loop-walker : goal.invariant-loop-walker
invariant-loop-walker l = greatest (drop l.walker-index l.walkers) l.joint ≡ greatest l.walkers l.fn.from
