use Rattle.std.proofs.Common.{◌≡◌, drop}
use Rattle.fin_style_step.specs.Steps.{least}
use Rattle.fin_style_step.proofs.codes.least.Given as goal

abbrev pub invariant-loop-walker : goal.invariant-loop-walker
invariant-loop-walker l = least (drop l.walker-index l.walkers) l.joint ≡ least l.walkers l.fn.end
