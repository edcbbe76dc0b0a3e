use Rattle.std.proofs.Common.{◌≡◌}
use Rattle.fin_run.specs.States.{zeros}
use Rattle.fin_run.proofs.state.zeros.Given as goal

abbrev pub invariant-loop : goal.invariant-loop
invariant-loop l = l.all ≡ zeros l.counter
