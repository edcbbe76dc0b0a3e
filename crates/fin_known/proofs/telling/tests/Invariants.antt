use Rattle.std.proofs.Common.{◌≡◌, take}
use Rattle.fin_known.proofs.telling.tests.Given as goal

abbrev pub invariant-loop-known : goal.invariant-loop-known
invariant-loop-known l = l.all.items ≡ take l.known-index l.around
