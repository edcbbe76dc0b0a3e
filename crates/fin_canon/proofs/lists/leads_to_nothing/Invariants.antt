use Rattle.std.proofs.Common.{◌≡◌, drop}
use Rattle.fin_canon.specs.Nothing.{leads_to_nothing}
use Rattle.fin_canon.proofs.lists.leads_to_nothing.Given as goal

abbrev pub invariant-loop-j : goal.invariant-loop-j
invariant-loop-j l = leads_to_nothing (drop l.k l.levels) (drop l.k l.shape) ≡ leads_to_nothing (drop l.j l.levels) (drop l.j l.shape)
