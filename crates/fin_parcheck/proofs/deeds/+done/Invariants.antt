use Rattle.std.proofs.Common.{◌≡◌, drop}
use Rattle.fin_parcheck.specs.Walk.{declared_in, deeds_along, walks_of}
use Rattle.fin_parcheck.proofs.deeds.+done.Given as goal

abbrev pub invariant-gather_all-loop-statement : goal.invariant-gather_all-loop-statement
invariant-gather_all-loop-statement l = deeds_along (walks_of (drop l.statement-index l.body)) (declared_in l.outer) l.into ≡ deeds_along (walks_of l.body) (declared_in l.outer) l.fn.into
