use Rattle.std.proofs.Common.{◌≡◌, drop}
use Rattle.fin_parcheck.specs.Walk.{declared_in, loops_along, walks_of}
use Rattle.fin_parcheck.proofs.loops.+found.Given as goal

abbrev pub invariant-find_all-loop-statement : goal.invariant-find_all-loop-statement
invariant-find_all-loop-statement l = loops_along (walks_of (drop l.statement-index l.body)) (declared_in l.now) l.into.items ≡ loops_along (walks_of l.body) (declared_in l.declared) l.fn.into.items
