use Rattle.std.proofs.Common.{◌≡◌, drop}
use Rattle.fin_ast.specs.Places.{places_of_all}
use Rattle.fin_ast.proofs.gather.+gathered.Given as goal

abbrev pub invariant-gather_all-loop-statement : goal.invariant-gather_all-loop-statement
invariant-gather_all-loop-statement l = places_of_all (drop l.statement-index l.body) l.into.items ≡ places_of_all l.body l.fn.into.items
