use Rattle.std.proofs.Common.{◌≡◌, drop}
use Rattle.fin_ast.specs.Choices.{first_in, crowds_of}
use Rattle.fin_dims.proofs.choices.+crowd.Given as goal

abbrev pub invariant-first_crowd-loop-statement : goal.invariant-first_crowd-loop-statement
invariant-first_crowd-loop-statement l = first_in (crowds_of l.headers (drop l.statement-index l.body)) ≡ first_in (crowds_of l.headers l.body)
