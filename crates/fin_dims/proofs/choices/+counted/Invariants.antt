use Rattle.std.proofs.Common.{◌≡◌, drop}
use Rattle.fin_ast.specs.Choices.{choices_in, crowds_of}
use Rattle.fin_dims.proofs.choices.+counted.Given as goal

abbrev pub invariant-choices_of_all-loop-statement : goal.invariant-choices_of_all-loop-statement
invariant-choices_of_all-loop-statement l = choices_in (crowds_of l.headers (drop l.statement-index l.body)) l.choices ≡ choices_in (crowds_of l.headers l.body) l.before
