use Rattle.std.proofs.Common.{◌≡◌, drop}
use Rattle.fin_ast.specs.Choices.{choices_at}
use Rattle.fin_dims.proofs.choices.choices_at.Given as goal

abbrev pub invariant-loop-k : goal.invariant-loop-k
invariant-loop-k l = choices_at (drop l.k l.levels) (drop l.k l.at) l.choices ≡ choices_at l.levels l.at l.before
