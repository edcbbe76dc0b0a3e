use Rattle.std.proofs.Common.{◌≡◌, drop}
use Rattle.fin_ast.specs.Order.{are_variables}
use Rattle.fin_life.proofs.loops.are_variables.Given as goal

abbrev pub invariant-loop-k : goal.invariant-loop-k
invariant-loop-k l = are_variables (drop l.k l.loops) (drop l.k l.at) ≡ are_variables l.loops l.at
