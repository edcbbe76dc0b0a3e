use Rattle.std.proofs.Common.{◌≤◌}
use Rattle.fin_ast.specs.declared.tree.Expr.{size-Expr}
use Rattle.fin_ast.proofs.tree.Expr.+drop.Given as goal

abbrev pub decreases-drop : goal.decreases-drop
decreases-drop l = goal.size-drop l

abbrev pub invariant-loop-self : goal.invariant-loop-self
invariant-loop-self l = size-Expr l.self ≤ size-Expr l.initial.self
