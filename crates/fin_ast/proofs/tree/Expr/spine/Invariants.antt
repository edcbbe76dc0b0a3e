use Rattle.fin_ast.proofs.Spines.{IsDown}
use Rattle.fin_ast.proofs.tree.Expr.spine.Given as goal

abbrev pub invariant-loop-at : goal.invariant-loop-at
invariant-loop-at l = IsDown l.self l.sides.items l.at
