use Rattle.std.proofs.Common.{◌≡◌, ◌≤◌}
use Rattle.std.specs.Option.{option_or}
use Rattle.fin_ast.specs.Spine.{nodes_of}
use Rattle.fin_life.specs.Passage.{breach_of_expr}
use Rattle.fin_life.specs.Table.{mode_in}
use Rattle.fin_life.proofs.life.+expr_breach.Given as goal

abbrev pub decreases-expr_breach : goal.decreases-expr_breach
decreases-expr_breach l = nodes_of l.expr.now

abbrev pub invariant-loop-at : goal.invariant-loop-at
invariant-loop-at l = record {
  small : nodes_of l.at ≤ nodes_of l.expr;
  first : option_or (breach_of_expr (mode_in l.now) l.at) l.later ≡ breach_of_expr (mode_in l.now) l.expr;
}

abbrev pub decreases-loop-at : goal.decreases-loop-at
decreases-loop-at l = nodes_of l.at
