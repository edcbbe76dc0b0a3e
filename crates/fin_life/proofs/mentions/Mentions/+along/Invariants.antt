use Rattle.std.proofs.Common.{◌≡◌, ◌*◌, ◌+◌, length}
use Rattle.fin_ast.specs.Spine.{expr_of, nodes_of}
use Rattle.fin_ast.proofs.Spines.{IsUp}
use Rattle.fin_life.specs.Mentions.{mention_in, note_of_expr}
use Rattle.fin_life.proofs.mentions.Mentions.+along.Given as goal

abbrev pub decreases-note_expr : goal.decreases-note_expr
decreases-note_expr l = 2 * nodes_of l.expr.now + 1

abbrev pub decreases-note_head : goal.decreases-note_head
decreases-note_head l = 2 * nodes_of (expr_of l.head)

abbrev pub invariant-note_expr-loop-op : goal.invariant-note_expr-loop-op
invariant-note_expr-loop-op l = IsUp l.expr l.sides.items (λ x. mention_in l.self ≡ note_of_expr x (mention_in l.fn.self))

abbrev pub decreases-note_expr-loop-op : goal.decreases-note_expr-loop-op
decreases-note_expr-loop-op l = length l.sides.items
