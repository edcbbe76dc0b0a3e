use Rattle.std.proofs.Common.{◌≡◌, ◌*◌, ◌+◌, length}
use Rattle.fin_ast.specs.Spine.{expr_of, nodes_of}
use Rattle.fin_ast.proofs.Spines.{IsUp}
use Rattle.fin_ast.proofs.+copies.Given as goal

abbrev pub decreases-copy::copy_head : goal.decreases-copy::copy_head
decreases-copy::copy_head l = 2 * nodes_of (expr_of l.head)

abbrev pub decreases-tree::Expr::copy : goal.decreases-tree::Expr::copy
decreases-tree::Expr::copy l = 2 * nodes_of l.self.now + 1

abbrev pub invariant-tree::Expr::copy-loop-op : goal.invariant-tree::Expr::copy-loop-op
invariant-tree::Expr::copy-loop-op l = IsUp l.self l.sides.items (λ x. l.whole ≡ x)

abbrev pub decreases-tree::Expr::copy-loop-op : goal.decreases-tree::Expr::copy-loop-op
decreases-tree::Expr::copy-loop-op l = length l.sides.items
